-- Close [48] (Z39.50-2003, 4.1 and 3.2.11).
use Rattle.std.specs.Prelude.{refl}
use Rattle.zber.specs.AsnTags.{context, universal}
use Rattle.zasn.specs.Table.{ComponentTable, required, optional, ended, ◌⨾◌, Elements}
use Rattle.zasn.specs.Places.{of_table, octets, integer, oid, opaque, within, explicit}
use Rattle.zapdu.specs.declared.productions.close.Close.{Close}
use Rattle.zapdu.specs.Productions.Externals.{external_parts}

-- referenceId [2], closeReason [211], diagnosticInformation [3], resourceReportFormat [4], resourceReport [5]
-- EXTERNAL, whose tag is explicit, otherInfo [201]
abbrev pub close_table : ComponentTable Close
close_table =
    optional (octets (context 2)) (λ v. v.reference_id)
    ⨾ required (integer (context 211)) (λ v. v.close_reason)
    ⨾ optional (octets (context 3)) (λ v. v.diagnostic_information)
    ⨾ optional (oid (context 4)) (λ v. v.resource_report_format)
    ⨾ optional (explicit (context 5) (within (universal 8) external_parts)) (λ v. v.resource_report)
    ⨾ optional (opaque (context 201)) (λ v. v.other_info)
    ⨾ ended

-- Close (Z39.50-2003, 4.1): how its elements are read and built
unfoldable pub close_parts : Elements Close
close_parts =
    of_table close_table
    (λ a b c d e f. record {
      reference_id = a;
      close_reason = b;
      diagnostic_information = c;
      resource_report_format = d;
      resource_report = e;
      other_info = f;
    })
    (λ v. refl) (λ x. refl) refl
