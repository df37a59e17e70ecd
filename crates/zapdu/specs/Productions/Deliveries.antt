-- The last places of a PresentRequest (Z39.50-2003, 4.1 and 3.2.3).
use Rattle.std.specs.Prelude.{ℕ, List, [], Option, refl}
use Rattle.zber.specs.AsnTags.{context}
use Rattle.zber.specs.Elements.{Element}
use Rattle.zasn.specs.Table.{ComponentTable, optional, ended, ◌⨾◌, Elements}
use Rattle.zasn.specs.Places.{of_table, oid, opaque, kept}
use Rattle.zapdu.specs.declared.productions.delivery.Delivery.{Delivery}

-- preferredRecordSyntax [104], maxSegmentCount [204], maxRecordSize [206], maxSegmentSize [207], otherInfo [201]; the
-- last four are kept as their elements
abbrev pub delivery_table : ComponentTable Delivery
delivery_table =
    optional (oid (context 104)) (λ v. v.preferred_record_syntax)
    ⨾ optional (kept (context 204) []) (λ v. v.max_segment_count)
    ⨾ optional (kept (context 206) []) (λ v. v.max_record_size)
    ⨾ optional (kept (context 207) []) (λ v. v.max_segment_size)
    ⨾ optional (opaque (context 201)) (λ v. v.other_info)
    ⨾ ended

-- the last five fields of a PresentRequest as one value
abbrev pub delivery : Option (List ℕ) → Option Element → Option Element → Option Element → Option Element → Delivery
delivery syntax segments record_size segment_size other =
    record {
      preferred_record_syntax = syntax;
      max_segment_count = segments;
      max_record_size = record_size;
      max_segment_size = segment_size;
      other_info = other;
    }

-- PresentRequest from preferredRecordSyntax on (Z39.50-2003, 4.1): how its elements are read and built
unfoldable pub delivery_parts : Elements Delivery
delivery_parts = of_table delivery_table delivery (λ v. refl) (λ x. refl) refl
