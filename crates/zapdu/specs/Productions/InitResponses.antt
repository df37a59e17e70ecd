-- InitializeResponse [21] (Z39.50-2003, 4.1 and 3.2.1.1).
use Rattle.std.specs.Prelude.{◌≡◌, true, refl}
use Rattle.zber.specs.AsnTags.{context}
use Rattle.zasn.specs.Table.{ComponentTable, required, optional, also, ◌⨾◌, Elements, clear}
use Rattle.zasn.specs.Places.{of_table, octets, bits, integer, boolean}
use Rattle.zapdu.specs.declared.productions.init_response.InitResponse.{InitResponse}
use Rattle.zapdu.specs.Productions.Implementations.{implementation, implementation_parts}

-- referenceId [2], protocolVersion [3], options [4], preferredMessageSize [5], exceptionalRecordSize [6],
-- result [12], then the places that an InitializeRequest also ends with
abbrev pub init_response_table : ComponentTable InitResponse
init_response_table =
    optional (octets (context 2)) (λ v. v.reference_id)
    ⨾ required (bits (context 3)) (λ v. v.protocol_version)
    ⨾ required (bits (context 4)) (λ v. v.options)
    ⨾ required (integer (context 5)) (λ v. v.preferred_message_size)
    ⨾ required (integer (context 6)) (λ v. v.exceptional_record_size)
    ⨾ required (boolean (context 12)) (λ v. v.result)
    ⨾ also implementation_parts
    (λ v. implementation v.implementation_id v.implementation_name v.implementation_version v.user_information_field
    v.other_info)

-- no optional place has a tag that comes again after it
pub init_response_clear : clear init_response_table ≡ true
unfolding implementation_parts
init_response_clear = refl

-- InitializeResponse (Z39.50-2003, 4.1): how its elements are read and built
unfoldable pub init_response_parts : Elements InitResponse
init_response_parts =
    of_table init_response_table
    (λ a b c d e f g. record {
      reference_id = a;
      protocol_version = b;
      options = c;
      preferred_message_size = d;
      exceptional_record_size = e;
      result = f;
      implementation_id = g.implementation_id;
      implementation_name = g.implementation_name;
      implementation_version = g.implementation_version;
      user_information_field = g.user_information_field;
      other_info = g.other_info;
    })
    (λ v. refl) (λ x. refl) init_response_clear
