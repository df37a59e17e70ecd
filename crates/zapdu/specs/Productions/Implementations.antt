-- The last places of InitializeRequest and InitializeResponse (Z39.50-2003, 4.1 and 3.2.1.1).
use Rattle.std.specs.Prelude.{ℕ, List, Option, refl}
use Rattle.zber.specs.AsnTags.{context, universal}
use Rattle.zber.specs.Elements.{Element}
use Rattle.zasn.specs.Table.{ComponentTable, optional, ended, ◌⨾◌, Elements}
use Rattle.zasn.specs.Places.{of_table, octets, opaque, within, explicit}
use Rattle.zapdu.specs.declared.productions.external.External.{External}
use Rattle.zapdu.specs.declared.productions.implementation.Implementation.{Implementation}
use Rattle.zapdu.specs.Productions.Externals.{external_parts}

-- implementationId [110], implementationName [111], implementationVersion [112], userInformationField [11] EXTERNAL,
-- whose tag is explicit, otherInfo [201]
abbrev pub implementation_table : ComponentTable Implementation
implementation_table =
    optional (octets (context 110)) (λ v. v.implementation_id)
    ⨾ optional (octets (context 111)) (λ v. v.implementation_name)
    ⨾ optional (octets (context 112)) (λ v. v.implementation_version)
    ⨾ optional (explicit (context 11) (within (universal 8) external_parts)) (λ v. v.user_information_field)
    ⨾ optional (opaque (context 201)) (λ v. v.other_info)
    ⨾ ended

-- the last five fields of an InitializeRequest or an InitializeResponse as one value
abbrev pub implementation : Option (List ℕ) → Option (List ℕ) → Option (List ℕ) → Option External → Option Element
    → Implementation
implementation id name version information other =
    record {
      implementation_id = id;
      implementation_name = name;
      implementation_version = version;
      user_information_field = information;
      other_info = other;
    }

-- implementationId to otherInfo of an Init APDU (Z39.50-2003, 4.1): how these elements are read and built
unfoldable pub implementation_parts : Elements Implementation
implementation_parts = of_table implementation_table implementation (λ v. refl) (λ x. refl) refl
