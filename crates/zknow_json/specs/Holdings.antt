-- The copies of a record of the syntax OPAC, as members of its object (Z39.50-2003, Appendix REC: OPACRecord). Members
-- have the standard's names of the fields.
use Rattle.std.specs.Prelude.{ℕ, if◌then◌else◌, Option, Some, None, unwrap_or, List, [], ◌∷◌, ◌++◌, codes}
use Rattle.std.specs.List.{flat_map}
use Rattle.std.specs.Str.{bytes_eq}
use Rattle.json.specs.Token.{Token}
use Rattle.zapdu.specs.declared.productions.external.Content.{Content}
use Rattle.zapdu.specs.declared.productions.external.Content.TheVariants.{Single, Aligned, Arbitrary}
use Rattle.zapdu.specs.declared.productions.external.External.{External}
use Rattle.zapdu.specs.Text.{octets_alone}
use Rattle.zknow.specs.Encodings.{encoding}
use Rattle.zopac.specs.declared.circulation.Circulation.{Circulation}
use Rattle.zopac.specs.declared.holding.Holding.{Holding}
use Rattle.zopac.specs.declared.holding.Holding.TheVariants.{Marc, Copy}
use Rattle.zopac.specs.declared.holdings.HoldingsAndCirc.{HoldingsAndCirc}
use Rattle.zopac.specs.declared.opac.OpacRecord.{OpacRecord}
use Rattle.zopac.specs.declared.volume.Volume.{Volume}
use Rattle.zopac.specs.HoldingKinds.{holding}
use Rattle.zopac.specs.Opacs.{opac_meaning}
use Rattle.zmarc.specs.declared.charset.Charset.{Charset}
use Rattle.zknow_json.specs.Fields.{field_members}
use Rattle.zknow_json.specs.Members.{boolean_member, octets_member, received_member, object, array_member}

-- ---- texts

-- a member with a text that came as octets, if there is one; the name of all its octets ends in `Octets`
unfoldable pub given_member : List ℕ → Option (List ℕ) → List Token
given_member name None = []
given_member name (Some octets) = received_member name (name ++ codes "Octets") octets

-- ---- volumes (Volume)

-- a volume
unfoldable pub volume_object : Volume → List Token
volume_object v =
    object (given_member (codes "enumeration") v.enumeration ++ given_member (codes "chronology") v.chronology
    ++ given_member (codes "enumAndChron") v.enumeration_and_chronology)

-- the volumes of a copy, if it has this field
abbrev pub volumes_member : Option (List Volume) → List Token
volumes_member None = []
volumes_member (Some volumes) = array_member (codes "volumes") (flat_map volume_object volumes)

-- ---- items (CircRecord)

-- whether an item is available, when, and to whom
unfoldable pub availability_members : Circulation → List Token
availability_members r =
    boolean_member (codes "availableNow") r.available_now
    ++ given_member (codes "availabilityDate") r.availability_date
    ++ given_member (codes "availableThru") r.available_through

-- who may have it, and its identifier
unfoldable pub item_members : Circulation → List Token
item_members r =
    given_member (codes "restrictions") r.restrictions ++ given_member (codes "itemId") r.item_id

-- whether its loan can be renewed, whether it is reserved, which item it is and where it stands
unfoldable pub loan_members : Circulation → List Token
loan_members r =
    boolean_member (codes "renewable") r.renewable ++ boolean_member (codes "onHold") r.on_hold
    ++ given_member (codes "enumAndChron") r.enumeration_and_chronology
    ++ given_member (codes "midspine") r.midspine
    ++ given_member (codes "temporaryLocation") r.temporary_location

-- an item
unfoldable pub circulation_object : Circulation → List Token
circulation_object r = object (availability_members r ++ item_members r ++ loan_members r)

-- the items of a copy, if it has this field
abbrev pub circulations_member : Option (List Circulation) → List Token
circulations_member None = []
circulations_member (Some circulations) =
    array_member (codes "circulationData") (flat_map circulation_object circulations)

-- ---- copies (HoldingsAndCircData)

-- the codes of MARC 21 for holdings: of the leader, 007 and the status in 008
unfoldable pub leader_members : HoldingsAndCirc → List Token
leader_members c =
    given_member (codes "typeOfRecord") c.type_of_record
    ++ given_member (codes "encodingLevel") c.encoding_level
    ++ given_member (codes "format") c.format
    ++ given_member (codes "receiptAcqStatus") c.receipt_status

-- the others of 008
unfoldable pub report_members : HoldingsAndCirc → List Token
report_members c =
    given_member (codes "generalRetention") c.general_retention
    ++ given_member (codes "completeness") c.completeness
    ++ given_member (codes "dateOfReport") c.date_of_report

-- the codes
unfoldable pub code_members : HoldingsAndCirc → List Token
code_members c = leader_members c ++ report_members c

-- the library and the room
unfoldable pub library_members : HoldingsAndCirc → List Token
library_members c =
    given_member (codes "nucCode") c.nuc_code
    ++ given_member (codes "localLocation") c.local_location
    ++ given_member (codes "shelvingLocation") c.shelving_location

-- the place on the shelf
unfoldable pub shelf_members : HoldingsAndCirc → List Token
shelf_members c =
    given_member (codes "callNumber") c.call_number
    ++ given_member (codes "shelvingData") c.shelving_data
    ++ given_member (codes "copyNumber") c.copy_number

-- where the copy stands
unfoldable pub place_members : HoldingsAndCirc → List Token
place_members c = library_members c ++ shelf_members c

-- notes about it
unfoldable pub note_members : HoldingsAndCirc → List Token
note_members c =
    given_member (codes "publicNote") c.public_note
    ++ given_member (codes "reproductionNote") c.reproduction_note
    ++ given_member (codes "termsUseRepro") c.terms_of_use
    ++ given_member (codes "enumAndChron") c.enumeration_and_chronology

-- what is said of the copy as a whole
unfoldable pub whole_members : HoldingsAndCirc → List Token
whole_members c = code_members c ++ place_members c ++ note_members c

-- a copy
unfoldable pub copy_members : HoldingsAndCirc → List Token
copy_members c = whole_members c ++ volumes_member c.volumes ++ circulations_member c.circulations

-- ---- holdings (HoldingsRecord)

-- the octets of a record of MARC for holdings, if the EXTERNAL has a syntax and octets and nothing else; else the
-- canonical encoding of its HoldingsRecord
abbrev pub marc_holding_members : External → Option (List ℕ × List ℕ) → List Token
marc_holding_members v None = octets_member (codes "encoding") (encoding holding (Marc v))
marc_holding_members v (Some p) = octets_member (codes "marcHoldingsRecord") p.1

-- what is said of a copy
abbrev pub holding_members : Holding → List Token
holding_members (Marc v) =
    marc_holding_members v (octets_alone v.direct v.indirect v.descriptor v.content)
holding_members (Copy c) = copy_members c

-- one of a record's holdings
unfoldable pub holding_object : Holding → List Token
holding_object h = object (holding_members h)

-- the holdings of a record, if it has this field
abbrev pub holdings_member : Option (List Holding) → List Token
holdings_member None = []
holdings_member (Some holdings) = array_member (codes "holdings") (flat_map holding_object holdings)

-- ---- records with copies (OPACRecord)

-- the syntax OPAC, a bibliographic record with its copies: 1.2.840.10003.5.102
abbrev pub opac : List ℕ
opac = 1 ∷ 2 ∷ 840 ∷ 10003 ∷ 5 ∷ 102 ∷ []

-- the record with its copies that an element in a syntax stands for, if it stands for one
abbrev pub opac_of : List ℕ → Content → Option OpacRecord
opac_of syntax (Single e) = if bytes_eq syntax opac then opac_meaning e else None
opac_of syntax (Aligned octets) = None
opac_of syntax (Arbitrary bits) = None

-- the fields of the bibliographic record, if there is one; the character set of the target's records may be known
abbrev pub bibliographic_members : Option Charset → Option External → List Token
bibliographic_members charset None = []
bibliographic_members charset (Some v) = field_members charset v.direct v.content

-- the fields of the bibliographic record, then the holdings
unfoldable pub opac_members : Option Charset → OpacRecord → List Token
opac_members charset o = bibliographic_members charset o.bibliographic ++ holdings_member o.holdings

-- what is read in a record with its copies; in another record its own fields
abbrev pub members_with : Option Charset → Option (List ℕ) → Content → Option OpacRecord → List Token
members_with charset direct content None = field_members charset direct content
members_with charset direct content (Some o) = opac_members charset o

-- what is read in a record: its fields, and its holdings where it has them
unfoldable pub read_members : Option Charset → Option (List ℕ) → Content → List Token
read_members charset direct content = members_with charset direct content (opac_of (unwrap_or direct []) content)
