-- The copies of a record are members of JSON.
use Rattle.std.proofs.Common.{◌≡◌, ℕ, true, Option, Some, None, List, [], ◌∷◌, ◌++◌, refl}
use Rattle.std.specs.Prelude.{codes, unwrap_or}
use Rattle.std.specs.List.{flat_map}
use Rattle.json.proofs.Printed.Utf8.{are_ascii}
use Rattle.zapdu.specs.declared.productions.external.Content.{Content}
use Rattle.zapdu.specs.declared.productions.external.External.{External}
use Rattle.zapdu.specs.Text.{octets_alone}
use Rattle.zknow.specs.Encodings.{encoding}
use Rattle.zopac.specs.declared.circulation.Circulation.{Circulation}
use Rattle.zopac.specs.declared.holding.Holding.{Holding}
use Rattle.zopac.specs.declared.holding.Holding.TheVariants.{Marc, Copy}
use Rattle.zopac.specs.declared.holdings.HoldingsAndCirc.{HoldingsAndCirc}
use Rattle.zopac.specs.declared.opac.OpacRecord.{OpacRecord}
use Rattle.zopac.specs.declared.volume.Volume.{Volume}
use Rattle.zopac.specs.HoldingKinds.{holding}
use Rattle.zmarc.specs.declared.charset.Charset.{Charset}
use Rattle.zknow_json.specs.Holdings.{given_member, volume_object, volumes_member, availability_members, item_members, loan_members, circulation_object, circulations_member, leader_members, report_members, code_members, library_members, shelf_members, place_members, note_members, whole_members, copy_members, marc_holding_members, holding_members, holding_object, holdings_member, opac_of, bibliographic_members, opac_members, members_with, read_members}
use Rattle.zknow_json.specs.Members.{object}
use Rattle.zknow_json.proofs.Objects.{AreMembers, AreItems, IsObject, no_items_plain, more_items, nothing, both, among, boolean_plain, octets_plain, received_plain, object_plain, array_plain}
use Rattle.zknow_json.proofs.PlainFields.{field_names, fields_plain}

abbrev Names : Type 0
Names = List (List ℕ)

-- ---- texts

abbrev given_names : List ℕ → Names
given_names name = name ∷ (name ++ codes "Octets") ∷ []

given_plain : (name : List ℕ) (text : Option (List ℕ)) → are_ascii name ≡ true
    → are_ascii (name ++ codes "Octets") ≡ true → AreMembers (given_names name) (given_member name text)
unfolding given_member
given_plain name None a b = among (given_names name) refl nothing
given_plain name (Some octets) a b = received_plain name (name ++ codes "Octets") octets a b

-- ---- volumes

volume_plain : (v : Volume) → IsObject (volume_object v)
unfolding volume_object
volume_plain v =
    object_plain refl
    (both (both (given_plain (codes "enumeration") v.enumeration refl refl)
    (given_plain (codes "chronology") v.chronology refl refl))
    (given_plain (codes "enumAndChron") v.enumeration_and_chronology refl refl))

each_volume_plain : (volumes : List Volume) → AreItems (flat_map volume_object volumes)
each_volume_plain [] = no_items_plain
each_volume_plain (v ∷ volumes) = more_items (volume_plain v) (each_volume_plain volumes)

volumes_plain : (volumes : Option (List Volume)) → AreMembers (codes "volumes" ∷ []) (volumes_member volumes)
volumes_plain None = among (codes "volumes" ∷ []) refl nothing
volumes_plain (Some volumes) = array_plain (codes "volumes") refl (each_volume_plain volumes)

-- ---- items

abbrev availability_names : Names
availability_names =
    (codes "availableNow" ∷ []) ++ given_names (codes "availabilityDate") ++ given_names (codes "availableThru")

availability_plain : (r : Circulation) → AreMembers availability_names (availability_members r)
unfolding availability_members
availability_plain r =
    among availability_names refl
    (both (both (boolean_plain (codes "availableNow") r.available_now refl)
    (given_plain (codes "availabilityDate") r.availability_date refl refl))
    (given_plain (codes "availableThru") r.available_through refl refl))

abbrev item_names : Names
item_names = given_names (codes "restrictions") ++ given_names (codes "itemId")

item_plain : (r : Circulation) → AreMembers item_names (item_members r)
unfolding item_members
item_plain r =
    among item_names refl
    (both (given_plain (codes "restrictions") r.restrictions refl refl)
    (given_plain (codes "itemId") r.item_id refl refl))

abbrev loan_names : Names
loan_names =
    (codes "renewable" ∷ []) ++ (codes "onHold" ∷ []) ++ given_names (codes "enumAndChron")
    ++ given_names (codes "midspine") ++ given_names (codes "temporaryLocation")

loan_plain : (r : Circulation) → AreMembers loan_names (loan_members r)
unfolding loan_members
loan_plain r =
    among loan_names refl
    (both (both (both (both (boolean_plain (codes "renewable") r.renewable refl)
    (boolean_plain (codes "onHold") r.on_hold refl))
    (given_plain (codes "enumAndChron") r.enumeration_and_chronology refl refl))
    (given_plain (codes "midspine") r.midspine refl refl))
    (given_plain (codes "temporaryLocation") r.temporary_location refl refl))

circulation_plain : (r : Circulation) → IsObject (circulation_object r)
unfolding circulation_object
circulation_plain r = object_plain refl (both (both (availability_plain r) (item_plain r)) (loan_plain r))

each_circulation_plain : (items : List Circulation) → AreItems (flat_map circulation_object items)
each_circulation_plain [] = no_items_plain
each_circulation_plain (r ∷ items) = more_items (circulation_plain r) (each_circulation_plain items)

circulations_plain : (items : Option (List Circulation))
    → AreMembers (codes "circulationData" ∷ []) (circulations_member items)
circulations_plain None = among (codes "circulationData" ∷ []) refl nothing
circulations_plain (Some items) = array_plain (codes "circulationData") refl (each_circulation_plain items)

-- ---- copies

abbrev code_names : Names
code_names =
    given_names (codes "typeOfRecord") ++ given_names (codes "encodingLevel") ++ given_names (codes "format")
    ++ given_names (codes "receiptAcqStatus") ++ given_names (codes "generalRetention")
    ++ given_names (codes "completeness") ++ given_names (codes "dateOfReport")

code_plain : (c : HoldingsAndCirc) → AreMembers code_names (code_members c)
unfolding code_members leader_members report_members
code_plain c =
    among code_names refl
    (both (both (both (both (given_plain (codes "typeOfRecord") c.type_of_record refl refl)
    (given_plain (codes "encodingLevel") c.encoding_level refl refl))
    (given_plain (codes "format") c.format refl refl))
    (given_plain (codes "receiptAcqStatus") c.receipt_status refl refl))
    (both (both (given_plain (codes "generalRetention") c.general_retention refl refl)
    (given_plain (codes "completeness") c.completeness refl refl))
    (given_plain (codes "dateOfReport") c.date_of_report refl refl)))

abbrev place_names : Names
place_names =
    given_names (codes "nucCode") ++ given_names (codes "localLocation") ++ given_names (codes "shelvingLocation")
    ++ given_names (codes "callNumber") ++ given_names (codes "shelvingData") ++ given_names (codes "copyNumber")

place_plain : (c : HoldingsAndCirc) → AreMembers place_names (place_members c)
unfolding place_members library_members shelf_members
place_plain c =
    among place_names refl
    (both (both (both (given_plain (codes "nucCode") c.nuc_code refl refl)
    (given_plain (codes "localLocation") c.local_location refl refl))
    (given_plain (codes "shelvingLocation") c.shelving_location refl refl))
    (both (both (given_plain (codes "callNumber") c.call_number refl refl)
    (given_plain (codes "shelvingData") c.shelving_data refl refl))
    (given_plain (codes "copyNumber") c.copy_number refl refl)))

abbrev note_names : Names
note_names =
    given_names (codes "publicNote") ++ given_names (codes "reproductionNote")
    ++ given_names (codes "termsUseRepro") ++ given_names (codes "enumAndChron")

note_plain : (c : HoldingsAndCirc) → AreMembers note_names (note_members c)
unfolding note_members
note_plain c =
    among note_names refl
    (both (both (both (given_plain (codes "publicNote") c.public_note refl refl)
    (given_plain (codes "reproductionNote") c.reproduction_note refl refl))
    (given_plain (codes "termsUseRepro") c.terms_of_use refl refl))
    (given_plain (codes "enumAndChron") c.enumeration_and_chronology refl refl))

abbrev copy_names : Names
copy_names =
    code_names ++ place_names ++ note_names ++ codes "volumes" ∷ codes "circulationData" ∷ []

copy_plain : (c : HoldingsAndCirc) → AreMembers copy_names (copy_members c)
unfolding copy_members whole_members
copy_plain c =
    among copy_names refl
    (both (both (both (both (code_plain c) (place_plain c)) (note_plain c)) (volumes_plain c.volumes))
    (circulations_plain c.circulations))

-- ---- holdings

abbrev marc_names : Names
marc_names = codes "marcHoldingsRecord" ∷ codes "encoding" ∷ []

marc_plain : (v : External) (o : Option (List ℕ × List ℕ)) → AreMembers marc_names (marc_holding_members v o)
marc_plain v None =
    among marc_names refl (octets_plain (codes "encoding") (encoding holding (Marc v)) refl)
marc_plain v (Some p) = among marc_names refl (octets_plain (codes "marcHoldingsRecord") p.1 refl)

holding_plain : (h : Holding) → IsObject (holding_object h)
unfolding holding_object
holding_plain (Marc v) =
    object_plain refl (marc_plain v (octets_alone v.direct v.indirect v.descriptor v.content))
holding_plain (Copy c) = object_plain refl (copy_plain c)

each_holding_plain : (holdings : List Holding) → AreItems (flat_map holding_object holdings)
each_holding_plain [] = no_items_plain
each_holding_plain (h ∷ holdings) = more_items (holding_plain h) (each_holding_plain holdings)

holdings_plain : (holdings : Option (List Holding)) → AreMembers (codes "holdings" ∷ []) (holdings_member holdings)
holdings_plain None = among (codes "holdings" ∷ []) refl nothing
holdings_plain (Some holdings) = array_plain (codes "holdings") refl (each_holding_plain holdings)

-- ---- records with copies

bibliographic_plain : (charset : Option Charset) (v : Option External)
    → AreMembers field_names (bibliographic_members charset v)
bibliographic_plain charset None = among field_names refl nothing
bibliographic_plain charset (Some v) = fields_plain charset v.direct v.content

abbrev pub read_names : Names
read_names = field_names ++ codes "holdings" ∷ []

with_plain : (charset : Option Charset) (direct : Option (List ℕ)) (content : Content) (o : Option OpacRecord)
    → AreMembers read_names (members_with charset direct content o)
unfolding opac_members
with_plain charset direct content None = among read_names refl (fields_plain charset direct content)
with_plain charset direct content (Some o) =
    both (bibliographic_plain charset o.bibliographic) (holdings_plain o.holdings)

pub read_plain : (charset : Option Charset) (direct : Option (List ℕ)) (content : Content)
    → AreMembers read_names (read_members charset direct content)
unfolding read_members
read_plain charset direct content = with_plain charset direct content (opac_of (unwrap_or direct []) content)
