-- The places of productions, each one record with its laws, and a table as the elements of a value.
use Rattle.std.specs.Prelude.{◌≡◌, ℕ, ℤ, Bool, true, List, [], ◌∷◌, Option, Some, None, if◌then◌else◌, refl}
use Rattle.zber.specs.AsnTags.{AsnTag}
use Rattle.zber.specs.Elements.{Element, tag_of}
use Rattle.zber.specs.Tags.{among}
use Rattle.zasn_tables.specs.Standing.{required as one, ended as no_more, tagged, sequence}
use Rattle.zasn_tables.specs.Reading.{constructed}
use Rattle.zasn_tables.specs.Building.{constructed_spelling}
use Rattle.zasn_tables.specs.Laws.{IsLawfulPlace, IsSpelled}
use Rattle.zasn_tables.specs.Meanings.{octets_meaning, octets_spelling, oid_meaning, oid_spelling, bits_meaning, bits_spelling, int_meaning, int_spelling, bool_meaning, bool_spelling}
use Rattle.zasn_tables.specs.Place.{Place}
use Rattle.zasn_tables.specs.Within.{sequence_of, around, itself, any_at, is_kept, each, list_meaning, whole_of, all_spellings}
use Rattle.zasn_tables.specs.Choice.{Choice, Pick, picked, ValueWrites, choice_meaning, choice_spelling, choice_tags, distinct}
use Rattle.zasn_tables.specs.Table.{ComponentTable, required, ended, Elements, Fields, fields, Maker, make_of, TableWrites, walk, put, tags_of, clear}
use Rattle.zasn_tables.proofs.Readings.{constructed_at_tag}
use Rattle.zasn_tables.proofs.Builds.{constructed_spelled}
use Rattle.zasn_tables.proofs.Meanings.{octets_place, octets_spelled, oid_place, oid_spelled, bits_place, bits_spelled, int_place, int_spelled, bool_place, bool_spelled}
use Rattle.zasn_tables.proofs.Tables.{value_read, value_made}
use Rattle.zasn_tables.proofs.Choices.{pick_some, choice_begins, pick_reads, pick_finds, choice_makes, choice_none}
use Rattle.zasn_tables.proofs.Withins.{within_place, within_spelled, any_place, any_spelled, kept_place, kept_spelled, list_place, list_spelled}

-- the elements of a value that is made of the table's fields
abbrev pub of_table : {V : Type 0} (t : ComponentTable V) (make : Maker t V)
    → ((v : V) → make_of t make (fields t v) ≡ v) → ((x : Fields t) → fields t (make_of t make x) ≡ x)
    → clear t ≡ true → Elements V
of_table t make same back c = record {
  tags = tags_of t;
  writes = λ v. TableWrites t (fields t v);
  at = walk t make;
  spelling = λ v. put t (fields t v);
  read = value_read t make same back c;
  build = value_made t make same back;
}

-- a place, from its laws
abbrev pub lawful_place : {A : Type 0} {P : A → Element → Type 0} {tags : List AsnTag} {meaning : Element → Option A}
    {spelling : A → Option Element} → IsLawfulPlace P tags meaning → IsSpelled P spelling → Place A
lawful_place {P = P} {tags = tags} {meaning = meaning} {spelling = spelling} place spelled = record {
  tags = tags;
  writes = P;
  meaning = meaning;
  spelling = spelling;
  some = place.some;
  begins = place.begins;
  reads = place.reads;
  finds = place.finds;
  makes = spelled.makes;
  none = spelled.none;
}

-- OCTET STRING and the character strings, with their octets unchanged; OBJECT IDENTIFIER; BIT STRING
abbrev pub octets : AsnTag → Place (List ℕ)
octets tag =
    lawful_place {P = tagged tag octets_meaning} {tags = tag ∷ []} {meaning = octets_meaning}
    {spelling = octets_spelling tag} (octets_place tag) (octets_spelled tag)

-- OBJECT IDENTIFIER, as its arcs, each below 2 ^ 32 (X.690, 8.19)
abbrev pub oid : AsnTag → Place (List ℕ)
oid tag =
    lawful_place {P = tagged tag oid_meaning} {tags = tag ∷ []} {meaning = oid_meaning}
    {spelling = oid_spelling tag} (oid_place tag) (oid_spelled tag)

-- BIT STRING in primitive form, as its bits in order (X.690, 8.6)
abbrev pub bits : AsnTag → Place (List Bool)
bits tag =
    lawful_place {P = tagged tag bits_meaning} {tags = tag ∷ []} {meaning = bits_meaning}
    {spelling = bits_spelling tag} (bits_place tag) (bits_spelled tag)

-- INTEGER, BOOLEAN
abbrev pub integer : AsnTag → Place ℤ
integer tag =
    lawful_place {P = tagged tag int_meaning} {tags = tag ∷ []} {meaning = int_meaning}
    {spelling = int_spelling tag} (int_place tag) (int_spelled tag)

-- BOOLEAN: each contents octet but 00 means true (X.690, 8.2), and true is written FF (X.690, 11.1)
abbrev pub boolean : AsnTag → Place Bool
boolean tag =
    lawful_place {P = tagged tag bool_meaning} {tags = tag ∷ []} {meaning = bool_meaning}
    {spelling = bool_spelling tag} (bool_place tag) (bool_spelled tag)

-- a constructed element, kept with whatever it contains
abbrev pub opaque : AsnTag → Place Element
opaque tag =
    lawful_place {P = tagged tag constructed} {tags = tag ∷ []} {meaning = constructed}
    {spelling = constructed_spelling tag} (constructed_at_tag tag) (constructed_spelled tag)

-- the elements of a value, within an element with the tag
abbrev pub within : {V : Type 0} → AsnTag → Elements V → Place V
within tag e =
    lawful_place {P = λ v. sequence tag (e.writes v)} {tags = tag ∷ []} {meaning = sequence_of e.at}
    {spelling = λ v. around tag (e.spelling v [])} (within_place tag e) (within_spelled tag e)

-- one element alone, within an element with the tag (EXPLICIT)
abbrev pub alone : {A : Type 0} → Place A → Elements A
alone p = of_table (required p (λ x. x) ended) (λ x. x) (λ x. refl) (λ x. refl) refl

-- an element of the place alone, within an element with the outer tag (EXPLICIT)
abbrev pub explicit : {A : Type 0} → AsnTag → Place A → Place A
explicit tag p = within tag (alone p)

-- any element, within an element with the tag
abbrev pub any : AsnTag → Place Element
any tag =
    lawful_place {P = λ m. sequence tag (one itself m no_more)} {tags = tag ∷ []} {meaning = sequence_of any_at}
    {spelling = λ m. around tag (Some (m ∷ []))} (any_place tag) (any_spelled tag)

-- an element with one of the tags, of either form, kept unchanged
abbrev pub kept : AsnTag → List AsnTag → Place Element
kept tag tags =
    lawful_place {P = is_kept (tag ∷ tags)} {tags = tag ∷ tags} {meaning = λ n. Some n}
    {spelling = λ m. if among (tag_of m) (tag ∷ tags) then Some m else None} (kept_place tag tags)
    (kept_spelled (tag ∷ tags))

-- SEQUENCE OF: values in order, within an element with the tag
abbrev pub list : {A : Type 0} → AsnTag → Place A → Place (List A)
list tag p =
    lawful_place {P = λ xs. sequence tag (each p.writes xs)} {tags = tag ∷ []} {meaning = list_meaning (whole_of p)}
    {spelling = λ xs. around tag (all_spellings p.spelling xs)} (list_place p tag) (list_spelled p tag)

-- the octets of a string, if the element has this tag
abbrev pub text_under : AsnTag → Element → Option (List ℕ)
text_under tag n = if among (tag_of n) (tag ∷ []) then octets_meaning n else None

-- the octets of strings in order: the first tag is that of the SEQUENCE OF, and the second that of each string
abbrev pub strings : AsnTag → AsnTag → Place (List (List ℕ))
strings tag inner =
    lawful_place {P = λ xs. sequence tag (each (tagged inner octets_meaning) xs)} {tags = tag ∷ []}
    {meaning = list_meaning (text_under inner)} {spelling = λ xs. around tag (all_spellings (octets_spelling inner) xs)}
    (list_place (octets inner) tag) (list_spelled (octets inner) tag)

-- CHOICE: a value of several kinds, each with its own place
abbrev pub of_choice : {C : Type 0} (c : Choice C) (pick : C → Pick c) → ((d : C) → picked c (pick d) ≡ d)
    → ((x : Pick c) → pick (picked c x) ≡ x) → distinct c ≡ true → Place C
of_choice c pick same back k = record {
  tags = choice_tags c;
  writes = λ d. ValueWrites c (pick d);
  meaning = choice_meaning c;
  spelling = λ d. choice_spelling c (pick d);
  some = pick_some c pick same back;
  begins = λ d n h. choice_begins c (pick d) n h;
  reads = λ d n b e. pick_reads c pick same back d n e;
  finds = λ d n h. pick_finds c pick same back k d n h;
  makes = λ d n e. choice_makes c (pick d) n e;
  none = λ d e n h. choice_none c (pick d) e n h;
}
