-- The elements of a saved file: names, and facts of each kind. All numbers are INTEGERs.
use Rattle.std.specs.Prelude.{◌≡◌, ℕ, ℤ, pos, Bool, true, List, [], ◌∷◌, Option, Ok, refl}
use Rattle.std.proofs.Common.{inl, inr, int_le}
use Rattle.zber.specs.AsnTags.{context}
use Rattle.zber.specs.Elements.{Element, Primitive, cons}
use Rattle.zber.specs.Values.{in_octets}
use Rattle.zasn.specs.Place.{Place}
use Rattle.zasn.specs.Choice.{Choice, either, finally, Pick, picked}
use Rattle.zasn.specs.Table.{ComponentTable, required, ended, ◌⨾◌, Elements}
use Rattle.zasn.specs.Standing.{tagged}
use Rattle.zasn.specs.Meanings.{meant, octets_spelling}
use Rattle.zasn_tables.proofs.Readings.{tagged_place}
use Rattle.zasn_tables.proofs.Builds.{contents_spelled}
use Rattle.zasn.specs.Places.{of_table, of_choice, integer, within, list, lawful_place}
use Rattle.zapdu.specs.declared.productions.diagnostic.DiagRec.{DiagRec}
use Rattle.zapdu.specs.declared.productions.record.Record.{Record}
use Rattle.zapdu.specs.Productions.Records.{whole_record}
use Rattle.zapdu.specs.Productions.Diagnostics.{diag_rec}
use Rattle.zknow.specs.declared.fact.Fact.{Fact}
use Rattle.zknow.specs.declared.fact.Fact.TheVariants.{Count, Failed, Seen, Diag}
use Rattle.zknow.specs.declared.saved.natural.Natural.{Natural}
use Rattle.zknow.specs.declared.saved.saved_fact.SavedCount.{SavedCount}
use Rattle.zknow.specs.declared.saved.saved_fact.SavedFailed.{SavedFailed}
use Rattle.zknow.specs.declared.saved.saved_fact.SavedSeen.{SavedSeen}
use Rattle.zknow.specs.declared.saved.saved_fact.SavedDiag.{SavedDiag}
use Rattle.zknow.specs.Saved.Naturals.{natural}
use Rattle.zknow.specs.List.Limited.{limited, LimitedWrites}

-- a name: the contents octets of a primitive element
abbrev pub name_of : Element → Option (List ℕ)
name_of e = meant (in_octets Ok e)

-- a name [0]
abbrev pub saved_name : Place (List ℕ)
saved_name =
    lawful_place {P = tagged (context 0) name_of} {tags = context 0 ∷ []} {meaning = name_of}
    {spelling = octets_spelling (context 0)}
    (tagged_place (context 0) name_of [] (Primitive (context 0) []) refl refl)
    (contents_spelled (context 0) name_of (λ xs. xs) (λ xs. refl))

-- names [4]: the names of the targets in order, each [0]
abbrev pub saved_names : Place (List (List ℕ))
saved_names = list (context 4) saved_name

-- Count [0]: target [0], set [1], count [2]
abbrev pub count_table : ComponentTable SavedCount
count_table =
    required (natural (context 0)) (λ v. v.target)
    ⨾ required (natural (context 1)) (λ v. v.set)
    ⨾ required (integer (context 2)) (λ v. v.count)
    ⨾ ended

-- a Count of a saved file: how its elements are read and built
unfoldable pub count_parts : Elements SavedCount
count_parts = of_table count_table (λ a b c. record { target = a; set = b; count = c }) (λ v. refl) (λ x. refl) refl

-- Failed [1]: target [0], set [1]
abbrev pub failed_table : ComponentTable SavedFailed
failed_table =
    required (natural (context 0)) (λ v. v.target)
    ⨾ required (natural (context 1)) (λ v. v.set)
    ⨾ ended

-- a Failed of a saved file: how its elements are read and built
unfoldable pub failed_parts : Elements SavedFailed
failed_parts = of_table failed_table (λ a b. record { target = a; set = b }) (λ v. refl) (λ x. refl) refl

-- Seen [2]: target [0], set [1], position [2], NamePlusRecord
abbrev pub seen_table : ComponentTable SavedSeen
seen_table =
    required (natural (context 0)) (λ v. v.target)
    ⨾ required (natural (context 1)) (λ v. v.set)
    ⨾ required (integer (context 2)) (λ v. v.position)
    ⨾ required whole_record (λ v. v.rec)
    ⨾ ended

-- a Seen of a saved file: how its elements are read and built
unfoldable pub seen_parts : Elements SavedSeen
seen_parts =
    of_table seen_table (λ a b c d. record { target = a; set = b; position = c; rec = d }) (λ v. refl) (λ x. refl) refl

-- the parts of a Seen, which has a record at a position of a target's set
abbrev pub saved_seen : Natural → Natural → ℤ → Record → SavedSeen
saved_seen target set position rec = record { target = target; set = set; position = position; rec = rec }

-- Diag [3]: target [0], set [1], place [2], DiagRec
abbrev pub diag_table : ComponentTable SavedDiag
diag_table =
    required (natural (context 0)) (λ v. v.target)
    ⨾ required (natural (context 1)) (λ v. v.set)
    ⨾ required (integer (context 2)) (λ v. v.place)
    ⨾ required diag_rec (λ v. v.diag)
    ⨾ ended

-- a Diag of a saved file: how its elements are read and built
unfoldable pub diag_parts : Elements SavedDiag
diag_parts =
    of_table diag_table (λ a b c d. record { target = a; set = b; place = c; diag = d }) (λ v. refl) (λ x. refl) refl

-- the parts of a Diag, which has a diagnostic at a place of a target's set
abbrev pub saved_diag : Natural → Natural → ℤ → DiagRec → SavedDiag
saved_diag target set place diag = record { target = target; set = set; place = place; diag = diag }

-- the four kinds of facts
abbrev pub kinds : Choice Fact
kinds =
    either (within (context 0) count_parts) (λ v. Count v.target.number v.set.number v.count)
    (either (within (context 1) failed_parts) (λ v. Failed v.target.number v.set.number)
    (either (within (context 2) seen_parts) (λ v. Seen v.target.number v.set.number v.position v.rec)
    (finally (within (context 3) diag_parts) (λ v. Diag v.target.number v.set.number v.place v.diag))))

-- the parts of a fact, as the value of its kind
abbrev pub kind_pick : Fact → Pick kinds
kind_pick (Count t s n) = inl (record { target = record { number = t }; set = record { number = s }; count = n })
kind_pick (Failed t s) = inr (inl (record { target = record { number = t }; set = record { number = s } }))
kind_pick (Seen t s p r) =
    inr (inr (inl (record { target = record { number = t }; set = record { number = s }; position = p; rec = r })))
kind_pick (Diag t s p d) =
    inr (inr (inr (record { target = record { number = t }; set = record { number = s }; place = p; diag = d })))

pub kind-same : (f : Fact) → picked kinds (kind_pick f) ≡ f
kind-same (Count t s n) = refl
kind-same (Failed t s) = refl
kind-same (Seen t s p r) = refl
kind-same (Diag t s p d) = refl

pub kind-back : (x : Pick kinds) → kind_pick (picked kinds x) ≡ x
kind-back (inl v) = refl
kind-back (inr (inl v)) = refl
kind-back (inr (inr (inl v))) = refl
kind-back (inr (inr (inr v))) = refl

-- a fact with numbers of any size
abbrev pub any_fact : Place Fact
any_fact = of_choice kinds kind_pick kind-same kind-back refl

-- a count is not negative, a position is at least 1, a place is at least 0
abbrev pub fact_in_range : Fact → Bool
fact_in_range (Count t s n) = int_le (pos 0) n
fact_in_range (Failed t s) = true
fact_in_range (Seen t s p r) = int_le (pos 1) p
fact_in_range (Diag t s p d) = int_le (pos 0) p

-- the element of the fact that set 0 of target 0 failed, as an example of a fact
abbrev pub first_failed : Element
first_failed = cons (context 1) (Primitive (context 0) (0 ∷ []) ∷ Primitive (context 1) (0 ∷ []) ∷ [])

pub first_stands : LimitedWrites any_fact fact_in_range (Failed 0 0) first_failed
unfolding failed_parts
first_stands = ((refl, ((refl, refl), ((refl, refl), tt))), refl)

-- a fact with its numbers in their ranges
abbrev pub saved_fact : Place Fact
saved_fact = limited any_fact fact_in_range (Failed 0 0) first_failed first_stands
