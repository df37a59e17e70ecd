-- The sets tell what the records of a file have of a record of the other.
use Rattle.std.proofs.Common.{◌≡◌, ◌↔◌, ℕ, Bool, true, false, List, Option, Some, None, cond, refl, ap, ◌∙◌}
use Rattle.std.specs.Prelude.{Contains}
use Rattle.std.specs.BTreeSet.{BTreeSet}
use Rattle.std.proofs.lemmas.Map.Views.{btree_set_contains_iff}
use Rattle.zapdu.specs.declared.productions.record.Record.{Record}
use Rattle.zknow.specs.declared.fact.Fact.{Fact}
use Rattle.zknow_changes.specs.declared.held.Held.{Held}
use Rattle.zknow_changes.specs.declared.index.Index.{Index}
use Rattle.zknow_changes.specs.declared.index.Presence.{Presence}
use Rattle.zknow_changes.specs.declared.index.Presence.TheVariants.{Same, Other, Absent}
use Rattle.zknow_changes.specs.Records.{held_contents, held_number, contents_of}
use Rattle.zknow_changes.specs.Changes.{HasNumber}
use Rattle.zknow_changes.specs.Indexes.{is_in, is_number_in, AreIndexed, IsPresence, presence_in}
use Rattle.zknow_changes.proofs.HeldTheory.{held_exact, held_total}

is_in_iff : (set : BTreeSet Held) (q : Held) → (is_in set q ≡ true) ↔ Contains set.keys q
is_in_iff set q = btree_set_contains_iff held_total held_exact set q

module _ (names : List (List ℕ)) (facts : List Fact) (index : Index) (good : AreIndexed names facts index)
    (others : List (List ℕ)) (target : ℕ) (r : Record) where
  has_contents : (q : Held) → is_in index.contents q ≡ true → Contains (contents_of names facts) q
  has_contents q is = (good.contents q).0 ((is_in_iff index.contents q).0 is)

  contents_in : (q : Held) → Contains (contents_of names facts) q → is_in index.contents q ≡ true
  contents_in q h = (is_in_iff index.contents q).1 ((good.contents q).1 h)

  has_number : (o : Option Held) → held_number others target r ≡ o → is_number_in index.numbers o ≡ true
      → HasNumber names facts others target r
  has_number None is has = absurd (cc)
  has_number (Some q) is has = record {
    number = q;
    is = is;
    held = (good.numbers q).0 ((is_in_iff index.numbers q).0 has);
  }

  number_in : HasNumber names facts others target r → is_number_in index.numbers (held_number others target r) ≡ true
  number_in h =
      ap (is_number_in index.numbers) h.is
      ∙ (is_in_iff index.numbers h.number).1 ((good.numbers h.number).1 h.held)

  presence_by : (b c : Bool) → is_in index.contents (held_contents others target r) ≡ b
      → is_number_in index.numbers (held_number others target r) ≡ c
      → IsPresence names facts others target r (cond b Same (cond c Other Absent))
  presence_by true c is number = has_contents _ is
  presence_by false true is number = (
    λ h. let has = contents_in _ h in absurd (cc),
    has_number (held_number others target r) refl number,
  )
  presence_by false false is number = (
    λ h. let has = contents_in _ h in absurd (cc),
    λ h. let has = number_in h in absurd (cc),
  )

  pub presence_is : IsPresence names facts others target r (presence_in index others target r)
  presence_is = presence_by _ _ refl refl

-- a record has one presence
pub one_presence : (names : List (List ℕ)) (facts : List Fact) (others : List (List ℕ)) (target : ℕ) (r : Record)
    (p q : Presence) → IsPresence names facts others target r p → IsPresence names facts others target r q → p ≡ q
one_presence names facts others target r Same Same h k = refl
one_presence names facts others target r Same Other h k = absurd (k.0 h)
one_presence names facts others target r Same Absent h k = absurd (k.0 h)
one_presence names facts others target r Other Same h k = absurd (h.0 k)
one_presence names facts others target r Other Other h k = refl
one_presence names facts others target r Other Absent h k = absurd (k.1 h.1)
one_presence names facts others target r Absent Same h k = absurd (h.0 k)
one_presence names facts others target r Absent Other h k = absurd (h.1 k.1)
one_presence names facts others target r Absent Absent h k = refl
