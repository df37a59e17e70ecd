-- A fact as a merge keeps it: what orders it, and its element.
use Rattle.std.specs.Prelude.{◌≡◌, Some, ⊤}
use Rattle.std.specs.declared.cmp.Ordering.{Ordering}
use Rattle.std.specs.Ordering.{nat_cmp, int_cmp, ordering_then}
use Rattle.zber.specs.Elements.{Element}
use Rattle.zber.specs.Canonical.{IsLawful}
use Rattle.zasn_tables.specs.Place.{Place, IsSpellable}
use Rattle.zapdu.specs.Productions.Records.{whole_record}
use Rattle.zapdu.specs.Productions.Diagnostics.{diag_rec}
use Rattle.zknow.specs.declared.fact.Fact.{Fact}
use Rattle.zknow.specs.declared.fact.Fact.TheVariants.{Count, Failed, Seen, Diag}
use Rattle.zknow.specs.Encodings.{encoding}
use Rattle.zknow.specs.Facts.{fact_kind, fact_target, fact_set, fact_number, encoded_octets}
use Rattle.zknow.specs.Saved.Saved.{IsWithinLimits}
use Rattle.zknow.specs.Saved.SavedFacts.{saved_fact}
use Rattle.zknow_merge.specs.declared.head.Head.{Head}

-- the element of the value, if it has one, is lawful
abbrev pub IsLawfulAt : {A : Type 0} → Place A → A → Type 0
IsLawfulAt p x = (n : Element) → p.spelling x ≡ Some n → IsLawful n

-- the record or diagnostic of the fact has a lawful element
abbrev pub IsLawfulFact : Fact → Type 0
IsLawfulFact (Count t s n) = ⊤
IsLawfulFact (Failed t s) = ⊤
IsLawfulFact (Seen t s p r) = IsLawfulAt whole_record r
IsLawfulFact (Diag t s p d) = IsLawfulAt diag_rec d

-- the record or diagnostic of the fact has an element
abbrev pub IsSpellableFact : Fact → Type 0
IsSpellableFact (Count t s n) = ⊤
IsSpellableFact (Failed t s) = ⊤
IsSpellableFact (Seen t s p r) = IsSpellable whole_record r
IsSpellableFact (Diag t s p d) = IsSpellable diag_rec d

-- a fact that stands in a saved file
pub record IsSavable (f : Fact) : Type 0 where
  pub fits : IsWithinLimits saved_fact f
  pub spellable : IsSpellableFact f
  pub lawful : IsLawfulFact f

-- the head has what orders the fact
pub record IsKeyOf (h : Head) (f : Fact) : Type 0 where
  pub kind : h.kind ≡ fact_kind f
  pub target : h.target ≡ fact_target f
  pub set : h.set ≡ fact_set f
  pub number : h.number ≡ fact_number f
  pub octets : h.octets.items ≡ encoded_octets f

-- the head is that of the fact
pub record IsHeadOf (h : Head) (f : Fact) : Type 0 where
  pub key : IsKeyOf h f
  pub element : h.element.items ≡ encoding saved_fact f
  pub savable : IsSavable f

-- the order of the facts of two heads without their records or diagnostics
abbrev pub head_key_cmp : Head → Head → Ordering
head_key_cmp a b =
    ordering_then (nat_cmp a.kind b.kind)
    (ordering_then (nat_cmp a.target b.target) (ordering_then (nat_cmp a.set b.set) (int_cmp a.number b.number)))
