-- From tables to the list of their facts.
use Rattle.std.proofs.Common.{◌≡◌, List, [], ◌∷◌, refl}
use Rattle.std.specs.Prelude.{Contains, Result, OnOk}
use Rattle.zknow.specs.declared.tables.Tables.{Tables}
use Rattle.zknow.specs.declared.fact.Fact.{Fact}
use Rattle.zknow.specs.Tables.Join.{IsUnion, IsPartOfUnion}
use Rattle.zknow.specs.Facts.{AreFacts, fact_cmp, IsFact}
use Rattle.zknow.specs.Tables.Sections.{table_facts}
use Rattle.zknow.specs.Tables.Tables.{HasFact, AreLawfulTables, IsLawfulKnowledge}
use Rattle.zknow.specs.Tables.DistinctLaws.{in_head}
use Rattle.zknow.proofs.TableTheory.InSections.{all_from}
use Rattle.zknow.proofs.TableTheory.FactsInOrder.{facts_sorted, facts_members}
use Rattle.zknow.proofs.TableTheory.Unions.{union_as, part_as, itself, OnOk_map}

-- a list with no member is empty
pub nil_from_none : {T : Type 0} (xs : List T) → ((x : T) → Contains xs x → ⊥) → xs ≡ []
nil_from_none [] never = refl
nil_from_none (x ∷ xs) never = absurd (never x (in_head x xs))

pub are_facts : (k : Tables) → IsLawfulKnowledge k → AreFacts (table_facts k)
are_facts k good = record { ordered = facts_sorted k good.lawful; each = all_from fact_cmp IsFact (table_facts k) (λ f h. good.each f ((facts_members k good.lawful f).0 h)) }

module _ (a n : Tables) (la : AreLawfulTables a) (ln : AreLawfulTables n) where
  module _ (more : Fact → Type 0) where
    pub more_part : IsPartOfUnion (HasFact a) more (HasFact n) → IsPartOfUnion (Contains (table_facts a)) more (Contains (table_facts n))
    more_part part = part_as (HasFact a) more (HasFact n) (Contains (table_facts a)) more (Contains (table_facts n)) (facts_members a la) (itself more) (facts_members n ln) part

    pub more_ok : {T E : Type 0} (r : Result T E) → OnOk r (IsUnion (HasFact a) more (HasFact n)) → OnOk r (IsUnion (Contains (table_facts a)) more (Contains (table_facts n)))
    more_ok r = OnOk_map r (IsUnion (HasFact a) more (HasFact n)) (IsUnion (Contains (table_facts a)) more (Contains (table_facts n)))
        (union_as (HasFact a) more (HasFact n) (Contains (table_facts a)) more (Contains (table_facts n)) (facts_members a la) (itself more) (facts_members n ln))

  module _ (b : Tables) (lb : AreLawfulTables b) where
    pub both_part : IsPartOfUnion (HasFact a) (HasFact b) (HasFact n) → IsPartOfUnion (Contains (table_facts a)) (Contains (table_facts b)) (Contains (table_facts n))
    both_part part = part_as (HasFact a) (HasFact b) (HasFact n) (Contains (table_facts a)) (Contains (table_facts b)) (Contains (table_facts n)) (facts_members a la) (facts_members b lb) (facts_members n ln) part

    pub both_ok : {T E : Type 0} (r : Result T E) → OnOk r (IsUnion (HasFact a) (HasFact b) (HasFact n)) → OnOk r (IsUnion (Contains (table_facts a)) (Contains (table_facts b)) (Contains (table_facts n)))
    both_ok r = OnOk_map r (IsUnion (HasFact a) (HasFact b) (HasFact n)) (IsUnion (Contains (table_facts a)) (Contains (table_facts b)) (Contains (table_facts n)))
        (union_as (HasFact a) (HasFact b) (HasFact n) (Contains (table_facts a)) (Contains (table_facts b)) (Contains (table_facts n)) (facts_members a la) (facts_members b lb) (facts_members n ln))
