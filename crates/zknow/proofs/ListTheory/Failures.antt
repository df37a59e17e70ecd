-- The failures that are known.
use Rattle.std.proofs.Common.{◌≡◌, ◌↔◌, Bool, true, false, not, List, [], ◌∷◌, length, IsSomeAnd, refl, sym, subst, arith}
use Rattle.std.specs.Prelude.{IsTrue}
use mathlib.Core.Bool.{false≢true}
use Rattle.zknow.specs.declared.fact.Fact.TheVariants.{Failed}
use Rattle.zknow.specs.declared.tables.keys.Mark.{Mark}
use Rattle.zknow.specs.declared.tables.keys.SetKey.{SetKey}
use Rattle.zknow.specs.declared.tables.Tables.{Tables}
use Rattle.zknow.specs.Tables.Keys.{set_cmp, set_total, set_exact, IsMarked, IsAnyMark}
use Rattle.zknow.specs.Known.{HasFailure}
use Rattle.zknow.specs.Tables.Sections.{table_facts}
use Rattle.zknow.specs.Tables.Table.{HasItem, IsLawfulTable}
use Rattle.zknow.specs.Tables.Tables.{AreLawfulTables, key}
use Rattle.zknow.proofs.TableTheory.FactsInOrder.{facts_members}
use Rattle.zknow.proofs.TableTheory.TableMerges.{head_found}

pub nil_of : {X : Type 0} (xs : List X) → length xs ≡ 0 → xs ≡ []
nil_of [] is = refl
nil_of (x ∷ xs) is = absurd (omega (arith, is))

module _ (k : Tables) (good : AreLawfulTables k) where
  -- a set that is marked, as each in the table is, failed
  some_failed : (e : SetKey × Mark) (t : List (SetKey × Mark)) → k.failed ≡ e ∷ t → HasFailure (table_facts k)
  some_failed e t is =
      let lawful = subst (IsLawfulTable set_cmp IsMarked IsAnyMark) is good.failed in
      let found = head_found set_cmp IsMarked IsAnyMark set_total set_exact e t lawful in
      let mark = lawful.some e.0 e.1 found in
      let there : HasItem set_cmp IsMarked (e ∷ t) (e.0, tt) = subst (λ o. IsSomeAnd o (λ j. IsMarked j tt)) (sym found) mark.1 in
      (e.0.target, e.0.set, (facts_members k good (Failed e.0.target e.0.set)).1 (subst (λ l. HasItem set_cmp IsMarked l (e.0, tt)) (sym is) there))

  none_failed : k.failed ≡ [] → HasFailure (table_facts k) → ⊥
  none_failed is h = subst (λ l. HasItem set_cmp IsMarked l (key h.0 h.1, tt)) is ((facts_members k good (Failed h.0 h.1)).0 h.2)

  not_empty : (t : List (SetKey × Mark)) → k.failed ≡ t → (IsTrue false ↔ (k.failed ≡ [])) → HasFailure (table_facts k)
  not_empty [] is empty = absurd (false≢true (empty.1 is))
  not_empty (e ∷ t) is empty = some_failed e t is

  pub failed_unless : (empty : Bool) → (IsTrue empty ↔ (k.failed ≡ [])) → IsTrue (not empty) ↔ HasFailure (table_facts k)
  failed_unless true is = (λ h. absurd (false≢true h), λ h. absurd (none_failed (is.0 refl) h))
  failed_unless false is = (λ h. not_empty k.failed refl is, λ h. refl)
