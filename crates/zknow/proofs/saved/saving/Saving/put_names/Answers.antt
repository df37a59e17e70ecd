use Rattle.std.proofs.Common.{List, ℕ, [], subst}
use Rattle.std.specs.Prelude.{OnOk}
use Rattle.zknow.specs.Saved.Saving.{IsSavedUpTo}
use Rattle.zknow.proofs.SavedTheory.FactSpelled.{names_spelled}
use Rattle.zknow.proofs.SavedTheory.SavedParts.{names_added}
use Rattle.zknow.proofs.saved.saving.Saving.put_names.Goals as goal

pub element_of-requires : goal.element_of-requires
element_of-requires c = names_spelled c.in_ok-names.names

pub returns-clause-ok : goal.returns-clause-ok
returns-clause-ok c =
    subst (λ (names : List (List ℕ)). OnOk c.put.result (IsSavedUpTo names [] c.put.new.self)) c.in_ok-names.ensures
    (names_added c.in_ok-names.names c.args.self.now c.put.new.self c.put.result c.requires.octets c.requires.long (c.put.ensures c.in_ok-names.names c.in_ok-node.ensures))
