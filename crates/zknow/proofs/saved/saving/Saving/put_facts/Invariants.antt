use Rattle.std.proofs.Common.{ℕ, List, [], map, take}
use Rattle.zknow.specs.Tables.FactRefs.{fact_of}
use Rattle.zknow.specs.Saved.Saving.{IsSavedUpTo}
use Rattle.zknow.proofs.saved.saving.Saving.put_facts.Given as goal

abbrev pub invariant-loop-fact : goal.invariant-loop-fact
invariant-loop-fact l = (names : List (List ℕ)) → IsSavedUpTo names [] l.fn.self → IsSavedUpTo names (map fact_of (take l.fact-index l.facts)) l.self
