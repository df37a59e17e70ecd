-- A plan that was run, and its list.
use Rattle.std.proofs.Common.{◌≡◌, sym, subst, List, [], Result, Ok, Err, IfOk}
use Rattle.zmeta_args.specs.declared.arguments.View.{View}
use Rattle.zmeta_world.specs.declared.in_memory.InMemoryRun.{InMemoryRun}
use Rattle.zoom.specs.Limits.{Limits}
use Rattle.zoom.specs.Metas.{MetaLinks}
use Rattle.zoom.specs.Run.{IsRun}
use Rattle.zoom.specs.RunMade.{IsMovedRunInMemory}
use Rattle.zoom.specs.RunRounds.{IsCompleteRun}
use Rattle.zmeta_commands.specs.declared.finished.Finished.{Finished}
use Rattle.zmeta_commands.specs.Finished.{IsListed}
use Rattle.zmeta_commands.specs.Run.{IsCompleteListedRun}

pub listed_run : {E : Type 0} (r : Result Finished E) (view : View) (a : InMemoryRun) (meta : MetaLinks)
    → IsRun a.questions a.settings a.targets meta → IsCompleteRun a.questions a.settings a.targets meta
    → IsMovedRunInMemory a.questions a.settings a.targets a.moves meta
    → (limits : Limits) → IfOk r (IsListed limits [] [] meta a.names [] view []) → IfOk r (IsCompleteListedRun view a)
listed_run (Err e) view a meta is whole moved limits l = tt
listed_run (Ok r) view a meta is whole moved limits l = record {
  listed = (
    subst (λ z. IsRun a.questions a.settings a.targets z) (sym l.of) is,
    (limits, subst (λ z. IsListed limits [] [] z a.names [] view [] r) (sym l.of) l),
  );
  whole = subst (λ z. IsCompleteRun a.questions a.settings a.targets z) (sym l.of) whole;
  moved = subst (λ z. IsMovedRunInMemory a.questions a.settings a.targets a.moves z) (sym l.of) moved;
}
