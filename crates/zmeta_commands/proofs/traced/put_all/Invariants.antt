use Rattle.std.proofs.Common.{take}
use Rattle.zoom.specs.Tracing.{IsTracedOn}
use Rattle.zmeta_commands.proofs.traced.put_all.Given as goal

abbrev pub invariant-loop-entry : goal.invariant-loop-entry
invariant-loop-entry g l = IsTracedOn g.T.Write.contents (take l.entry-index l.entries) l.initial.tracer l.tracer
