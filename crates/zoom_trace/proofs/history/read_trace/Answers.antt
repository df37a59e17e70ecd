use Rattle.std.proofs.Common.{◌≡◌, ◌++◌, sym, List, [], ◌∷◌}
use Rattle.zoom_trace.specs.declared.entry.TraceEntry.{TraceEntry}
use Rattle.zoom_trace.specs.Lines.{trace_of, AreWritable}
use Rattle.zoom_trace.proofs.Reaching.{one_more, writable_more}
use Rattle.zoom_trace.proofs.history.read_trace.Goals as goal

pub loop-line-preserved : goal.loop-line-preserved
loop-line-preserved c =
    let old : List TraceEntry = c.loop-line.entries.items in
    let more : c.push.new.self.items ≡ old ++ c.in-Ok.entry ∷ [] = c.in_ok-push.ensures.items in
    record {
      whole = one_more c.args.text.now c.in-Some.line.now c.in-Some.behind.now c.loop-line.rest.now old
          c.push.new.self.items c.in-Ok.entry
          c.loop-line.invariant.whole c.in-Some.ensures.whole c.in-Ok.ensures.0 more;
      writable = writable_more old c.push.new.self.items c.in-Ok.entry c.loop-line.invariant.writable c.in-Ok.ensures.1
          more;
    }
