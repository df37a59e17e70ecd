-- A trace of an ask that was read again.
use Rattle.std.proofs.Common.{◌≡◌, sym, ◌∙◌, subst, List, [], ◌++◌, append_assoc}
use Rattle.zoom_trace.specs.declared.entry.TraceEntry.{TraceEntry}
use Rattle.zoom_trace.specs.Lines.{trace_of, AreWritable}
use Rattle.zoom_trace.specs.Laws.{FollowedLaw}
use Rattle.zoom_trace.specs.Replays.{history_after}
use Rattle.zoom_trace.specs.Traces.{IsTrace}
use Rattle.zoom_trace.proofs.Recorded.{history_append, opening_untold}
use Rattle.zoom_tcp.specs.Asking.{asked_host, total_of, first_entries, ReplayedLaw}

pub replayed_of : FollowedLaw → ReplayedLaw
replayed_of law i limits told entries trace first new untold h t begun fed =
    let opened = first_entries i.manner limits i.start in
    let same : told ++ (opened ++ entries) ≡ (told ++ opened) ++ entries = sym (append_assoc told opened entries) in
    let none : history_after (told ++ opened) [] ≡ [] =
    history_append told opened []
    ∙ opening_untold i.start i.manner (asked_host limits) (total_of limits) (history_after told []) ∙ untold in
    law i (told ++ opened) entries trace first new none (subst AreWritable same h)
    (subst (λ (es : List TraceEntry). IsTrace (trace_of es) trace) same t) begun fed
