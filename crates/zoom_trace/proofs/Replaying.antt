-- What was written, read again and fed to an asking.
use Rattle.std.proofs.Common.{◌≡◌, sym, ◌∙◌, ap, ℕ, [], List, ◌++◌, Option, subst, append-nil}
use Rattle.std.specs.Io.KnownBytes.{Appends}
use Rattle.zoom_asking.specs.Inquiries.{Entry}
use Rattle.zoom_asking.specs.Askings.{AskingAfter}
use Rattle.zoom_trace.specs.declared.entry.TraceEntry.{TraceEntry}
use Rattle.zoom_trace.specs.declared.tracing.Tracer.{Tracer}
use Rattle.zoom_trace.specs.Lines.{trace_of}
use Rattle.zoom_trace.specs.Laws.{ReplayLaw, FollowedLaw, WrittenLaw}
use Rattle.zoom_trace.specs.Replays.{history_after}
use Rattle.zoom_trace.proofs.ReadTraces.{whole_read}
use Rattle.zoom_trace.proofs.Recorded.{history_append}

pub replay_of : ReplayLaw
replay_of i written trace first new h t begun fed =
    subst (λ (es : List TraceEntry). AskingAfter i (history_after es []) new) (whole_read written trace h t).0
    (fed i [] begun)

-- the entries before tell nothing
pub followed_of : FollowedLaw
followed_of i before entries trace first new untold h t begun fed =
    let all : AskingAfter i (history_after (before ++ entries) []) new =
    replay_of i (before ++ entries) trace first new h t begun fed in
    let same : history_after (before ++ entries) [] ≡ history_after entries [] =
    history_append before entries [] ∙ ap (history_after entries) untold in
    subst (λ (history : List Entry). AskingAfter i history new) same all

-- all lines were written
pub written_of : {W : Type 0} (contents : W → Option (List ℕ)) → WrittenLaw contents
written_of contents entries old new t sound none =
    let rest : t.rest ≡ [] = sym (t.waits sound) ∙ none in
    let all : old.lines.items ++ trace_of entries ≡ t.written =
    t.cut ∙ ap (λ (xs : List ℕ). t.written ++ xs) rest ∙ append-nil t.written in
    subst (Appends (contents old.sink) (contents new.sink)) (sym all) t.appended
