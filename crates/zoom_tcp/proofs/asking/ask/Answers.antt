use Rattle.std.proofs.Common.{[], ◌++◌, ◌∙◌, ap, sym, subst, subst₂, length, arith}
use Rattle.zoom_asking.specs.declared.asking.Asking.{Asking}
use Rattle.zoom_asking.specs.Inquiries.{inquiry}
use Rattle.zoom_asking.specs.Askings.{AskingAfter}
use Rattle.zoom_trace.specs.Recording.{opening, IsRecordedWith}
use Rattle.zoom_trace.specs.Replays.{history_after}
use Rattle.zoom_trace.specs.Tracing.{IsTracedIf, IsWrittenOut}
use Rattle.zoom_trace.proofs.Recorded.{with_more}
use Rattle.zoom_tcp.specs.Asking.{inquiry_of, first_entries}
use Rattle.zoom_tcp.proofs.Ending.{asked_by}
use Rattle.zoom_tcp.proofs.Hosts.{hosts_length}
use Rattle.zoom_tcp.proofs.asking.ask.Goals as goal

pub new-requires-clause-equal : goal.new-requires-clause-equal
new-requires-clause-equal g c =
    ap length (c.as_slice.ensures.value ∙ c.in_ok-hosts.ensures)
    ∙ hosts_length c.args.limits c.args.waits.now c.args.addresses.now ∙ c.requires.equal
    ∙ sym (ap length c.from_vec.ensures)

pub ask_all-requires-clause-few : goal.ask_all-requires-clause-few
ask_all-requires-clause-few g c =
    let same = ap (λ (a : Asking). length a.meta.pool.connections)
    (c.in_ok-begin.ensures.asking ∙ c.new-recorder.ensures.asking) in
    omega (arith, same, c.in_ok-asking.ensures.size, ap length c.from_vec.ensures, c.requires.some)

pub returns : goal.returns
returns g c =
    let W = g.T.Write.contents in
    let start = c.now-now.result in
    let i = inquiry_of c.args.questions.items c.args.settings c.args.manner c.args.limits c.args.waits.now
    c.args.addresses.now start in
    let first : AskingAfter (inquiry c.from_vec.result c.args.settings c.as_slice.result.now c.args.manner
    c.total_nanos-total.result start) [] c.in_ok-asking.asking = c.in_ok-asking.ensures.after in
    let second = subst
    (λ questions. AskingAfter (inquiry questions c.args.settings c.as_slice.result.now c.args.manner
    c.total_nanos-total.result start) [] c.in_ok-asking.asking) c.from_vec.ensures first in
    let after = subst₂
    (λ hosts total. AskingAfter
    (inquiry c.args.questions.items c.args.settings hosts c.args.manner total start) [] c.in_ok-asking.asking)
    (c.as_slice.ensures.value ∙ c.in_ok-hosts.ensures) c.total_nanos-total.ensures second in
    let fresh = c.new-recorder.result in
    let begun = c.begin.new.self in
    let done = c.ask_all.new.recorder in
    let entries = c.in_ok-ask_all.ensures.ended.entries in
    let before = subst (AskingAfter i [])
    (sym (c.in_ok-begin.ensures.asking ∙ c.new-recorder.ensures.asking)) after in
    let by = asked_by W i begun done c.into_parts-meta.result.0 c.in_ok-ask_all.ensures.ended before
    c.into_parts-meta.ensures.meta in
    let end = c.asked_end_law.ensures i (history_after entries []) c.into_parts-meta.result.0 by in
    let opened = subst₂ (λ host total. IsRecordedWith W (opening start c.args.manner host total) fresh begun)
    c.of_host-host.ensures c.total_nanos-total.ensures c.in_ok-begin.ensures.recorded in
    let all = with_more W (first_entries c.args.manner c.args.limits start) entries fresh begun done opened
    c.in_ok-ask_all.ensures.ended.are in
    record {
      asked = record {
        start = start;
        history = history_after entries [];
        asked = by;
        pool = end.0;
        known = end.1;
        ended = end.2;
      };
      traced = record {
        start = start;
        entries = entries;
        asked = by;
        writable = all.writable;
        traced = subst₂ (IsTracedIf W (first_entries c.args.manner c.args.limits start ++ entries))
            (c.new-recorder.ensures.trace ∙ c.trace_beside.ensures) (sym c.into_parts-meta.ensures.trace) all.traced;
        written = subst IsWrittenOut (sym c.into_parts-meta.ensures.trace) c.in_ok-ask_all.ensures.written;
      };
    }
