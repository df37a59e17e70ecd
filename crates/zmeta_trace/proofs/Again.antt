-- What became of the hosts of a trace.
use Rattle.std.proofs.Common.{◌≡◌, ◌∙◌, ap, subst, ℕ, List, [], length, Err}
use Rattle.zoom_pool.specs.Metas.{MetaLinks}
use Rattle.zoom_asking.specs.declared.asking.Asking.{Asking}
use Rattle.zoom_asking.specs.Inquiries.{Inquiry}
use Rattle.zoom_asking.specs.Askings.{AskingAfter, IsOverAt}
use Rattle.zoom_trace.specs.declared.entry.TraceEntry.{TraceEntry}
use Rattle.zoom_trace.specs.declared.fault.TraceError.{TraceError}
use Rattle.zoom_trace.specs.declared.fault.TraceError.TheVariants as errors
use Rattle.zoom_trace.specs.Notices.{AreNotices}
use Rattle.zoom_trace.specs.Replays.{history_after, AreFedWith, ReplayResult, size_of}
use Rattle.zmeta_trace.specs.declared.replaying.Replayed.{Replayed}
use Rattle.zmeta_trace.specs.Replays.{IsReplayed, ReplayedResult}

-- all entries were fed
pub replayed : (i : Inquiry) (es : List TraceEntry) (count : ℕ) (first last : Asking) (r : Replayed)
    → AskingAfter i [] first → size_of first ≡ length i.questions → AreFedWith es first last
    → size_of last ≡ size_of first → IsOverAt last r.is_over → r.meta ≡ last.meta → count ≡ length i.questions
    → AreNotices count es r.notices.items → IsReplayed i es r
replayed i es count first last r begun size fed same over known counted noticed =
    let after : AskingAfter i (history_after es []) last = fed i [] begun in
    record {
      asking = last;
      after = after;
      known = known;
      over = over i (history_after es []) after;
      size = ap (λ (m : MetaLinks). length m.pool.connections) known ∙ same ∙ size;
      noticed = subst (λ (n : ℕ). AreNotices n es r.notices.items) counted noticed;
    }

-- an entry was refused, or no memory was found
pub stopped : (i : Inquiry) (es : List TraceEntry) (error : TraceError) (first last : Asking)
    → size_of first ≡ length i.questions → ReplayResult es first last (Err error) → ReplayedResult i es (Err error)
stopped i es (errors.Refused number) first last size fed =
    record { first = first; last = last; size = size; fed = fed }
stopped i es errors.Memory first last size fed = tt
