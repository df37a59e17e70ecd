-- What was recorded, to the end.
use Rattle.std.proofs.Common.{◌≡◌, sym, subst, ℕ, true, List, [], ◌∷◌, ◌++◌, Option, append-nil}
use Rattle.zoom_pool.specs.Metas.{MetaLinks}
use Rattle.zoom_asking.specs.declared.asking.Asking.{Asking}
use Rattle.zoom_asking.specs.Inquiries.{Inquiry, Entry}
use Rattle.zoom_asking.specs.Askings.{AskingAfter, AreOver, IsOverAt}
use Rattle.zoom_asking.specs.Asked.{IsAskedBy}
use Rattle.zoom_asking.specs.Laws.{GivenUpLaw}
use Rattle.zoom_trace.specs.declared.entry.Traced.TheVariants as traced
use Rattle.zoom_trace.specs.declared.entry.TraceEntry.{TraceEntry}
use Rattle.zoom_trace.specs.declared.recording.Recorder.{Recorder}
use Rattle.zoom_trace.specs.Reading.{entry_at}
use Rattle.zoom_trace.specs.Replays.{history_after}
use Rattle.zoom_trace.specs.Recording.{IsRecordedWith, IsRecordedOn}
use Rattle.zoom_trace.proofs.Fed.{all_reported}
use Rattle.zoom_trace.proofs.Recorded.{history_append, with_more}
use Rattle.zoom_tcp.specs.Asking.{IsEndedOn}

-- an asking after this history, of which each connection is over
abbrev pub IsOverAfter : Inquiry → List Entry → Asking → Type 0
IsOverAfter i history a = (after : AskingAfter i history a) × AreOver true after.hosts

-- each connection was found to be over
pub over_ends : {W : Type 0} (contents : W → Option (List ℕ)) (old new : Recorder W) → IsRecordedOn contents old new
    → IsOverAt new.asking true → IsEndedOn contents old new
over_ends contents old new r over = record {
  entries = r.entries;
  are = r.are;
  over = λ i history begun.
      let after = r.are.fed i history begun in (after, over i (history_after r.entries history) after);
}

-- all were given up
pub given_up_ends : {W : Type 0} (contents : W → Option (List ℕ)) (at : ℕ) (old mid new : Recorder W) → GivenUpLaw
    → IsRecordedOn contents old mid → IsRecordedWith contents (entry_at at traced.GaveUp ∷ []) mid new
    → IsEndedOn contents old new
given_up_ends contents at old mid new law r g =
    let last = entry_at at traced.GaveUp ∷ [] in
    record {
      entries = r.entries ++ last;
      are = with_more contents r.entries last old mid new r.are g;
      over = λ i history begun.
          let before = history_after r.entries history in
          let after = g.fed i before (r.are.fed i history begun) in
          subst (λ (h : List Entry). IsOverAfter i h new.asking) (sym (history_append r.entries last history))
          (after, law i before after.hosts at after.holds.size after.after);
    }

-- more was recorded before
pub ends_after : {W : Type 0} (contents : W → Option (List ℕ)) (old mid new : Recorder W)
    → IsRecordedOn contents old mid → IsEndedOn contents mid new → IsEndedOn contents old new
ends_after contents old mid new r e = record {
  entries = r.entries ++ e.entries;
  are = with_more contents r.entries e.entries old mid new r.are e.are;
  over = λ i history begun.
      subst (λ (h : List Entry). IsOverAfter i h new.asking) (sym (history_append r.entries e.entries history))
      (e.over i (history_after r.entries history) (r.are.fed i history begun));
}

-- and then the trace was written
pub ends_before : {W : Type 0} (contents : W → Option (List ℕ)) (old mid new : Recorder W) → IsEndedOn contents old mid
    → IsRecordedWith contents [] mid new → new.asking ≡ mid.asking → IsEndedOn contents old new
ends_before contents old mid new e r same = record {
  entries = e.entries;
  are = subst (λ (es : List TraceEntry). IsRecordedWith contents es old new) (append-nil e.entries)
      (with_more contents e.entries [] old mid new e.are r);
  over = λ i history begun.
      subst (λ (a : Asking). IsOverAfter i (history_after e.entries history) a) (sym same) (e.over i history begun);
}

-- what an asking that has just begun left
pub asked_by : {W : Type 0} (contents : W → Option (List ℕ)) (i : Inquiry) (old new : Recorder W) (meta : MetaLinks)
    → (e : IsEndedOn contents old new) → AskingAfter i [] old.asking → meta ≡ new.asking.meta
    → IsAskedBy i (history_after e.entries []) meta
asked_by contents i old new meta e begun known =
    let left = e.over i [] begun in
    record {
      asking = new.asking;
      after = left.0;
      reports = all_reported e.entries [] tt;
      over = left.1;
      known = known;
    }
