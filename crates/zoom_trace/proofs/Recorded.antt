-- What was recorded, one after the other.
use Rattle.std.proofs.Common.{◌≡◌, refl, sym, ◌∙◌, subst, ℕ, List, [], ◌∷◌, ◌++◌, Option, Some, None}
use Rattle.zoom_asking.specs.declared.asking.Asking.{Asking}
use Rattle.zoom_asking.specs.Inquiries.{Inquiry, Entry}
use Rattle.zoom_asking.specs.Askings.{AskingAfter}
use Rattle.zoom_asking.specs.declared.inquiry.AskedHost.{AskedHost}
use Rattle.zoom_asking.specs.declared.inquiry.Manner.{Manner}
use Rattle.zoom_trace.specs.declared.entry.TraceEntry.{TraceEntry}
use Rattle.zoom_trace.specs.declared.recording.Recorder.{Recorder}
use Rattle.zoom_trace.specs.Lines.{AreWritable}
use Rattle.zoom_trace.specs.Replays.{history_with, history_after, AreFedWith}
use Rattle.zoom_trace.specs.Recording.{opening, IsRecordedWith, IsRecordedOn}
use Rattle.zoom_trace.proofs.TracedLines.{none_if, more_if}

pub history_append : (es fs : List TraceEntry) (history : List Entry)
    → history_after (es ++ fs) history ≡ history_after fs (history_after es history)
history_append [] fs history = refl
history_append (e ∷ es) fs history = history_append es fs (history_with e history)

fed_both : (es fs : List TraceEntry) (old mid new : Asking) → AreFedWith es old mid → AreFedWith fs mid new
    → AreFedWith (es ++ fs) old new
fed_both es fs old mid new f g i history after =
    subst (λ (h : List Entry). AskingAfter i h new) (sym (history_append es fs history))
    (g i (history_after es history) (f i history after))

pub writable_both : (es fs : List TraceEntry) → AreWritable es → AreWritable fs → AreWritable (es ++ fs)
writable_both [] fs h g = g
writable_both (e ∷ es) fs h g = (h.0, writable_both es fs h.1 g)

-- ---- with these entries

pub with_none : {W : Type 0} (contents : W → Option (List ℕ)) (r : Recorder W) → IsRecordedWith contents [] r r
with_none contents r = record {
  fed = λ i history after. after;
  size = refl;
  writable = tt;
  traced = none_if contents r.trace;
}

pub with_more : {W : Type 0} (contents : W → Option (List ℕ)) (es fs : List TraceEntry) (old mid new : Recorder W)
    → IsRecordedWith contents es old mid → IsRecordedWith contents fs mid new
    → IsRecordedWith contents (es ++ fs) old new
with_more contents es fs old mid new a b = record {
  fed = fed_both es fs old.asking mid.asking new.asking a.fed b.fed;
  size = b.size ∙ a.size;
  writable = writable_both es fs a.writable b.writable;
  traced = more_if contents es fs old.trace mid.trace new.trace a.traced b.traced;
}

-- ---- with some entries

pub none_recorded : {W : Type 0} (contents : W → Option (List ℕ)) (r : Recorder W) → IsRecordedOn contents r r
none_recorded contents r = record { entries = []; are = with_none contents r }

pub one_recorded : {W : Type 0} (contents : W → Option (List ℕ)) (es : List TraceEntry) (old new : Recorder W)
    → IsRecordedWith contents es old new → IsRecordedOn contents old new
one_recorded contents es old new a = record { entries = es; are = a }

pub more_recorded : {W : Type 0} (contents : W → Option (List ℕ)) (old mid new : Recorder W)
    → IsRecordedOn contents old mid → IsRecordedOn contents mid new → IsRecordedOn contents old new
more_recorded contents old mid new a b =
    record { entries = a.entries ++ b.entries; are = with_more contents a.entries b.entries old mid new a.are b.are }

-- ---- how hosts are asked is not reported

pub opening_untold : (at : ℕ) (manner : Manner) (host : AskedHost) (total : Option ℕ) (history : List Entry)
    → history_after (opening at manner host total) history ≡ history
opening_untold at manner host (Some n) history = refl
opening_untold at manner host None history = refl

-- and then these entries
pub then_recorded : {W : Type 0} (contents : W → Option (List ℕ)) (es : List TraceEntry) (old mid new : Recorder W)
    → IsRecordedOn contents old mid → IsRecordedWith contents es mid new → IsRecordedOn contents old new
then_recorded contents es old mid new a b =
    more_recorded contents old mid new a (one_recorded contents es mid new b)
