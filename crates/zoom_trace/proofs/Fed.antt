-- Entries that are fed one after the other.
use Rattle.std.proofs.Common.{◌≡◌, refl, sym, ◌∙◌, ap, subst, ℕ, zero, suc, ◌+◌, ◌<◌, true, List, [], ◌∷◌, ◌++◌, length, take, drop, get_or, Option, Some, None, option_to_list, Err, arith}
use Rattle.std.specs.List.{list_all}
use Rattle.std.proofs.Math.Seq.{take-suc}
use Rattle.std.proofs.lemmas.Bool.{and_from}
use Rattle.std.proofs.lemmas.List.Folds.{list_all-append}
use Rattle.zoom_asking.specs.declared.asking.Asking.{Asking}
use Rattle.zoom_asking.specs.Inquiries.{Inquiry, Entry}
use Rattle.zoom_asking.specs.Askings.{AskingAfter, IsEntered}
use Rattle.zoom_asking.specs.Asked.{AreReports}
use Rattle.zoom_trace.specs.declared.entry.Traced.{Traced}
use Rattle.zoom_trace.specs.declared.entry.Traced.TheVariants as traced
use Rattle.zoom_trace.specs.declared.entry.TraceEntry.{TraceEntry}
use Rattle.zoom_trace.specs.declared.fault.TraceError.{TraceError}
use Rattle.zoom_trace.specs.declared.fault.TraceError.TheVariants as faults
use Rattle.zoom_trace.specs.Replays.{reported_at, history_with, history_after, IsFedWith, AreFedWith, is_within, size_of, NumberedResult, ReplayResult}

-- one more entry
pub history_more : (es : List TraceEntry) (e : TraceEntry) (history : List Entry)
    → history_after (es ++ e ∷ []) history ≡ history_with e (history_after es history)
history_more [] e history = refl
history_more (x ∷ xs) e history = history_more xs e (history_with x history)

pub fed_more : (es : List TraceEntry) (e : TraceEntry) (old mid new : Asking) → AreFedWith es old mid
    → IsFedWith e mid new
    → AreFedWith (es ++ e ∷ []) old new
fed_more es e old mid new f g i history after =
    subst (λ (h : List Entry). AskingAfter i h new) (sym (history_more es e history))
    (g i (history_after es history) (f i history after))

pub fed_none : (asking : Asking) → AreFedWith [] asking asking
fed_none asking i history after = after

-- an entry that tells a report
pub fed_report : (e : TraceEntry) (x : Entry) (old new : Asking) → reported_at e.at e.what ≡ Some x
    → IsEntered x old new
    → IsFedWith e old new
fed_report e x old new r f i history after =
    subst (λ (o : Option Entry). AskingAfter i (option_to_list o ++ history) new) (sym r) (f i history after)

-- an entry that tells none
pub fed_nothing : (e : TraceEntry) (asking : Asking) → reported_at e.at e.what ≡ None → IsFedWith e asking asking
fed_nothing e asking r i history after =
    subst (λ (o : Option Entry). AskingAfter i (option_to_list o ++ history) asking) (sym r) after

-- ---- one entry after the other

pub take_next : (es : List TraceEntry) (k : ℕ) (e : TraceEntry) → k < length es → e ≡ get_or es k e
    → take (k + 1) es ≡ take k es ++ e ∷ []
take_next es k e h x =
    let n : k + 1 ≡ suc k = omega arith in
    ap (λ (j : ℕ). take j es) n ∙ take-suc es k e h ∙ ap (λ (y : TraceEntry). take k es ++ y ∷ []) (sym x)

pub fed_next : (es : List TraceEntry) (k : ℕ) (e : TraceEntry) (old mid new : Asking) → k < length es
    → e ≡ get_or es k e → AreFedWith (take k es) old mid → IsFedWith e mid new → AreFedWith (take (k + 1) es) old new
fed_next es k e old mid new h x fed step =
    subst (λ (l : List TraceEntry). AreFedWith l old new) (sym (take_next es k e h x))
    (fed_more (take k es) e old mid new fed step)

pub within_next : (es : List TraceEntry) (k : ℕ) (e : TraceEntry) (old mid : Asking) → k < length es
    → e ≡ get_or es k e → list_all (is_within (size_of old)) (take k es) ≡ true → size_of mid ≡ size_of old
    → is_within (size_of mid) e ≡ true → list_all (is_within (size_of old)) (take (k + 1) es) ≡ true
within_next es k e old mid h x within size here =
    let all = is_within (size_of old) in
    ap (list_all all) (take_next es k e h x) ∙ list_all-append all (take k es) (e ∷ [])
    ∙ and_from _ _ within (and_from _ _ (ap (λ (j : ℕ). is_within j e) (sym size) ∙ here) refl)

-- ---- the entry that was not fed

split_at : (es : List TraceEntry) (k : ℕ) (d : TraceEntry) → k < length es
    → es ≡ take k es ++ get_or es k d ∷ drop (suc k) es
split_at [] k d h = absurd (omega arith)
split_at (x ∷ xs) zero d h = refl
split_at (x ∷ xs) (suc k) d h = ap (λ (l : List TraceEntry). x ∷ l) (split_at xs k d (omega arith))

taken : (es : List TraceEntry) (k : ℕ) → k < length es → length (take k es) ≡ k
taken [] k h = absurd (omega arith)
taken (x ∷ xs) zero h = refl
taken (x ∷ xs) (suc k) h = ap suc (taken xs k (omega arith))

pub stopped : (es : List TraceEntry) (k number : ℕ) (e : TraceEntry) (error : TraceError) (old mid new : Asking)
    → k < length es → e ≡ get_or es k e → number ≡ k + 1 → AreFedWith (take k es) old mid
    → list_all (is_within (size_of old)) (take k es) ≡ true → size_of mid ≡ size_of old
    → NumberedResult number e mid new (Err error) → ReplayResult es old new (Err error)
stopped es k number e (faults.Refused at) old mid new h x n fed within size r = record {
  fed = take k es;
  entry = e;
  rest = drop (suc k) es;
  whole = split_at es k e h ∙ ap (λ (y : TraceEntry). take k es ++ y ∷ drop (suc k) es) (sym x);
  place = r.0 ∙ n ∙ ap (λ (j : ℕ). j + 1) (sym (taken es k h));
  within = within;
  outside = ap (λ (j : ℕ). is_within j e) (sym size) ∙ r.1;
  are = subst (λ (a : Asking). AreFedWith (take k es) old a) (sym r.2) fed;
}
stopped es k number e faults.Memory old mid new h x n fed within size r = tt

-- ---- what a trace tells can be reported

one_reported : (at : ℕ) (w : Traced) (history : List Entry) → AreReports history
    → AreReports (option_to_list (reported_at at w) ++ history)
one_reported at (traced.Reported c report) history h = ((report, refl), h)
one_reported at (traced.Received c octets) history h = (tt, h)
one_reported at traced.Ticked history h = (tt, h)
one_reported at traced.GaveUp history h = (tt, h)
one_reported at (traced.Began given) history h = h
one_reported at (traced.Wanted c task) history h = h
one_reported at (traced.Sent c octets) history h = h
one_reported at (traced.Noticed c notice) history h = h

pub all_reported : (es : List TraceEntry) (history : List Entry) → AreReports history
    → AreReports (history_after es history)
all_reported [] history h = h
all_reported (e ∷ es) history h = all_reported es (history_with e history) (one_reported e.at e.what history h)
