-- The lines of the octets of one way, of entries, and of a dialogue.
use Rattle.std.proofs.Common.{◌≡◌, refl, sym, ◌∙◌, ap, subst, ℕ, zero, suc, ◌+◌, ◌<◌, arith, ◌⊎◌, inl, inr, Bool, true, false, List, [], ◌∷◌, ◌++◌, length, take, drop, replicate, get_or, slice_get, slice_set, Option, Some, None, Result, Ok, Err, append_assoc, append-nil, length-append}
use Rattle.std.proofs.Math.Seq.{take-suc}
use Rattle.std.proofs.lemmas.Bool.{and_from}
use Rattle.std.proofs.lemmas.List.{length-replicate}
use Rattle.std.proofs.lemmas.Option.{same_Some, slice_get-get_or}
use Rattle.std.proofs.lemmas.List.Folds.{list_all-append}
use Rattle.std.specs.List.{list_all}
use Rattle.zber.specs.declared.fault.FaultKind.{FaultKind}
use Rattle.zber.specs.declared.fault.FaultKind.TheVariants as kinds
use Rattle.zber.specs.declared.fault.FrameError.TheVariants.{Fault}
use Rattle.zber.specs.declared.framer.TheConstants.{MESSAGE_LIMIT}
use Rattle.zber.specs.Elements.{Element}
use Rattle.zber.specs.Shown.{HasFault}
use Rattle.zber.specs.Spelling.{HasFirstMessage}
use Rattle.zber.specs.Stream.{Stream, AfterNext, finished}
use Rattle.zber.specs.Unfinished.{IsUnfinished}
use Rattle.zber.proofs.ScanSteps.{spells_some}
use Rattle.zapdu.specs.declared.apdu.Apdu.{Apdu}
use Rattle.zapdu.specs.declared.apdu.ApduError.{ApduError}
use Rattle.zoom_trace.specs.declared.entry.TraceEntry.{TraceEntry}
use Rattle.zoom_trace.specs.Replays.{is_within}
use Rattle.zmeta_trace.specs.declared.dialogue.Talk.{Talk}
use Rattle.zmeta_trace.specs.Dialogue.{message_text, fault_text, end_text, AreMessages, unfinished, message, fault, AreLinesOf, none, more, IsDialogue, IsFirstOutside, new_talk}
use Rattle.zmeta_trace.specs.Entries.{AfterEntryOn, PutEntryResult}
use Rattle.zmeta_trace.specs.Messages.{IsMessagePut, IsWayEnd, NextResult, AreAllShown}
use Rattle.zmeta_trace.specs.Ways.{IsLookedAt, IsOpen}

-- ---- places

some_at : {A : Type 0} (xs : List A) (c : ℕ) → c < length xs → (x : A) × (slice_get xs c ≡ Some x)
some_at [] c lt = absurd (omega arith)
some_at (x ∷ xs) zero lt = (x, refl)
some_at (x ∷ xs) (suc c) lt = some_at xs c (omega arith)

-- one place changed to what it is
set_same : {A : Type 0} (xs : List A) (i : ℕ) (v : A) → slice_get xs i ≡ Some v → slice_set xs i v ≡ xs
set_same [] i v is = absurd cc
set_same (x ∷ xs) zero v is = ap (λ y. y ∷ xs) (sym (same_Some x v is))
set_same (x ∷ xs) (suc i) v is = ap (λ ys. x ∷ ys) (set_same xs i v is)

-- ---- the next message

-- a message takes octets away
pub rest_shorter : (xs rest : List ℕ) (e : Element) → HasFirstMessage MESSAGE_LIMIT xs e rest → length rest < length xs
rest_shorter xs rest e b = omega (arith, spells_some b.is.spelled, ap length b.cut, length-append b.message rest)

no_fault : {A : Type 0} {x : A} {o : Option A} → o ≡ None → o ≡ Some x → ⊥
no_fault p q = cc

-- no message begins the octets yet
pub next_none : (place : List ℕ) (s t : Stream) (over : Bool) (out : List ℕ) → s.limit ≡ MESSAGE_LIMIT → over ≡ false
    → AfterNext s (Ok None) t → NextResult place s t over out out false
next_none place s t over out limited going a =
    subst (λ (b : Bool). IsWayEnd place s t b out out) (sym going)
    (subst (λ (n : ℕ). IsUnfinished n s.octets) limited a.1, refl, a.2)

-- a message was taken
pub next_message : (place : List ℕ) (s t : Stream) (over : Bool) (e : Element) (old new : List ℕ)
    → s.limit ≡ MESSAGE_LIMIT → over ≡ false → AfterNext s (Ok (Some e)) t → IsMessagePut place e old new
    → NextResult place s t over old new true
next_message place s t over e old new limited going a put =
    ((e, subst (λ (n : ℕ). HasFirstMessage n s.octets e t.octets) limited a.1, put, a.2), going)

-- the octets show a fault
pub next_fault : (place : List ℕ) (s t : Stream) (over : Bool) (kind : FaultKind) (at : ℕ) (old new : List ℕ)
    → s.limit ≡ MESSAGE_LIMIT → s.fault ≡ None → over ≡ true → AfterNext s (Err (Fault kind at)) t
    → new ≡ old ++ (place ++ fault_text kind at) → NextResult place s t over old new false
next_fault place s t over kind at old new limited sound is a put =
    subst (λ (b : Bool). IsWayEnd place s t b old new) (sym is)
    (kind, at, subst (λ (n : ℕ). HasFault n s.octets kind at) limited (shown a.1), put)
  where
    shown : ((s.fault ≡ Some (kind, at)) ⊎ ((s.fault ≡ None) × HasFault s.limit s.octets kind at))
        → HasFault s.limit s.octets kind at
    shown (inl q) = absurd (no_fault sound q)
    shown (inr b) = b.1

-- what was taken from the octets: no message yet, a message or a fault
pub ruleset next_steps = (next_none, next_message, next_fault)

-- ---- all messages

-- the lines of some messages were appended, and those of the octets that are left come behind them
pub record HasShown (place xs : List ℕ) (t : Stream) (over : Bool) (old now : List ℕ) : Type 0 where
  pub limited : t.limit ≡ MESSAGE_LIMIT
  pub sound : t.fault ≡ None
  pub going : over ≡ false
  pub text : List ℕ
  pub written : now ≡ old ++ text
  pub goes_on : (lines : List ℕ) (left : Option (List ℕ)) → AreMessages place t.octets lines left
      → AreMessages place xs (text ++ lines) left

pub taken_none : (place : List ℕ) (s : Stream) (over : Bool) (out : List ℕ) → s.limit ≡ MESSAGE_LIMIT → s.fault ≡ None
    → over ≡ false → HasShown place s.octets s over out out
taken_none place s over out limited sound going = record {
  limited = limited;
  sound = sound;
  going = going;
  text = [];
  written = sym (append-nil out);
  goes_on = λ lines left is. is;
}

pub taken_more : (place xs : List ℕ) (s t : Stream) (before after : Bool) (old now then : List ℕ)
    → HasShown place xs s before old now → NextResult place s t after now then true
    → HasShown place xs t after old then
taken_more place xs s t before after old now then h next =
    let e = next.0.0 in
    let put = next.0.2 in
    let line = place ++ message_text put.0 in record {
      limited = ap (λ (z : Stream). z.limit) next.0.3 ∙ h.limited;
      sound = ap (λ (z : Stream). z.fault) next.0.3 ∙ h.sound;
      going = next.1;
      text = h.text ++ line;
      written = put.2 ∙ ap (λ (z : List ℕ). z ++ line) h.written ∙ append_assoc old h.text line;
      goes_on = λ lines left is. subst (λ (z : List ℕ). AreMessages place xs z left)
          (sym (append_assoc h.text line lines))
          (h.goes_on (line ++ lines) left (message {e = e} put.0 next.0.1 put.1 is));
    }

pub taken_less : (place xs : List ℕ) (s t : Stream) (before after : Bool) (old now then : List ℕ)
    → NextResult place s t after now then true → length t.octets < length s.octets
taken_less place xs s t before after old now then next = rest_shorter s.octets t.octets next.0.0 next.0.1

asked_so : (xs : List ℕ) → IsLookedAt xs true
asked_so [] = tt
asked_so (x ∷ xs) = refl

-- the stream after `next` returned nothing is open
open_asked : (s t : Stream) → s.limit ≡ MESSAGE_LIMIT → s.fault ≡ None → t ≡ record s { asked = true } → IsOpen t
open_asked s t limited sound is = subst IsOpen (sym is) (record {
  limited = limited;
  sound = sound;
  asked = asked_so s.octets;
})

taken_end_by : (place xs : List ℕ) (s t : Stream) (before after : Bool) (old now then : List ℕ)
    → HasShown place xs s before old now → IsWayEnd place s t after now then
    → AreAllShown place xs t after old then
taken_end_by place xs s t before false old now then h end =
    let same : t.octets ≡ s.octets = ap (λ (z : Stream). z.octets) end.2 in record {
      text = h.text;
      lines = subst (λ (z : List ℕ). AreMessages place xs h.text (Some z)) (sym same)
          (subst (λ (z : List ℕ). AreMessages place xs z (Some s.octets)) (append-nil h.text)
          (h.goes_on [] (Some s.octets) (unfinished end.0)));
      appended = end.1 ∙ h.written;
      stands = open_asked s t h.limited h.sound end.2;
    }
taken_end_by place xs s t before true old now then h end =
    let line = place ++ fault_text end.0 end.1 in record {
      text = h.text ++ line;
      lines = h.goes_on line None (fault end.2);
      appended = end.3 ∙ ap (λ (z : List ℕ). z ++ line) h.written ∙ append_assoc old h.text line;
      stands = tt;
    }

pub taken_end : (place xs : List ℕ) (s t : Stream) (before after : Bool) (old now then : List ℕ)
    → HasShown place xs s before old now → NextResult place s t after now then false
    → AreAllShown place xs t after old then
taken_end = taken_end_by

-- the octets before any message, behind one more, and behind the last
pub ruleset taken_steps = (taken_none, taken_more, taken_end, taken_less)

-- ---- the end of the octets

-- the line of octets that end within a message, by what `finish` returns
pub ended_whole : (place : List ℕ) (s : Stream) (ok : Bool) → IsOpen s → Ok ok ≡ finished s
    → end_text place (Some s.octets) ≡ []
ended_whole place s ok o is = by s.octets s.asked o.asked
    (is ∙ ap (λ (f : Option (FaultKind × ℕ)). finished (record s { fault = f })) o.sound)
  where
    by : (xs : List ℕ) (asked : Bool) → IsLookedAt xs asked
        → Ok ok ≡ finished (record { limit = s.limit; octets = xs; fault = None; asked = asked })
        → end_text place (Some xs) ≡ []
    by [] asked a q = refl
    by (x ∷ xs) true a q = absurd cc
    by (x ∷ xs) false a q = absurd cc

pub ended_within : (place : List ℕ) (s : Stream) (kind : FaultKind) (at : ℕ) → IsOpen s
    → Err (Fault kind at) ≡ finished s → end_text place (Some s.octets) ≡ place ++ fault_text kind at
ended_within place s kind at o is = by s.octets s.asked o.asked
    (is ∙ ap (λ (f : Option (FaultKind × ℕ)). finished (record s { fault = f })) o.sound)
  where
    by : (xs : List ℕ) (asked : Bool) → IsLookedAt xs asked
        → Err (Fault kind at) ≡ finished (record { limit = s.limit; octets = xs; fault = None; asked = asked })
        → end_text place (Some xs) ≡ place ++ fault_text kind at
    by [] asked a q = absurd cc
    by (x ∷ xs) true a q =
        let one : kind ≡ kinds.Truncated = cc in
        let two : at ≡ length (x ∷ xs) = cc in
        ap (λ (k : FaultKind). place ++ fault_text k (length (x ∷ xs))) (sym one)
        ∙ ap (λ (n : ℕ). place ++ fault_text kind n) (sym two)
    by (x ∷ xs) false a q = absurd cc

-- ---- the dialogue

-- the lines of an entry of a catalogue that is not shown
pub hidden : (names : List (List ℕ)) (chosen : List Bool) (c : ℕ) (e : TraceEntry) (talks : List Talk) (out : List ℕ)
    → c < length talks → length names ≡ length talks → length chosen ≡ length talks → get_or chosen c false ≡ false
    → AfterEntryOn names chosen c e talks talks out out
hidden names chosen c e talks out there named chosen_so is =
    let name = some_at names c (omega (arith, there, named)) in
    let talk = some_at talks c there in
    let stood = slice_get-get_or chosen c false (omega (arith, there, chosen_so)) in (
      [],
      record {
        name = name.0;
        shown = false;
        before = talk.0;
        after = talk.0;
        named = name.1;
        chosen_so = stood ∙ ap Some is;
        stood = talk.1;
        stands = sym (set_same talks c talk.0 talk.1);
        lines = (refl, refl);
      },
      sym (append-nil out),
      refl,
    )

-- The lines of the first entries were appended, and a connection is there for each name.
pub record HasTold
    (names : List (List ℕ)) (chosen : List Bool) (es : List TraceEntry) (talks : List Talk) (old now : List ℕ)
    : Type 0 where
  pub text : List ℕ
  pub lines : AreLinesOf names chosen es talks text
  pub written : now ≡ old ++ text
  pub size : length talks ≡ length names
  pub within : list_all (is_within (length names)) es ≡ true

pub told_none : (names : List (List ℕ)) (chosen : List Bool) (talks : List Talk) (out : List ℕ)
    → talks ≡ replicate (length names) new_talk → HasTold names chosen [] talks out out
told_none names chosen talks out is = subst (λ (z : List Talk). HasTold names chosen [] z out out) (sym is) (record {
  text = [];
  lines = none;
  written = sym (append-nil out);
  size = length-replicate (length names) new_talk;
  within = refl;
})

all_more : (f : TraceEntry → Bool) (es : List TraceEntry) (e : TraceEntry) → list_all f es ≡ true → f e ≡ true
    → list_all f (es ++ e ∷ []) ≡ true
all_more f es e a b = list_all-append f es (e ∷ []) ∙ and_from _ _ a (and_from _ _ b refl)

take_next : (es : List TraceEntry) (k : ℕ) (e : TraceEntry) → k < length es → e ≡ get_or es k e
    → take (k + 1) es ≡ take k es ++ e ∷ []
take_next es k e h x =
    let n : k + 1 ≡ suc k = omega arith in
    ap (λ (j : ℕ). take j es) n ∙ take-suc es k e h ∙ ap (λ (y : TraceEntry). take k es ++ y ∷ []) (sym x)

split_at : (es : List TraceEntry) (k : ℕ) (d : TraceEntry) → k < length es
    → es ≡ take k es ++ get_or es k d ∷ drop (suc k) es
split_at [] k d h = absurd (omega arith)
split_at (x ∷ xs) zero d h = refl
split_at (x ∷ xs) (suc k) d h = ap (λ (l : List TraceEntry). x ∷ l) (split_at xs k d (omega arith))

taken : (es : List TraceEntry) (k : ℕ) → k < length es → length (take k es) ≡ k
taken [] k h = absurd (omega arith)
taken (x ∷ xs) zero h = refl
taken (x ∷ xs) (suc k) h = ap suc (taken xs k (omega arith))

take-all : (es : List TraceEntry) → take (length es) es ≡ es
take-all [] = refl
take-all (x ∷ xs) = ap (λ (l : List TraceEntry). x ∷ l) (take-all xs)

told_one : (names : List (List ℕ)) (chosen : List Bool) (es : List TraceEntry) (e : TraceEntry)
    (before after : List Talk) (old now then : List ℕ)
    → HasTold names chosen es before old now → PutEntryResult names chosen e before after now then true
    → HasTold names chosen (es ++ e ∷ []) after old then
told_one names chosen es e before after old now then h r =
    let line = r.0.0 in record {
      text = h.text ++ line;
      lines = more e after line h.lines r.0.1;
      written = r.0.2 ∙ ap (λ (z : List ℕ). z ++ line) h.written ∙ append_assoc old h.text line;
      size = r.0.3 ∙ h.size;
      within = all_more (is_within (length names)) es e h.within r.1;
    }

pub told_more : (names : List (List ℕ)) (chosen : List Bool) (all : List TraceEntry) (k : ℕ) (e : TraceEntry)
    (before after : List Talk) (old now then : List ℕ)
    → k < length all → e ≡ get_or all k e → HasTold names chosen (take k all) before old now
    → PutEntryResult names chosen e before after now then true → HasTold names chosen (take (k + 1) all) after old then
told_more names chosen all k e before after old now then lt is h r =
    subst (λ (l : List TraceEntry). HasTold names chosen l after old then) (sym (take_next all k e lt is))
    (told_one names chosen (take k all) e before after old now then h r)

-- the entry speaks of a connection that is not there
pub told_outside : (names : List (List ℕ)) (chosen : List Bool) (all : List TraceEntry) (k : ℕ) (e : TraceEntry)
    (before after : List Talk) (old now then : List ℕ)
    → k < length all → e ≡ get_or all k e → HasTold names chosen (take k all) before old now
    → PutEntryResult names chosen e before after now then false → IsFirstOutside (length names) all (k + 1)
told_outside names chosen all k e before after old now then lt is h r = record {
  before = take k all;
  entry = e;
  rest = drop (suc k) all;
  whole = split_at all k e lt ∙ ap (λ (y : TraceEntry). take k all ++ y ∷ drop (suc k) all) (sym is);
  place = ap (λ (j : ℕ). j + 1) (sym (taken all k lt));
  within = h.within;
  outside = r;
}

-- all entries
pub told_all : (names : List (List ℕ)) (chosen : List Bool) (all : List TraceEntry) (talks : List Talk)
    (old now : List ℕ)
    → HasTold names chosen (take (length all) all) talks old now
    → (text : List ℕ) × IsDialogue names chosen all text × (now ≡ old ++ text)
told_all names chosen all talks old now h = (
  h.text,
  (talks, subst (λ (l : List TraceEntry). AreLinesOf names chosen l talks h.text) (take-all all) h.lines),
  h.written,
)
