-- What was shown so far, and how it continues or ends.
use Rattle.std.proofs.Common.{◌≡◌, ℕ, ◌<◌, inl, inr, List, [], ◌∷◌, ◌++◌, length, Bool, true, false, Option, Some, None, Result, Ok, Err, MatchResult, IsErrAnd, IfSome, refl, ap, sym, ◌∙◌, subst, append_assoc, append-nil, arith, length-append}
use Rattle.zber.specs.declared.fault.FaultKind.{FaultKind}
use Rattle.zber.specs.declared.fault.FaultKind.TheVariants as kinds
use Rattle.zber.specs.declared.fault.FrameError.{FrameError}
use Rattle.zber.specs.declared.fault.FrameError.TheVariants as frames
use Rattle.zber.specs.Elements.{Element}
use Rattle.zber.specs.Spelling.{HasFirstMessage}
use Rattle.zber.specs.Shown.{HasFault}
use Rattle.zber.specs.Stream.{Stream, AfterNext, finished}
use Rattle.zber.specs.Unfinished.{IsUnfinished}
use Rattle.zber.proofs.ScanSteps.{spells_some}
use Rattle.zapdu.specs.declared.apdu.Apdu.{Apdu}
use Rattle.zapdu.specs.declared.apdu.ApduError.{ApduError}
use Rattle.zapdu.specs.declared.apdu.ApduError.TheVariants as apdus
use Rattle.zapdu.specs.Writes.{Writes, IsDecodeResult}
use Rattle.zmeta_offline.specs.Digits.{octets_of}
use Rattle.zmeta_devices.specs.Faults.{of_frame, of_apdu}
use Rattle.zapdu_lines.specs.Lines.{apdu_text}
use Rattle.zmeta_offline.specs.Show.{ShownText, nothing_left, apdu, fault, unfinished, no_apdu, malformed, ShowDigitsResult, ShowResult}
use Rattle.zber.specs.declared.framer.TheConstants.{MESSAGE_LIMIT}
use Rattle.zmeta_offline.specs.Steps.{ShowNextResult, ShowOctetsResult, PutLinesResult, PrintLinesResult}
use Rattle.zmeta_devices.specs.Devices.{Device, InputDevice, HasGained, HasStopped, PutFailure, IsOfStream}
use Rattle.zmeta_devices.proofs.DeviceSteps.{failed_some}
use Rattle.zmeta_devices.specs.declared.fault.Fault.{Fault}
use Rattle.zmeta_devices.specs.declared.fault.Fault.TheVariants.{Read, Write, Hex, Frame, Memory}

-- a message takes octets away
pub rest_shorter : (size : ℕ) (xs rest : List ℕ) (e : Element) → HasFirstMessage size xs e rest → length rest < length xs
rest_shorter size xs rest e b = omega (arith, spells_some b.is.spelled, ap length b.cut, length-append b.message rest)

-- the text of the rest follows the text so far
pub record HasShown (xs rest old now : List ℕ) : Type 0 where
  pub text : List ℕ
  pub written : now ≡ old ++ text
  pub goes_on : (t : List ℕ) (end : Result (Unit {0}) Fault) → ShownText rest t end → ShownText xs (text ++ t) end

pub shown_more : (xs rest left old now then : List ℕ) (e : Element) (v : Apdu) → HasShown xs rest old now → HasFirstMessage MESSAGE_LIMIT rest e left → Writes v e → then ≡ now ++ apdu_text v → HasShown xs left old then
shown_more xs rest left old now then e v h b w q = record {
  text = h.text ++ apdu_text v;
  written = q ∙ ap (λ z. z ++ apdu_text v) h.written ∙ append_assoc old h.text (apdu_text v);
  goes_on = λ t end s. subst (λ z. ShownText xs z end) (sym (append_assoc h.text (apdu_text v) t)) (h.goes_on (apdu_text v ++ t) end (apdu v b w s));
}

-- the error that `?` returns
is_err : {A E : Type 0} (r : Result A E) (x : E) → IsErrAnd r (λ f. f ≡ x) → Err x ≡ r
is_err (Ok v) x h = absurd h
is_err (Err f) x h = ap Err (sym h)

no_fault : {A : Type 0} {x : A} {o : Option A} → o ≡ None → o ≡ Some x → ⊥
no_fault p q = cc

fault_here : (s t : Stream) (text : List ℕ) (e : FrameError) → s.limit ≡ MESSAGE_LIMIT → s.fault ≡ None → AfterNext s (Err e) t → ShowNextResult s t text text (Err (of_frame e))
fault_here s t text (frames.Fault k at) l p a = (fault (subst (λ n. HasFault n s.octets k at) l (elim a.1 [ inl q ↦ absurd (no_fault p q) | inr b ↦ b.1 ])), refl)
fault_here s t text frames.Memory l p a = tt

refused_here : (s t : Stream) (text : List ℕ) (n : Element) (e : ApduError) → s.limit ≡ MESSAGE_LIMIT → AfterNext s (Ok (Some n)) t → IsDecodeResult n (Err e) → ShowNextResult s t text text (Err (of_apdu e))
refused_here s t text n apdus.NotApdu l a d = (no_apdu (subst (λ z. HasFirstMessage z s.octets n t.octets) l a.1) d, refl)
refused_here s t text n (apdus.Malformed kind at) l a d = (malformed (subst (λ z. HasFirstMessage z s.octets n t.octets) l a.1) d.0 d.1, refl)
refused_here s t text n apdus.Memory l a d = tt

-- a framing fault is shown next, as is a message that is refused
pub fault_next : (s t : Stream) (text : List ℕ) (e : FrameError) (r : Result Bool Fault) → s.limit ≡ MESSAGE_LIMIT → s.fault ≡ None → AfterNext s (Err e) t → IsErrAnd r (λ f. f ≡ of_frame e) → ShowNextResult s t text text r
fault_next s t text e r l p a w = subst (ShowNextResult s t text text) (is_err r (of_frame e) w) (fault_here s t text e l p a)

pub refused_next : (s t : Stream) (text : List ℕ) (n : Element) (e : ApduError) (o : Option Element) (r : Result Bool Fault) → s.limit ≡ MESSAGE_LIMIT → AfterNext s (Ok o) t → o ≡ Some n → IsDecodeResult n (Err e) → IsErrAnd r (λ f. f ≡ of_apdu e) → ShowNextResult s t text text r
refused_next s t text n e o r l a q d w = subst (ShowNextResult s t text text) (is_err r (of_apdu e) w) (refused_here s t text n e l (subst (λ z. AfterNext s (Ok z) t) q a) d)

-- a message was shown
pub record IsShown (s t : Stream) (old new : List ℕ) : Type 0 where
  pub element : Element
  pub value : Apdu
  pub begins : HasFirstMessage MESSAGE_LIMIT s.octets element t.octets
  pub writes : Writes value element
  pub text : new ≡ old ++ apdu_text value
  pub limited : t.limit ≡ s.limit
  pub no_fault : t.fault ≡ s.fault

shown_one : (s t : Stream) (old new : List ℕ) → ShowNextResult s t old new (Ok true) → IsShown s t old new
shown_one s t old new m = record { element = m.0; value = m.1; begins = m.2; writes = m.3; text = m.4; limited = ap (λ z. z.limit) m.5; no_fault = ap (λ z. z.fault) m.5 }

pub is_shown : (s t : Stream) (old new : List ℕ) (b : Bool) → ShowNextResult s t old new (Ok b) → b ≡ true → IsShown s t old new
is_shown s t old new b m q = shown_one s t old new (subst (λ z. ShowNextResult s t old new (Ok z)) q m)

abbrev asked_stream : ℕ → List ℕ → Stream
asked_stream size octets = record { limit = size; octets = octets; fault = None; asked = true }

asked_is : (s t : Stream) → s.fault ≡ None → t ≡ record s { asked = true } → t ≡ asked_stream s.limit s.octets
asked_is s t p q = q ∙ ap (λ (z : Option (FaultKind × ℕ)). record { limit = s.limit; octets = s.octets; fault = z; asked = true }) p

no_err : {A E : Type 0} {x : A} {e : E} → Err e ≡ Ok x → ⊥
no_err q = cc

finish_err : (size : ℕ) (octets : List ℕ) (e : FrameError) → IsUnfinished MESSAGE_LIMIT octets → Err e ≡ finished (asked_stream size octets) → ShownText octets [] (Err (of_frame e))
finish_err size [] e u q = absurd (no_err q)
finish_err size (x ∷ xs) e u q =
    let is : e ≡ frames.Fault kinds.Truncated (length (x ∷ xs)) = cc in
    subst (λ z. ShownText (x ∷ xs) [] (Err (of_frame z))) (sym is) (unfinished (omega arith) u)

finish_ok : (size : ℕ) (octets : List ℕ) (b : Bool) → Ok b ≡ finished (asked_stream size octets) → ShownText octets [] (Ok tt)
finish_ok size [] b q = nothing_left
finish_ok size (x ∷ xs) b q = absurd (no_err (sym q))

shown_end : (xs old now new : List ℕ) (s t : Stream) → HasShown xs s.octets old now → ShowNextResult s t now new (Ok false) → (end : Result (Unit {0}) Fault) → ShownText s.octets [] end → (text : List ℕ) × ShownText xs text end × (new ≡ old ++ text)
shown_end xs old now new s t h m end is = (h.text, subst (λ z. ShownText xs z end) (append-nil h.text) (h.goes_on [] end is), m.1 ∙ h.written)

end_err : (xs old now new : List ℕ) (s t : Stream) (e : FrameError) → s.fault ≡ None → HasShown xs s.octets old now → ShowNextResult s t now new (Ok false) → Err e ≡ finished t → ShowOctetsResult xs old new (Err (of_frame e))
end_err xs old now new s t (frames.Fault k at) p h m q = shown_end xs old now new s t h m (Err (Frame k at)) (finish_err s.limit s.octets (frames.Fault k at) m.0 (q ∙ ap finished (asked_is s t p m.2)))
end_err xs old now new s t frames.Memory p h m q = tt

fault_end : (xs old now new : List ℕ) (s t : Stream) (f : Fault) → HasShown xs s.octets old now → ShowNextResult s t now new (Err f) → ShowOctetsResult xs old new (Err f)
fault_end xs old now new s t Memory h m = tt
fault_end xs old now new s t f h m = (h.text, subst (λ z. ShownText xs z (Err f)) (append-nil h.text) (h.goes_on [] (Err f) m.0), m.1 ∙ h.written)

-- a message is at fault
pub refused_end : (xs old now new : List ℕ) (s t : Stream) (g f : Fault) (r : Result (Unit {0}) Fault) → r ≡ Err f → f ≡ g → HasShown xs s.octets old now
    → ShowNextResult s t now new (Err g) → ShowOctetsResult xs old new r
refused_end xs old now new s t g f r is of h m = rw (is, of) (fault_end xs old now new s t g h m)

-- if no message follows, the octets end or are unfinished
pub unfinished_end : (xs old now new : List ℕ) (s t : Stream) (b : Bool) (e : FrameError) (r : Result (Unit {0}) Fault) → s.fault ≡ None → HasShown xs s.octets old now
    → ShowNextResult s t now new (Ok b) → b ≡ false → Err e ≡ finished t → IsErrAnd r (λ f. f ≡ of_frame e) → ShowOctetsResult xs old new r
unfinished_end xs old now new s t b e r p h m f q w =
    let none = subst (λ z. ShowNextResult s t now new (Ok z)) f m in
    subst (ShowOctetsResult xs old new) (is_err r (of_frame e) w) (end_err xs old now new s t e p h none q)

pub whole_end : (xs old now new : List ℕ) (s t : Stream) (b c : Bool) → s.fault ≡ None → HasShown xs s.octets old now → ShowNextResult s t now new (Ok b) → b ≡ false → Ok c ≡ finished t → ShowOctetsResult xs old new (Ok tt)
whole_end xs old now new s t b c p h m f q =
    let none = subst (λ z. ShowNextResult s t now new (Ok z)) f m in
    shown_end xs old now new s t h none (Ok tt) (finish_ok s.limit s.octets c (q ∙ ap finished (asked_is s t p none.2)))

-- octets do not end with a fault of a stream, of digits or of memory
abbrev IsEnd : Result (Unit {0}) Fault → Type 0
IsEnd (Err (Read path)) = ⊥
IsEnd (Err (Write path)) = ⊥
IsEnd (Err Hex) = ⊥
IsEnd (Err Memory) = ⊥
IsEnd _ = Unit {0}

is_end : {xs text : List ℕ} {end : Result (Unit {0}) Fault} → ShownText xs text end → IsEnd end
is_end nothing_left = tt
is_end (apdu v b w s) = is_end s
is_end (fault f) = tt
is_end (unfinished m u) = tt
is_end (no_apdu b n) = tt
is_end (malformed b w m) = tt

-- the lines of all that is shown
abbrev AreLines : List ℕ → List ℕ → Result (Unit {0}) Fault → Type 0
AreLines xs lines answer = (text : List ℕ) × ShownText xs text answer × (lines ≡ [] ++ text)

all_shown : (digits xs lines : List ℕ) (old new : Device) (answer : Result (Unit {0}) Fault) → octets_of digits ≡ Ok xs → AreLines xs lines answer → HasGained old new lines → ShowDigitsResult digits old new answer
all_shown digits xs lines old new answer q s g = (xs, s.0, q, s.1, subst (HasGained old new) s.2 g)

answered : (digits xs lines : List ℕ) (old new : Device) (answer : Result (Unit {0}) Fault) → octets_of digits ≡ Ok xs → AreLines xs lines answer → HasGained old new lines → ShowResult digits old new answer
answered digits xs lines old new (Err (Read path)) q s g = absurd (is_end s.1)
answered digits xs lines old new (Err (Write path)) q s g = absurd (is_end s.1)
answered digits xs lines old new (Err Hex) q s g = absurd (is_end s.1)
answered digits xs lines old new (Err Memory) q s g = absurd (is_end s.1)
answered digits xs lines old new answer q s g = all_shown digits xs lines old new answer q s g

stopped : (digits xs lines : List ℕ) (old new : Device) (answer end : Result (Unit {0}) Fault) → octets_of digits ≡ Ok xs → AreLines xs lines answer → MatchResult end (λ _. ⊥) (PutFailure old new lines) → ShowResult digits old new end
stopped digits xs lines old new answer (Ok u) q s p = absurd p
stopped digits xs lines old new answer (Err (Write told)) q s p = (xs, s.0, answer, q, s.1, subst (HasStopped old new) s.2 p.1)
stopped digits xs lines old new answer (Err f) q s p = absurd p

put_shown : (digits xs lines : List ℕ) (old new : Device) (answer end : Result (Unit {0}) Fault) → octets_of digits ≡ Ok xs → AreLines xs lines answer → PutLinesResult lines answer old new end → ShowResult digits old new end
put_shown digits xs lines old new answer end q s p = elim p [
  | inl h ↦ subst (ShowResult digits old new) (sym h.0) (answered digits xs lines old new answer q s h.1)
  | inr h ↦ stopped digits xs lines old new answer end q s h
]

text_shown : (digits xs lines : List ℕ) (old new : Device) (answer end : Result (Unit {0}) Fault) → octets_of digits ≡ Ok xs → ShowOctetsResult xs [] lines answer → PrintLinesResult lines answer old new end → ShowResult digits old new end
text_shown digits xs lines old new (Err Memory) end q s p = subst (ShowResult digits old new) (sym p.0) p.1
text_shown digits xs lines old new answer end q s p = put_shown digits xs lines old new answer end q s p

-- the same for the input of a reader whose octets are known; each value has a name
pub input_shown : (known : Option (List ℕ)) (input digits octets xs start lines printed : List ℕ) (old new : Device) (answer end : Result (Unit {0}) Fault)
    → IfSome known (λ ys. input ≡ ys) → digits ≡ input → octets_of digits ≡ Ok octets → xs ≡ octets → start ≡ [] → ShowOctetsResult xs start lines answer → printed ≡ lines → PrintLinesResult printed answer old new end
    → IfSome known (λ ys. ShowResult ys old new end)
input_shown None input digits octets xs start lines printed old new answer end k q d e b s f p = tt
input_shown (Some ys) input digits octets xs start lines printed old new answer end k q d e b s f p =
    let shown : ShowOctetsResult octets [] lines answer = subst (λ z. ShowOctetsResult z [] lines answer) e (subst (λ z. ShowOctetsResult xs z lines answer) b s) in
    subst (λ z. ShowResult z old new end) (q ∙ k) (text_shown digits octets lines old new answer end d shown (subst (λ z. PrintLinesResult z answer old new end) f p))

-- the stream that a fault names is the one that was written
ends_whole : {xs text : List ℕ} (input : InputDevice) (output : Device) (answer : Result (Unit {0}) Fault) → ShownText xs text answer → IsOfStream input output answer
ends_whole input output (Err (Read path)) s = absurd (is_end s)
ends_whole input output (Err (Write path)) s = absurd (is_end s)
ends_whole input output answer s = tt

ends_stopped : (input : InputDevice) (old new : Device) (lines : List ℕ) (end : Result (Unit {0}) Fault) → MatchResult end (λ _. ⊥) (PutFailure old new lines) → IsOfStream input new end
ends_stopped input old new lines (Ok u) p = absurd p
ends_stopped input old new lines (Err (Write told)) p = (p.0 ∙ sym p.1.path, failed_some old.failures new.failures p.1.failed)
ends_stopped input old new lines (Err f) p = absurd p

ends_put : (input : InputDevice) (xs start lines printed : List ℕ) (old new : Device) (answer end : Result (Unit {0}) Fault) → ((text : List ℕ) × ShownText xs text answer × (lines ≡ start ++ text)) → PutLinesResult printed answer old new end → IsOfStream input new end
ends_put input xs start lines printed old new answer end s p = elim p [
  | inl h ↦ subst (IsOfStream input new) (sym h.0) (ends_whole input new answer s.1)
  | inr h ↦ ends_stopped input old new printed end h
]

pub ends_by : (input : InputDevice) (xs start lines printed : List ℕ) (old new : Device) (answer end : Result (Unit {0}) Fault) → ShowOctetsResult xs start lines answer → PrintLinesResult printed answer old new end → IsOfStream input new end
ends_by input xs start lines printed old new (Err Memory) end s p = subst (IsOfStream input new) (sym p.0) tt
ends_by input xs start lines printed old new answer end s p = ends_put input xs start lines printed old new answer end s p
