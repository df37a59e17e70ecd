-- Octets have only one text and one end.
use Rattle.std.proofs.Common.{◌≡◌, ℕ, ◌<◌, List, [], ◌++◌, length, Result, Ok, Err, refl, ap, sym, ◌∙◌, subst, arith}
use Rattle.zber.specs.declared.fault.FaultKind.{FaultKind}
use Rattle.zber.specs.declared.fault.FaultKind.TheVariants as kinds
use Rattle.zber.specs.Elements.{Element}
use Rattle.zber.specs.Spelling.{HasFirstMessage}
use Rattle.zber.specs.Shown.{HasFault}
use Rattle.zber.specs.Laws.{OneResult}
use Rattle.zber.specs.Unfinished.{IsUnfinished}
use Rattle.zapdu.specs.declared.apdu.Apdu.{Apdu}
use Rattle.zapdu.specs.declared.apdu.Kind.{Kind}
use Rattle.zapdu.specs.Writes.{Writes, IsNoApdu, HasLargestFront, OneRefusal}
use Rattle.zapdu_lines.specs.Lines.{apdu_text}
use Rattle.zmeta_offline.specs.Show.{ShownText, nothing_left, apdu, fault, unfinished, no_apdu, malformed}
use Rattle.zber.specs.declared.framer.TheConstants.{MESSAGE_LIMIT}
use Rattle.zmeta_devices.specs.declared.fault.Fault.{Fault}
use Rattle.zmeta_devices.specs.declared.fault.Fault.TheVariants.{Frame, NotApdu, Malformed}
use Rattle.zmeta_offline.proofs.Showing.{rest_shorter}

-- the statements of the laws below
pub record Laws : Type 0 where
  pub answer : OneResult
  pub value : (v w : Apdu) (e : Element) → Writes v e → Writes w e → v ≡ w
  pub refusal : OneRefusal

abbrev End : Type 0
End = Result (Unit {0}) Fault

-- how octets that begin with a message are shown
data Begun (e : Element) (rest : List ℕ) : List ℕ → End → Type 0 where
  written : {text : List ℕ} {end : End} (v : Apdu) → Writes v e → ShownText rest text end → Begun e rest (apdu_text v ++ text) end
  unknown : IsNoApdu e → Begun e rest [] (Err NotApdu)
  misfit : {kind : Kind} {at : ℕ} → ((v : Apdu) → Writes v e → ⊥) → HasLargestFront kind at e → Begun e rest [] (Err (Malformed kind at))

no_message : (xs rest : List ℕ) (e : Element) → xs ≡ [] → HasFirstMessage MESSAGE_LIMIT xs e rest → ⊥
no_message xs rest e q b = absurd (omega (arith, rest_shorter MESSAGE_LIMIT xs rest e b, ap length q))

begun : (l : Laws) (xs rest text : List ℕ) (e : Element) (end : End) → HasFirstMessage MESSAGE_LIMIT xs e rest → ShownText xs text end → Begun e rest text end
begun l xs rest text e end b nothing_left = absurd (no_message xs rest e refl b)
begun l xs rest text e end b (apdu {rest = r} {text = t} {e = d} v c w s) =
    let same = l.answer.one_message MESSAGE_LIMIT xs d e r rest c b in
    written v (subst (Writes v) same.0 w) (subst (λ z. ShownText z t end) same.1 s)
begun l xs rest text e end b (fault f) = absurd (l.answer.either MESSAGE_LIMIT xs e rest _ _ b f)
begun l xs rest text e end b (unfinished m u) = absurd (u.no_message e rest b)
begun l xs rest text e end b (no_apdu {rest = r} {e = d} c n) = unknown (subst IsNoApdu (l.answer.one_message MESSAGE_LIMIT xs d e r rest c b).0 n)
begun l xs rest text e end b (malformed {rest = r} {e = d} {kind = k} {at = a} c n m) =
    let same = (l.answer.one_message MESSAGE_LIMIT xs d e r rest c b).0 in
    misfit (subst (λ z. (v : Apdu) → Writes v z → ⊥) same n) (subst (HasLargestFront k a) same m)

-- how octets that begin with no message end
data Halted (xs : List ℕ) : End → Type 0 where
  at_end : xs ≡ [] → Halted xs (Ok tt)
  at_fault : {k : FaultKind} {at : ℕ} → HasFault MESSAGE_LIMIT xs k at → Halted xs (Err (Frame k at))
  inside : 0 < length xs → IsUnfinished MESSAGE_LIMIT xs → Halted xs (Err (Frame kinds.Truncated (length xs)))

halted : (l : Laws) (xs text : List ℕ) (end : End) → ((e : Element) (rest : List ℕ) → HasFirstMessage MESSAGE_LIMIT xs e rest → ⊥) → ShownText xs text end → ([] ≡ text) × Halted xs end
halted l xs text end stops nothing_left = (refl, at_end refl)
halted l xs text end stops (apdu {rest = r} {e = e} v b w s) = absurd (stops e r b)
halted l xs text end stops (fault f) = (refl, at_fault f)
halted l xs text end stops (unfinished m u) = (refl, inside m u)
halted l xs text end stops (no_apdu {rest = r} {e = e} b n) = absurd (stops e r b)
halted l xs text end stops (malformed {rest = r} {e = e} b n m) = absurd (stops e r b)

no_fault : (xs : List ℕ) (k : FaultKind) (at : ℕ) → xs ≡ [] → HasFault MESSAGE_LIMIT xs k at → ⊥
no_fault xs k at q f = absurd (omega (arith, f.some, ap length q))

none : (xs : List ℕ) → xs ≡ [] → 0 < length xs → ⊥
none xs q m = absurd (omega (arith, ap length q))

same_frame : {j k : FaultKind} {a b : ℕ} → (j ≡ k) × (a ≡ b) → ◌≡◌ {A = End} (Err (Frame j a)) (Err (Frame k b))
same_frame {j} {k} {a} {b} q = ap (λ z. Err (Frame z a)) q.0 ∙ ap (λ z. Err (Frame k z)) q.1

-- octets that begin with no message have only one end
halted_once : (l : Laws) (xs : List ℕ) (f g : End) → Halted xs f → Halted xs g → f ≡ g
halted_once l xs f g (at_end p) (at_end q) = refl
halted_once l xs f g (at_end p) (at_fault q) = absurd (no_fault xs _ _ p q)
halted_once l xs f g (at_end p) (inside m u) = absurd (none xs p m)
halted_once l xs f g (at_fault p) (at_end q) = absurd (no_fault xs _ _ q p)
halted_once l xs f g (at_fault p) (at_fault q) = same_frame (l.answer.one_fault MESSAGE_LIMIT xs _ _ _ _ p q)
halted_once l xs f g (at_fault p) (inside m u) = absurd (u.no_fault _ _ p)
halted_once l xs f g (inside m u) (at_end q) = absurd (none xs q m)
halted_once l xs f g (inside m u) (at_fault q) = absurd (u.no_fault _ _ q)
halted_once l xs f g (inside m u) (inside n v) = refl

same_misfit : {j k : Kind} {a b : ℕ} → (j ≡ k) × (a ≡ b) → ◌≡◌ {A = End} (Err (Malformed j a)) (Err (Malformed k b))
same_misfit {j} {k} {a} {b} q = ap (λ z. Err (Malformed z a)) q.0 ∙ ap (λ z. Err (Malformed k z)) q.1

halt : (l : Laws) (xs s t : List ℕ) (f g : End) → ((e : Element) (rest : List ℕ) → HasFirstMessage MESSAGE_LIMIT xs e rest → ⊥) → ShownText xs s f → ShownText xs t g → (s ≡ t) × (f ≡ g)
halt l xs s t f g stops p q =
    let a = halted l xs s f stops p in
    let b = halted l xs t g stops q in
    (sym a.0 ∙ b.0, halted_once l xs f g a.1 b.1)

pub one_showing : (l : Laws) {xs s : List ℕ} {f : End} (t : List ℕ) (g : End) → ShownText xs s f → ShownText xs t g → (s ≡ t) × (f ≡ g)
one_showing l t g nothing_left q = halt l [] [] t (Ok tt) g (λ e rest b. no_message [] rest e refl b) nothing_left q
one_showing l {xs} t g (apdu {rest = r} {text = a} {e = e} {end = f} v b w s) q = elim (begun l xs r t e g b q) as (λ t g begun. (apdu_text v ++ a ≡ t) × (f ≡ g)) [
  | written {text = c} {end = h} u x z ↦ (
      let more = one_showing l c h s z in
      (ap (λ y. apdu_text y ++ a) (l.value v u e w x) ∙ ap (λ y. apdu_text u ++ y) more.0, more.1))
  | unknown n ↦ absurd (l.refusal.written v e w n)
  | misfit n m ↦ absurd (n v w)
]
one_showing l {xs} t g (fault {kind = k} {at = at} f) q = halt l xs [] t _ g (λ e rest b. l.answer.either MESSAGE_LIMIT xs e rest k at b f) (fault f) q
one_showing l {xs} t g (unfinished m u) q = halt l xs [] t _ g u.no_message (unfinished m u) q
one_showing l {xs} t g (no_apdu {rest = r} {e = e} b n) q = elim (begun l xs r t e g b q) as (λ t g begun. ([] ≡ t) × (Err NotApdu ≡ g)) [
  | written u x z ↦ absurd (l.refusal.written u e x n)
  | unknown o ↦ (refl, refl)
  | misfit {kind = k} {at = at} o m ↦ absurd (l.refusal.known k at e n m)
]
one_showing l {xs} t g (malformed {rest = r} {e = e} {kind = j} {at = a} b n m) q = elim (begun l xs r t e g b q) as (λ t g begun. ([] ≡ t) × (Err (Malformed j a) ≡ g)) [
  | written u x z ↦ absurd (n u x)
  | unknown o ↦ absurd (l.refusal.known j a e o m)
  | misfit {kind = k} {at = c} o x ↦ (refl, same_misfit (l.refusal.one_place j k a c e m x))
]
