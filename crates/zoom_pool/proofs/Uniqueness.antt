-- A Take has one input, and events have one transcript.
use Rattle.std.proofs.Common.{◌≡◌, ◌⊎◌, inl, inr, length-append, ℕ, ◌<◌, true, false, List, [], ◌∷◌, length, refl, sym, ap, subst, ◌∙◌, true≢false, arith}
use Rattle.zber.specs.declared.fault.FaultKind.{FaultKind}
use Rattle.zber.specs.Elements.{Element}
use Rattle.zber.specs.Spelling.{HasFirstMessage}
use Rattle.zber.specs.Shown.{HasFault}
use Rattle.zber.specs.Unfinished.{IsUnfinished}
use Rattle.zber.specs.Laws.{OneResult, AreMessages, nothing, one}
use Rattle.zber.proofs.ScanSteps.{spells_some}
use Rattle.zapdu.specs.declared.apdu.Apdu.{Apdu}
use Rattle.zapdu.specs.declared.apdu.ApduError.{ApduError}
use Rattle.zapdu.specs.declared.apdu.ApduError.TheVariants as decode
use Rattle.zapdu.specs.Writes.{Writes, OneRefusal}
use Rattle.zorigin.specs.declared.settings.Settings.{Settings}
use Rattle.zoom_pool.specs.Inputs.{Input, AlreadyStopped, Message, Foreign, Fault, Rest, Nothing, IsForeign, IsReadAs, HasMessage, AreInput, IsBehind}
use Rattle.zber.specs.declared.framer.TheConstants.{MESSAGE_LIMIT}
use Rattle.zoom_pool.specs.Transcripts.{Event, Called, Fed, Took, InputEnded, HandedOut, Stopped, Transcript, EventStep, IsTranscript, NextInput, state_at, after_take, after_call, after_feed, after_stop}
use Rattle.zoom_pool.specs.States.{is_stopped}
use Rattle.zoom_pool.specs.Laws.{OneInput}

-- the statements of the laws below
pub record Laws : Type 0 where
  pub answer : OneResult
  pub value : (v w : Apdu) (e : Element) → Writes v e → Writes w e → v ≡ w
  pub refusal : OneRefusal

gave_once : (l : Laws) {xs r : List ℕ} {ds : List Element} (s : List ℕ) (es : List Element) → AreMessages MESSAGE_LIMIT xs ds r
    → AreMessages MESSAGE_LIMIT xs es s → length ds ≡ length es → r ≡ s
gave_once l s es nothing nothing q = refl
gave_once l s es nothing (one b g) q = absurd (omega (arith, q))
gave_once l s es (one b g) nothing q = absurd (omega (arith, q))
gave_once l s es (one {xs = xs} {rest = rest} {e = d} b g) (one {rest = other} {e = e} {es = more} c h) q =
    let same = l.answer.one_message MESSAGE_LIMIT xs d e rest other b c in
    gave_once l s more g (subst (λ z. AreMessages MESSAGE_LIMIT z more s) (sym same.1) h) (let n : length _ ≡ length more =
    omega (arith, q) in n)

behind_once : (l : Laws) (stream r s : List ℕ) (k : ℕ) → IsBehind stream k r → IsBehind stream k s → r ≡ s
behind_once l stream r s k a b = gave_once l s b.messages a.gave b.gave (a.count ∙ sym b.count)

foreign_once : (l : Laws) (e : Element) (a b : ApduError) → IsForeign e a → IsForeign e b → a ≡ b
foreign_once l e decode.NotApdu decode.NotApdu x y = refl
foreign_once l e decode.NotApdu (decode.Malformed k n) x y = absurd (l.refusal.known k n e x y.1)
foreign_once l e (decode.Malformed k n) decode.NotApdu x y = absurd (l.refusal.known k n e y x.1)
foreign_once l e (decode.Malformed j n) (decode.Malformed k m) x y = let s = l.refusal.one_place j k n m e x.1 y.1 in
    λ i. decode.Malformed (s.0 i) (s.1 i)
foreign_once l e decode.Memory b x y = absurd x
foreign_once l e decode.NotApdu decode.Memory x y = absurd y
foreign_once l e (decode.Malformed k n) decode.Memory x y = absurd y

no_value : (l : Laws) (v : Apdu) (e : Element) (a : ApduError) → Writes v e → IsForeign e a → ⊥
no_value l v e decode.NotApdu w f = l.refusal.written v e w f
no_value l v e (decode.Malformed k n) w f = f.0 v w
no_value l v e decode.Memory w f = f

read_once : (l : Laws) (e : Element) (m n : Input) → IsReadAs e m → IsReadAs e n → m ≡ n
read_once l e (Message v) (Message w) x y = ap Message (l.value v w e x y)
read_once l e (Message v) (Foreign a) x y = absurd (no_value l v e a x y)
read_once l e (Foreign a) (Message v) x y = absurd (no_value l v e a y x)
read_once l e (Foreign a) (Foreign b) x y = ap Foreign (foreign_once l e a b x y)
read_once l e AlreadyStopped n x y = absurd x
read_once l e (Fault k at) n x y = absurd x
read_once l e (Rest k) n x y = absurd x
read_once l e Nothing n x y = absurd x
read_once l e (Message v) AlreadyStopped x y = absurd y
read_once l e (Message v) (Fault k at) x y = absurd y
read_once l e (Message v) (Rest k) x y = absurd y
read_once l e (Message v) Nothing x y = absurd y
read_once l e (Foreign a) AlreadyStopped x y = absurd y
read_once l e (Foreign a) (Fault k at) x y = absurd y
read_once l e (Foreign a) (Rest k) x y = absurd y
read_once l e (Foreign a) Nothing x y = absurd y

-- the octets begin with no message
data Halts (xs : List ℕ) : Input → Type 0 where
  at_fault : {k : FaultKind} {at : ℕ} → HasFault MESSAGE_LIMIT xs k at → Halts xs (Fault k at)
  inside : {n : ℕ} → 0 < length xs → n ≡ length xs → IsUnfinished MESSAGE_LIMIT xs → Halts xs (Rest n)
  at_end : xs ≡ [] → Halts xs Nothing

data Shape (xs : List ℕ) (m : Input) : Type 0 where
  begun : HasMessage xs m → Shape xs m
  halted : Halts xs m → Shape xs m

shape : (xs : List ℕ) (m : Input) → AreInput xs m → Shape xs m
shape xs AlreadyStopped a = absurd a
shape xs (Message v) a = begun a
shape xs (Foreign e) a = begun a
shape xs (Fault k at) a = halted (at_fault a)
shape xs (Rest n) a = halted (inside a.0 a.1 a.2)
shape xs Nothing a = halted (at_end a)

halts_once : (l : Laws) (xs : List ℕ) (m n : Input) → Halts xs m → Halts xs n → m ≡ n
halts_once l xs m n (at_fault {k = j} {at = a} f) (at_fault {k = k} {at = b} g) = let s =
    l.answer.one_fault MESSAGE_LIMIT xs j k a b f g in λ i. Fault (s.0 i) (s.1 i)
halts_once l xs m n (at_fault {k = k} {at = at} f) (inside some is u) = absurd (u.no_fault k at f)
halts_once l xs m n (at_fault f) (at_end q) = absurd (omega (arith, f.some, ap length q))
halts_once l xs m n (inside some is u) (at_fault {k = k} {at = at} f) = absurd (u.no_fault k at f)
halts_once l xs m n (inside some is u) (inside other be v) = ap Rest (is ∙ sym be)
halts_once l xs m n (inside some is u) (at_end q) = absurd (omega (arith, some, ap length q))
halts_once l xs m n (at_end q) (at_fault f) = absurd (omega (arith, f.some, ap length q))
halts_once l xs m n (at_end q) (inside some is u) = absurd (omega (arith, some, ap length q))
halts_once l xs m n (at_end q) (at_end r) = refl

-- if `Halts` holds, the octets begin with no message, because a message has octets
never : (l : Laws) (xs : List ℕ) (m : Input) (e : Element) (rest : List ℕ)
    → ((d : Element) (other : List ℕ) → HasFirstMessage MESSAGE_LIMIT [] d other → ⊥) → HasFirstMessage MESSAGE_LIMIT xs e rest → Halts xs m → ⊥
never l xs m e rest none b (at_fault {k = k} {at = at} f) = l.answer.either MESSAGE_LIMIT xs e rest k at b f
never l xs m e rest none b (inside some is u) = u.no_message e rest b
never l xs m e rest none b (at_end q) = none e rest (subst (λ z. HasFirstMessage MESSAGE_LIMIT z e rest) q b)

shape_once : (l : Laws) (xs : List ℕ) (m n : Input) → ((d : Element) (other : List ℕ) → HasFirstMessage MESSAGE_LIMIT [] d other → ⊥)
    → Shape xs m → Shape xs n → m ≡ n
shape_once l xs m n none (begun a) (begun b) =
    let same = l.answer.one_message MESSAGE_LIMIT xs a.element b.element a.rest b.rest a.begins b.begins in
    read_once l b.element m n (subst (λ z. IsReadAs z m) same.0 a.read) b.read
shape_once l xs m n none (begun a) (halted b) = absurd (never l xs n a.element a.rest none a.begins b)
shape_once l xs m n none (halted a) (begun b) = absurd (never l xs m b.element b.rest none b.begins a)
shape_once l xs m n none (halted a) (halted b) = halts_once l xs m n a b

-- ---- a Take

pub none_begins : (e : Element) (rest : List ℕ) → HasFirstMessage MESSAGE_LIMIT [] e rest → ⊥
none_begins e rest b = absurd (omega (arith, spells_some b.is.spelled, ap length b.cut, length-append b.message rest))

abbrev Going : Transcript → Input → Type 0
Going p m = (is_stopped (state_at p) ≡ false) × (rest : List ℕ) × IsBehind p.stream p.taken rest × AreInput rest m

next_input_so : (p : Transcript) (m : Input) → NextInput p m → ((m ≡ AlreadyStopped) × (is_stopped (state_at p) ≡ true)) ⊎ Going p m
next_input_so p AlreadyStopped s = inl (refl, s)
next_input_so p (Message v) x = inr x
next_input_so p (Foreign e) x = inr x
next_input_so p (Fault k at) x = inr x
next_input_so p (Rest n) x = inr x
next_input_so p Nothing x = inr x

pub one_input_of : (l : Laws) (p : Transcript) (m n : Input) → NextInput p m → NextInput p n → m ≡ n
one_input_of l p m n a b = by (next_input_so p m a) (next_input_so p n b)
  where
    by : ((m ≡ AlreadyStopped) × (is_stopped (state_at p) ≡ true)) ⊎ Going p m
        → ((n ≡ AlreadyStopped) × (is_stopped (state_at p) ≡ true)) ⊎ Going p n → m ≡ n
    by (inl x) (inl y) = x.0 ∙ sym y.0
    by (inl x) (inr y) = absurd (true≢false (sym x.1 ∙ y.0))
    by (inr x) (inl y) = absurd (true≢false (sym y.1 ∙ x.0))
    by (inr x) (inr y) =
        let same = behind_once l p.stream x.1 y.1 p.taken x.2 y.2 in
        shape_once l y.1 m n none_begins (shape y.1 m (subst (λ z. AreInput z m) same x.3)) (shape y.1 n y.3)

-- ---- events

once_transcript : (meeting : OneInput) (event : Event) (p q r s : Transcript) → p ≡ q → EventStep event p r → EventStep event q s → r ≡ s
once_transcript meeting (Called call) p q r s e a b = a ∙ ap (λ z. after_call z call) e ∙ sym b
once_transcript meeting (Fed piece) p q r s e a b = a ∙ ap (λ z. after_feed z piece) e ∙ sym b
once_transcript meeting Took p q r s e a b =
    let input = meeting q a.0 b.0 (subst (λ z. NextInput z a.0) e a.1) b.1 in
    a.2 ∙ ap (λ z. after_take z a.0) e ∙ ap (after_take q) input ∙ sym b.2
once_transcript meeting InputEnded p q r s e a b = a ∙ ap (λ (z : Transcript). record z { ended = true }) e ∙ sym b
once_transcript meeting (HandedOut octets) p q r s e a b = a ∙ e ∙ sym b
once_transcript meeting (Stopped reason) p q r s e a b = a ∙ ap (λ z. after_stop z reason) e ∙ sym b

pub one_transcript_of : (meeting : OneInput) (settings : Settings) (events : List Event) (p q : Transcript)
    → IsTranscript settings events p → IsTranscript settings events q → p ≡ q
one_transcript_of meeting settings [] p q a b = a ∙ sym b
one_transcript_of meeting settings (event ∷ events) p q a b = once_transcript meeting event a.0 b.0 p q
    (one_transcript_of meeting settings events a.0 b.0 a.1 b.1) a.2 b.2
