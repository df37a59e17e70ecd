-- Two askings that are after the same history: the same became of each of their connections.
use Rattle.std.proofs.Common.{◌≡◌, inl, inr, ℕ, zero, suc, ◌<◌, Bool, true, false, cond, not, ◌&&◌, List, [], ◌∷◌, ◌++◌, map, length, slice_get, get_or, Option, None, Some, refl, sym, ap, subst, ◌∙◌, append-nil, arith}
use Rattle.std.proofs.lemmas.List.{length-map}
use Rattle.std.specs.Prelude.{option_map, option_to_list}
use Rattle.std.proofs.lemmas.Option.{same_Some, slice_get-map, slice_get_within}
use Rattle.zplan.specs.Positions.{IsWanted}
use Rattle.zplan.specs.Ranges.{positions}
use Rattle.zoom_questions.specs.declared.question.Question.{Question}
use Rattle.zoom_questions.specs.declared.question.MetaSettings.{MetaSettings}
use Rattle.zoom_pool.specs.Transcripts as pool
use Rattle.zoom_pool.specs.Transcripts.{IsTranscript}
use Rattle.zoom_pool.specs.History.{events_on}
use Rattle.zoom_pool.specs.Metas.{settings_of}
use Rattle.zoom_pool.proofs.Metas.{transcript_at}
use Rattle.zoom_pool.proofs.MetaLaws.{driver_of}
use Rattle.zoom_clock.specs.declared.course.Course.{Course}
use Rattle.zoom_clock.specs.declared.signal.Signal.TheVariants as signals
use Rattle.zoom_clock.specs.declared.stage.Stage.{Stage}
use Rattle.zoom_clock.specs.declared.stage.Stage.TheVariants.{NotChosen, Resolving, Connecting, Talking, Over}
use Rattle.zoom_clock.specs.declared.talk.Talk.{Talk}
use Rattle.zoom_clock.specs.Stages.{listening, ruling}
use Rattle.zoom_clock.specs.Courses.{event, is_settled, step, tasks_of, time_of}
use Rattle.zoom_clock.proofs.Places.{some_at}
use Rattle.zoom_asking.specs.declared.asking.Asking.{Asking}
use Rattle.zoom_asking.specs.declared.inquiry.AskedHost.{AskedHost}
use Rattle.zoom_asking.specs.declared.inquiry.Manner.{Manner}
use Rattle.zoom_asking.specs.declared.inquiry.Manner.TheVariants as manners
use Rattle.zoom_asking.specs.Changes.{change_between}
use Rattle.zoom_asking.specs.Inquiries.{Inquiry, Entry, Event, Noted, own_event, passed_in}
use Rattle.zoom_asking.specs.Hosts.{AskedConnection, AskedAfter, AfterChange, IsNoted, first_host, is_lost_at, sends}
use Rattle.zoom_asking.specs.Askings.{AllAskedAfter, AreTold, Holds, IsToldIf, after_turns, time_in, with_next_turn, with_turn}
use Rattle.zoom_asking.specs.Laws.{AskedOn}
use Rattle.zoom_asking.proofs.AlikeDrives.{Laws}
use Rattle.zoom_asking.proofs.Owning.{beside, told_then}
use Rattle.zoom_asking.proofs.Rulings.{stage_next}
use Rattle.zoom_asking.proofs.SameHosts.{twins}
use Rattle.zoom_asking.proofs.Steady.{AreSound, sound_told}
use Rattle.zoom_asking.proofs.Telling.{no_sends}
use Rattle.zoom_asking.proofs.Turned.{found}
use Rattle.zoom_asking.proofs.TurnsTaken.{turned_host}
use Rattle.zoom_trace.specs.Laws.{SameLaw}

-- ---- a turn changes no events

unchanged : (stage : Stage) (s : MetaSettings) (q : Question) (events : List pool.Event)
    → AfterChange (change_between stage stage) s q events events
unchanged NotChosen s q events = refl
unchanged Resolving s q events = refl
unchanged (Connecting a) s q events = refl
unchanged (Talking t) s q events = refl
unchanged (Over ending) s q events = refl

still_talks : (t : Talk) (now : ℕ) (wanted : Bool)
    → change_between (Talking t) (listening now wanted t).stage ≡ change_between (Talking t) (Talking t)
still_talks t now true = refl
still_talks t now false = refl

rule_changes : (p : Course) (at : ℕ) (stage : Stage) → p.stage ≡ stage
    → change_between stage
    (ruling p.limits p.start (time_of (event at signals.Turn) p) p.wanted signals.Turn stage).stage
    ≡ change_between stage stage
rule_changes p at NotChosen e = refl
rule_changes p at Resolving e = refl
rule_changes p at (Connecting a) e = refl
rule_changes p at (Talking t) e = still_talks t (time_of (event at signals.Turn) p) p.wanted
rule_changes p at (Over ending) e = refl

turn_changes : (p : Course) (at : ℕ)
    → change_between p.stage (step (event at signals.Turn) p).stage ≡ change_between p.stage p.stage
turn_changes p at = elim (stage_next (event at signals.Turn) p) [
  | inl e ↦ ap (change_between p.stage) e
  | inr e ↦ ap (change_between p.stage) e ∙ rule_changes p at p.stage refl
]

turn_noted : (s : MetaSettings) (q : Question) (at : ℕ) (h : AskedConnection)
    → IsNoted s q at signals.Turn h.events h (turned_host at h)
turn_noted s q at h = record {
  course = refl;
  changed = subst (λ x. AfterChange x s q h.events h.events) (sym (turn_changes h.course at))
      (unchanged h.course.stage s q h.events);
  tasks = sym (ap (λ l. h.tasks ++ l ++ tasks_of (event at signals.Turn) h.course ++ sends false h.events h.events)
      (no_sends (is_lost_at h.course.stage) h.events)
      ∙ ap (λ l. h.tasks ++ [] ++ tasks_of (event at signals.Turn) h.course ++ l) (no_sends false h.events)
      ∙ append-nil (h.tasks ++ [] ++ tasks_of (event at signals.Turn) h.course)
      ∙ ap (λ l. l ++ tasks_of (event at signals.Turn) h.course) (append-nil h.tasks));
}

-- ---- two connections with one history

record Shared (i : Inquiry) (host : Option AskedHost) (question : Question) (x y : AskedConnection) : Type 0 where
  pub es : List Event
  pub one : AskedAfter i host question es x
  pub other : AskedAfter i host question es y

record AreShared (i : Inquiry) (xs ys : List AskedConnection) : Type 0 where
  pub size : length xs ≡ length ys
  pub each : (c : ℕ) (asks : AskedOn i c) (x y : AskedConnection) → slice_get xs c ≡ Some x → slice_get ys c ≡ Some y
      → Shared i asks.host asks.question x y

-- the calls of each connection were its driver's
abbrev AllSound : Inquiry → List AskedConnection → Type 0
AllSound i xs =
    (c : ℕ) (asks : AskedOn i c) (x : AskedConnection) → slice_get xs c ≡ Some x
    → AreSound i.settings asks.question x.events

-- each question can be asked
abbrev AllFit : Inquiry → Type 0
AllFit i = (c : ℕ) (asks : AskedOn i c) → IsWanted (positions asks.question.wanted) × (0 < i.settings.step)

-- ---- turns

abbrev courses : List AskedConnection → List Course
courses hs = map (λ (h : AskedConnection). h.course) hs

-- the first of which this is not settled
abbrev picks : Bool → (ℕ → Bool) → ℕ → Bool
picks settled later zero = not settled
picks settled later (suc c) = settled && later c

-- the turn is that of connection c
abbrev is_next : List Course → ℕ → Bool
is_next [] c = false
is_next (p ∷ ps) c = picks (is_settled p.stage) (is_next ps) c

abbrev turned_if : Bool → ℕ → AskedConnection → AskedConnection
turned_if b at h = cond b (with_turn at h) h

abbrev NextAt : ℕ → List AskedConnection → List AskedConnection → (ℕ → Bool) → Type 0
NextAt at hs turned next =
    (c : ℕ) (h : AskedConnection) → slice_get hs c ≡ Some h → slice_get turned c ≡ Some (turned_if (next c) at h)

next_first : (at : ℕ) (x : AskedConnection) (xs : List AskedConnection) (b : Bool)
    → NextAt at xs (with_next_turn at xs) (is_next (courses xs))
    → NextAt at (x ∷ xs) (cond b (x ∷ with_next_turn at xs) (with_turn at x ∷ xs)) (picks b (is_next (courses xs)))
next_first at x xs true later zero h is = is
next_first at x xs true later (suc c) h is = later c h is
next_first at x xs false later zero h is = ap (λ (y : AskedConnection). Some (with_turn at y)) (same_Some x h is)
next_first at x xs false later (suc c) h is = is

next_at : (at : ℕ) (hs : List AskedConnection) → NextAt at hs (with_next_turn at hs) (is_next (courses hs))
next_at at [] c h is = absurd (cc)
next_at at (x ∷ xs) c h is = next_first at x xs (is_settled x.course.stage) (next_at at xs) c h is

next_size : (at : ℕ) (hs : List AskedConnection) → length (with_next_turn at hs) ≡ length hs
next_size at [] = refl
next_size at (x ∷ xs) = by (is_settled x.course.stage) (next_size at xs)
  where
    by : (b : Bool) → length (with_next_turn at xs) ≡ length xs
        → length (cond b (x ∷ with_next_turn at xs) (with_turn at x ∷ xs)) ≡ suc (length xs)
    by true later = ap suc later
    by false later = refl

turns_size : (m : Manner) (at : ℕ) (hs : List AskedConnection) → length (after_turns m at hs) ≡ length hs
turns_size manners.AtOnce at hs = refl
turns_size manners.InOrder at hs = next_size at hs

turn_events : (w : Bool) (at : ℕ) (x : AskedConnection) → (cond w x (turned_host at x)).events ≡ x.events
turn_events true at x = refl
turn_events false at x = refl

if_events : (b : Bool) (at : ℕ) (x : AskedConnection) → (turned_if b at x).events ≡ x.events
if_events true at x = turn_events x.course.wanted at x
if_events false at x = refl

-- what was sound after the turns was so before
sound_before_turns : (i : Inquiry) (m : Manner) (at : ℕ) (xs : List AskedConnection) → AllSound i (after_turns m at xs)
    → AllSound i xs
sound_before_turns i manners.AtOnce at xs f c asks x get = f c asks x get
sound_before_turns i manners.InOrder at xs f c asks x get =
    subst (λ l. AreSound i.settings asks.question l) (if_events (is_next (courses xs) c) at x)
    (f c asks (turned_if (is_next (courses xs) c) at x) (next_at at xs c x get))

both_turned : (i : Inquiry) (host : Option AskedHost) (question : Question) (at : ℕ) (x y : AskedConnection)
    → Shared i host question x y → (w : Bool)
    → Shared i host question (cond w x (turned_host at x)) (cond w y (turned_host at y))
both_turned i host question at x y s true = s
both_turned i host question at x y s false = record {
  es = record { at = at; told = Noted signals.Turn } ∷ s.es;
  one = (x, s.one, turn_noted i.settings question at x);
  other = (y, s.other, turn_noted i.settings question at y);
}

both_if : (i : Inquiry) (host : Option AskedHost) (question : Question) (at : ℕ) (x y : AskedConnection)
    → x.course ≡ y.course → Shared i host question x y → (b : Bool)
    → Shared i host question (turned_if b at x) (turned_if b at y)
both_if i host question at x y e s false = s
both_if i host question at x y e s true =
    subst (λ (w : Bool). Shared i host question (with_turn at x) (cond w y (turned_host at y)))
    (ap (λ (p : Course). p.wanted) e) (both_turned i host question at x y s x.course.wanted)

same_courses : (xs ys : List AskedConnection) → length xs ≡ length ys
    → ((c : ℕ) (x y : AskedConnection) → slice_get xs c ≡ Some x → slice_get ys c ≡ Some y → x.course ≡ y.course)
    → courses xs ≡ courses ys
same_courses [] [] e f = refl
same_courses [] (y ∷ ys) e f = absurd (omega (arith, e))
same_courses (x ∷ xs) [] e f = absurd (omega (arith, e))
same_courses (x ∷ xs) (y ∷ ys) e f =
    ap (λ p. p ∷ courses xs) (f zero x y refl refl)
    ∙ ap (λ l. y.course ∷ l) (same_courses xs ys (omega (arith, e)) (λ c. f (suc c)))

-- ---- what an entry tells

told_both : (i : Inquiry) (host : Option AskedHost) (question : Question) (o : Option Event)
    (x y u v : AskedConnection) → Shared i host question x y → IsToldIf i question o x u → IsToldIf i question o y v
    → Shared i host question u v
told_both i host question o x y u v s t w = record {
  es = option_to_list o ++ s.es;
  one = told_then i host question o s.es x u s.one t;
  other = told_then i host question o s.es y v s.other w;
}

told_shared : (i : Inquiry) (passed : ℕ) (e : Entry) (xs ys us vs : List AskedConnection) → AreTold i passed e xs us
    → AreTold i passed e ys vs → AreShared i xs ys → AreShared i us vs
told_shared i passed e xs ys us vs t w s = record {
  size = t.size ∙ s.size ∙ sym w.size;
  each = λ c asks u v gu gv.
      let x = get_or xs c u in
      let y = get_or ys c v in
      let gx = beside xs us c u t.size gu in
      let gy = beside ys vs c v w.size gv in
      told_both i asks.host asks.question (own_event c passed e) x y u v (s.each c asks x y gx gy)
      (t.each c asks.question x u asks.has_question gx gu) (w.each c asks.question y v asks.has_question gy gv);
}

sound_if : (i : Inquiry) (question : Question) (o : Option Event) (x u : AskedConnection) → IsToldIf i question o x u
    → AreSound i.settings question u.events → AreSound i.settings question x.events
sound_if i question None x u same f = subst (λ (z : AskedConnection). AreSound i.settings question z.events) same f
sound_if i question (Some e) x u told f = sound_told i.settings question e.at e.told x u told f

sound_before_told : (i : Inquiry) (passed : ℕ) (e : Entry) (xs us : List AskedConnection) → AreTold i passed e xs us
    → AllSound i us → AllSound i xs
sound_before_told i passed e xs us t f c asks x gx =
    let u = get_or us c x in
    let gu = beside us xs c x (sym t.size) gx in
    sound_if i asks.question (own_event c passed e) x u (t.each c asks.question x u asks.has_question gx gu)
    (f c asks u gu)

-- ---- histories

size_all : (i : Inquiry) (history : List Entry) (xs : List AskedConnection) → AllAskedAfter i history xs
    → length xs ≡ length i.hosts
size_all i [] xs a =
    ap length a ∙ turns_size i.manner i.start (map (first_host i) i.hosts) ∙ length-map i.hosts (first_host i)
size_all i (e ∷ es) xs a =
    ap length a.4 ∙ turns_size i.manner (time_in (passed_in i.start es) e) a.1 ∙ a.3.size ∙ size_all i es a.0 a.2

module _ (l : Laws) (i : Inquiry) (fit : AllFit i) (on : (c : ℕ) → c < length i.hosts → AskedOn i c) where
  courses_same : (xs ys : List AskedConnection) → length xs ≡ length i.hosts → AreShared i xs ys → AllSound i xs
      → AllSound i ys → (c : ℕ) (x y : AskedConnection) → slice_get xs c ≡ Some x → slice_get ys c ≡ Some y
      → x.course ≡ y.course
  courses_same xs ys n s f g c x y gx gy =
      let asks = on c (subst (λ k. c < k) n (slice_get_within xs c x gx)) in
      let can = fit c asks in
      let both = s.each c asks x y gx gy in
      (twins l i.settings asks.question can.0 can.1 i i asks.host refl refl refl both.es x y both.one both.other
      (f c asks x gx) (g c asks y gy)).course

  turns_shared : (m : Manner) (at : ℕ) (xs ys : List AskedConnection) → length xs ≡ length i.hosts → AreShared i xs ys
      → AllSound i xs → AllSound i ys → AreShared i (after_turns m at xs) (after_turns m at ys)
  turns_shared manners.AtOnce at xs ys n s f g = s
  turns_shared manners.InOrder at xs ys n s f g = record {
    size = next_size at xs ∙ s.size ∙ sym (next_size at ys);
    each = λ c asks v w gv gw.
        let k = found manners.InOrder at xs c v gv in
        let j = found manners.InOrder at ys c w gw in
        let same = courses_same xs ys n s f g in
        let next : is_next (courses xs) c ≡ is_next (courses ys) c =
        ap (λ ps. is_next ps c) (same_courses xs ys s.size same) in
        let one : turned_if (is_next (courses xs) c) at k.0 ≡ v =
        same_Some _ v (sym (next_at at xs c k.0 k.1) ∙ gv) in
        let other : turned_if (is_next (courses xs) c) at j.0 ≡ w =
        ap (λ b. turned_if b at j.0) next ∙ same_Some _ w (sym (next_at at ys c j.0 j.1) ∙ gw) in
        subst (λ z. Shared i asks.host asks.question z w) one
        (subst (Shared i asks.host asks.question (turned_if (is_next (courses xs) c) at k.0)) other
        (both_if i asks.host asks.question at k.0 j.0 (same c k.0 j.0 k.1 j.1) (s.each c asks k.0 j.0 k.1 j.1)
        (is_next (courses xs) c)));
  }

  first_at : (c : ℕ) (asks : AskedOn i c) (x : AskedConnection) → slice_get (map (first_host i) i.hosts) c ≡ Some x
      → x ≡ first_host i asks.host
  first_at c asks x gx =
      same_Some x (first_host i asks.host) (sym gx ∙ slice_get-map (first_host i) i.hosts c
      ∙ ap (λ o. option_map (first_host i) o) asks.has_host)

  first_shared : AreShared i (map (first_host i) i.hosts) (map (first_host i) i.hosts)
  first_shared = record {
    size = refl;
    each = λ c asks x y gx gy. record { es = []; one = first_at c asks x gx; other = first_at c asks y gy };
  }

  shared_turned : (at : ℕ) (us vs xs ys : List AskedConnection) → xs ≡ after_turns i.manner at us
      → ys ≡ after_turns i.manner at vs → length us ≡ length i.hosts → AreShared i us vs → AllSound i us
      → AllSound i vs → AreShared i xs ys
  shared_turned at us vs xs ys e h n s f g =
      subst (λ z. AreShared i z ys) (sym e) (subst (AreShared i (after_turns i.manner at us)) (sym h)
      (turns_shared i.manner at us vs n s f g))

  shared : (history : List Entry) (xs ys : List AskedConnection) → AllAskedAfter i history xs
      → AllAskedAfter i history ys → AllSound i xs → AllSound i ys → AreShared i xs ys
  shared [] xs ys a b f g =
      let hs = map (first_host i) i.hosts in
      shared_turned i.start hs hs xs ys a b (length-map i.hosts (first_host i)) first_shared
      (sound_before_turns i i.manner i.start hs (subst (AllSound i) a f))
      (sound_before_turns i i.manner i.start hs (subst (AllSound i) b g))
  shared (e ∷ es) xs ys a b f g =
      let passed = passed_in i.start es in
      let at = time_in passed e in
      let one = sound_before_turns i i.manner at a.1 (subst (AllSound i) a.4 f) in
      let other = sound_before_turns i i.manner at b.1 (subst (AllSound i) b.4 g) in
      let before = shared es a.0 b.0 a.2 b.2 (sound_before_told i passed e a.0 a.1 a.3 one)
      (sound_before_told i passed e b.0 b.1 b.3 other) in
      shared_turned at a.1 b.1 xs ys a.4 b.4 (a.3.size ∙ size_all i es a.0 a.2)
      (told_shared i passed e a.0 b.0 a.1 b.1 a.3 b.3 before) one other

-- ---- askings

-- what an asking knows of a connection: its calls were its driver's, and how many positions one Present asks for
record IsKnown (i : Inquiry) (question : Question) (h : AskedConnection) : Type 0 where
  pub sound : AreSound i.settings question h.events
  pub wanted : IsWanted (positions question.wanted)
  pub steps : 0 < i.settings.step

known : (i : Inquiry) (hosts : List AskedConnection) (a : Asking) (c : ℕ) (question : Question) (h : AskedConnection)
    → Holds i hosts a → slice_get i.questions c ≡ Some question → slice_get hosts c ≡ Some h → IsKnown i question h
known i hosts a c question h k asked at =
    let meta = k.meta in
    let p = meta.pool.transcript c in
    let lt : c < length a.meta.pool.connections =
    subst (λ n. c < n) (sym meta.size) (slice_get_within i.questions c question asked) in
    let is : IsTranscript (settings_of i.settings) (events_on c k.pool) p =
    transcript_at (settings_of i.settings) k.pool meta.pool.transcript a.meta.pool.connections c meta.pool.stands lt in
    let d = driver_of i.questions a.meta.drivers c question meta.driven.size asked in
    let drives = meta.driven.each c question d.0 p asked d.1 is in
    record {
      sound = subst (AreSound i.settings question) (k.events c h at)
          (record { transcript = p; is = is; steady = (drives.steered, drives.driven) });
      wanted = drives.wanted;
      steps = drives.steps;
    }

all_sound : (i : Inquiry) (hosts : List AskedConnection) (a : Asking) → Holds i hosts a → AllSound i hosts
all_sound i hosts a k c asks x get = (known i hosts a c asks.question x k asks.has_question get).sound

all_fit : (i : Inquiry) (hosts : List AskedConnection) (a : Asking) → Holds i hosts a → AllFit i
all_fit i hosts a k c asks =
    let at = some_at hosts c
    (subst (λ n. c < n) (sym k.size) (slice_get_within i.questions c asks.question asks.has_question)) in
    let all = known i hosts a c asks.question at.0 k asks.has_question at.1 in
    (all.wanted, all.steps)

all_on : (i : Inquiry) → length i.hosts ≡ length i.questions → (c : ℕ) → c < length i.hosts → AskedOn i c
all_on i e c lt =
    let question = some_at i.questions c (subst (λ n. c < n) e lt) in
    let host = some_at i.hosts c lt in
    record { question = question.0; host = host.0; has_question = question.1; has_host = host.1 }

pub same_of : Laws → SameLaw
same_of l i history one other c asks x y a b gx gy =
    let fit = all_fit i a.hosts one a.holds in
    let on = all_on i (sym (size_all i history a.hosts a.after) ∙ a.holds.size) in
    let f = all_sound i a.hosts one a.holds in
    let g = all_sound i b.hosts other b.holds in
    let both = (shared l i fit on history a.hosts b.hosts a.after b.after f g).each c asks x y gx gy in
    let can = fit c asks in
    let t = twins l i.settings asks.question can.0 can.1 i i asks.host refl refl refl both.es x y both.one both.other
    (f c asks x gx) (g c asks y gy) in
    record { course = t.course; tasks = t.tasks; events = t.kept.same.alike }
