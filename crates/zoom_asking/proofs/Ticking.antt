-- All connections were told something, one after another.
use Rattle.std.proofs.Common.{◌≡◌, ◌⊎◌, inl, inr, ℕ, ◌+◌, ◌<◌, ◌≤◌, max, false, List, [], ◌∷◌, ◌++◌, length, Some, refl, sym, ap, subst, ◌∙◌, arith, append-nil}
use Rattle.std.specs.Prelude.{slice_get, slice_set}
use Rattle.std.proofs.lemmas.Option.{slice_get_within}
use Rattle.zoom_questions.specs.declared.question.Question.{Question}
use Rattle.zoom_pool.specs.Metas.{MetaAfter}
use Rattle.zoom_clock.specs.declared.signal.Signal.{Signal}
use Rattle.zoom_clock.specs.declared.signal.Signal.TheVariants as signals
use Rattle.zoom_clock.specs.declared.stage.Stage.{Stage}
use Rattle.zoom_clock.specs.declared.stage.Stage.TheVariants.{NotChosen, Resolving, Connecting, Talking, Over}
use Rattle.zoom_clock.specs.Times.{never}
use Rattle.zoom_clock.specs.Wakes.{IsDueAt}
use Rattle.zoom_clock.specs.Clocks.{IsOrderly, NoneIsDue}
use Rattle.zoom_clock.specs.Courses.{event, step, tasks_of, wake_of}
use Rattle.zoom_clock.proofs.Places.{get_set, length_set}
use Rattle.zoom_clock.proofs.Waking.{idle_before, step_idle, tasks_idle, wakes_later, tick}
use Rattle.zoom_asking.specs.declared.asking.Asking.{Asking}
use Rattle.zoom_asking.specs.declared.change.Change.TheVariants as changes
use Rattle.zoom_asking.specs.Buffers.{octets_in}
use Rattle.zoom_asking.specs.Changes.{change_between}
use Rattle.zoom_asking.specs.Inquiries.{Inquiry, Entry, Noted, event_from, own_event, passed_in}
use Rattle.zoom_asking.specs.Hosts.{AskedConnection, AfterChange, IsNoted, sends, is_lost_at}
use Rattle.zoom_asking.specs.Askings.{Holds, IsToldIf, IsEntered, IsOneTold, HasTurned, after_turns, tasks_for, time_in}
use Rattle.zoom_asking.proofs.Holding.{get_map}
use Rattle.zoom_asking.proofs.Telling.{no_sends}
use Rattle.zoom_asking.proofs.Entering.{host_at, question_at}

-- how a connection was before, and how it is now
abbrev pub Relation : Type 1
Relation = Inquiry → ℕ → Question → AskedConnection → AskedConnection → Type 0

-- the connections are related so to those before
pub record Middle (R : Relation) (i : Inquiry) (hosts : List AskedConnection) (a : Asking) : Type 0 where
  pub mid : List AskedConnection
  pub holds : Holds i mid a
  pub size : length mid ≡ length hosts
  pub each : (c : ℕ) (q : Question) (h g : AskedConnection) → slice_get i.questions c ≡ Some q
      → slice_get hosts c ≡ Some h
      → slice_get mid c ≡ Some g → R i c q h g

-- the same for all connections that can have been before, at a time
pub record IsPartly (R : Relation) (at : ℕ) (old new : Asking) : Type 0 where
  pub size : length new.meta.pool.connections ≡ length old.meta.pool.connections
  pub passed : new.clock.passed ≡ at
  pub told : (i : Inquiry) (hosts : List AskedConnection) → Holds i hosts old → Middle R i hosts new

-- ---- none was told anything yet: only time has passed

pub started : (R : Relation) (at : ℕ) (old new : Asking) → new.meta ≡ old.meta → new.unsent ≡ old.unsent
    → new.clock.courses ≡ old.clock.courses → new.clock.queue ≡ old.clock.queue
    → new.clock.in_order ≡ old.clock.in_order → (IsOrderly old.clock → IsOrderly new.clock) → new.clock.passed ≡ at
    → ((i : Inquiry) (c : ℕ) (q : Question) (h : AskedConnection) → R i c q h h) → IsPartly R at old new
started R at old new meta unsent courses queue in_order orderly passed first = record {
  size = ap (λ m. length m.pool.connections) meta;
  passed = passed;
  told = λ i hosts o. record {
    mid = hosts;
    holds = record {
      size = o.size;
      courses = ap (λ k. k.items) courses ∙ o.courses;
      pool = o.pool;
      meta = subst (λ m. MetaAfter i.questions i.settings o.pool m) (sym meta) o.meta;
      events = o.events;
      unsent = λ c h get.
          let u = o.unsent c h get in (u.0, u.1 ∙ ap (λ b. u.0 ++ octets_in (slice_get b.items c)) (sym unsent));
      done = o.done;
      queue = λ c h get. ap (λ k. tasks_for c (o.done ++ k.items)) queue ∙ o.queue c h get;
      orderly = orderly o.orderly;
      in_order = in_order ∙ o.in_order;
    };
    size = refl;
    each = λ c q h g asked was is. let same : h ≡ g = cc in subst (λ z. R i c q h z) same (first i c q h);
  };
}

-- ---- one more was told

module _ (R S : Relation) (c at : ℕ) (what : Signal) (old now new : Asking) (p : IsPartly R at old now)
    (lt : c < length now.meta.pool.connections) (one : IsOneTold c at what now new)
    (here : (i : Inquiry) (mid : List AskedConnection) (q : Question) (h x g : AskedConnection) → Holds i mid now
    → slice_get mid c ≡ Some x → R i c q h x → IsNoted i.settings q at what x.events x g → S i c q h g)
    (others : (i : Inquiry) (d : ℕ) (q : Question) (h g : AskedConnection) → (d ≡ c → ⊥) → R i d q h g → S i d q h g)
  where
    told_one : (i : Inquiry) (hosts : List AskedConnection) → Holds i hosts old → Middle S i hosts new
    told_one i hosts o =
        let m = p.told i hosts o in
        let x = host_at i m.mid now c m.holds lt in
        let q = question_at i m.mid now c m.holds lt in
        let s = one i m.mid x.0 q.0 m.holds x.1 q.1 in
        record {
          mid = slice_set m.mid c s.0;
          holds = s.2;
          size = length_set m.mid c s.0 ∙ m.size;
          each = λ d r h g asked was is. elim (get_set m.mid c d s.0 g is) [
            | inl e ↦
                let askc : slice_get i.questions c ≡ Some r = subst (λ n. slice_get i.questions n ≡ Some r) e.0 asked in
                let atc : slice_get hosts c ≡ Some h = subst (λ n. slice_get hosts n ≡ Some h) e.0 was in
                let same : q.0 ≡ r = cc in
                subst (λ n. S i n r h g) (sym e.0) (subst (λ z. S i c r h z) e.1
                (here i m.mid r h x.0 s.0 m.holds x.1 (m.each c r h x.0 askc atc x.1)
                (subst (λ z. IsNoted i.settings z at what x.0.events x.0 s.0) same s.1)))
            | inr n ↦ others i d r h g n.0 (m.each d r h g asked was n.1)
          ];
        }

    pub stepped : new.clock.passed ≡ now.clock.passed
        → length new.meta.pool.connections ≡ length now.meta.pool.connections → IsPartly S at old new
    stepped passed size = record { size = size ∙ p.size; passed = passed ∙ p.passed; told = told_one }

-- ---- all were told, and the turns were given

module _ (x : Entry) (R : Relation) (now at : ℕ) (what : Signal) (old mid new : Asking)
    (owns : (c p : ℕ) → own_event c p x ≡ Some (event_from p now (Noted what)))
    (times : (p : ℕ) → time_in p x ≡ max p now)
    (passes : (start : ℕ) (xs : List Entry) → passed_in start (x ∷ xs) ≡ max (passed_in start xs) now)
    (is : at ≡ max old.clock.passed now) (p : IsPartly R at old mid)
    (all : (i : Inquiry) (hosts : List AskedConnection) (c : ℕ) (q : Question) (h g : AskedConnection)
    → Holds i hosts mid
    → slice_get i.questions c ≡ Some q → slice_get hosts c ≡ Some g → R i c q h g
    → IsNoted i.settings q at what h.events h g)
  where
    pub all_entered : HasTurned at mid new → new.clock.passed ≡ mid.clock.passed → IsEntered x old new
    all_entered turned passed i history a =
        let m = p.told i a.hosts a.holds in
        let before = passed_in i.start history in
        let time : at ≡ max before now = is ∙ ap (λ n. max n now) a.passed in
        record {
          hosts = after_turns i.manner at m.mid;
          after = (
            a.hosts,
            m.mid,
            a.after,
            record {
              size = m.size;
              each = λ c q h g asked was is.
                  subst (λ o. IsToldIf i q o h g) (sym (owns c before))
                  (subst (λ t. IsNoted i.settings q t what h.events h g) time
                  (all i m.mid c q h g m.holds asked is (m.each c q h g asked was is)));
            },
            ap (λ t. after_turns i.manner t m.mid) (time ∙ sym (times before)),
          );
          holds = turned i m.mid m.holds;
          passed = passed ∙ p.passed ∙ time ∙ sym (passes i.start history);
        }

-- ---- a tick

-- the connection is as before, or was told of a tick, and its next time has not come
abbrev pub Ticked : ℕ → Relation
Ticked at i c q h g =
    (g ≡ h) ⊎ (IsNoted i.settings q at signals.Tick h.events h g × (at < wake_of g.course))

-- the course of a connection is the clock's
course_at : (i : Inquiry) (hosts : List AskedConnection) (a : Asking) (c : ℕ) (h : AskedConnection) → Holds i hosts a
    → slice_get hosts c ≡ Some h → slice_get a.clock.courses.items c ≡ Some h.course
course_at i hosts a c h o get =
    ap (λ l. slice_get l c) o.courses ∙ get_map (λ (x : AskedConnection). x.course) hosts c h get

-- the next time of one that is due has come
due_wakes : (i : Inquiry) (hosts : List AskedConnection) (a : Asking) (c : ℕ) (h : AskedConnection) → Holds i hosts a
    → slice_get hosts c ≡ Some h → IsDueAt a.clock.wakes a.clock.passed c → wake_of h.course ≤ a.clock.passed
due_wakes i hosts a c h o get due =
    let time = o.orderly.wakes c h.course (Some due.0) (course_at i hosts a c h o get) due.1 in
    let e : due.0 ≡ wake_of h.course = time.0 in
    let le : due.0 ≤ a.clock.passed = due.2 in
    omega arith

-- the one that is due is told
pub ticked : (c at : ℕ) (old now new : Asking) → at < never → IsPartly (Ticked at) at old now
    → c < length now.meta.pool.connections → IsDueAt now.clock.wakes now.clock.passed c
    → IsOneTold c at signals.Tick now new → new.clock.passed ≡ now.clock.passed
    → length new.meta.pool.connections ≡ length now.meta.pool.connections → IsPartly (Ticked at) at old new
ticked c at old now new top p lt due one passed size =
    stepped (Ticked at) (Ticked at) c at signals.Tick old now new p lt one here (λ i d q h g n r. r) passed size
  where
    later : (x g : AskedConnection) → g.course ≡ step (event at signals.Tick) x.course → at < wake_of g.course
    later x g e = subst (λ z. at < wake_of z) (sym e) (wakes_later x.course at top)

    here : (i : Inquiry) (mid : List AskedConnection) (q : Question) (h x g : AskedConnection) → Holds i mid now
        → slice_get mid c ≡ Some x → Ticked at i c q h x → IsNoted i.settings q at signals.Tick x.events x g
        → Ticked at i c q h g
    here i mid q h x g o get (inl same) noted =
        inr (
          subst (λ (z : AskedConnection). IsNoted i.settings q at signals.Tick z.events z g) same noted,
          later x g noted.course,
        )
    here i mid q h x g o get (inr told) noted =
        let le = due_wakes i mid now c x o get due in
        let is = p.passed in
        let ahead = told.1 in
        absurd (omega arith)

no_change : (s : Stage) → change_between s s ≡ changes.Same
no_change NotChosen = refl
no_change Resolving = refl
no_change (Connecting a) = refl
no_change (Talking t) = refl
no_change (Over ending) = refl

-- a tick before the next time changes nothing
quiet : (i : Inquiry) (at : ℕ) (q : Question) (h : AskedConnection) → at < wake_of h.course
    → IsNoted i.settings q at signals.Tick h.events h h
quiet i at q h lt =
    let idle = idle_before h.course at lt in
    record {
      course = sym (step_idle (tick at) h.course idle);
      changed = subst (λ x. AfterChange x i.settings q h.events h.events) (sym (no_change h.course.stage)) refl;
      tasks = sym (
          ap (λ l. ((h.tasks ++ l) ++ tasks_of (tick at) h.course) ++ sends false h.events h.events)
          (no_sends (is_lost_at h.course.stage) h.events)
          ∙ ap (λ l. ((h.tasks ++ []) ++ l) ++ sends false h.events h.events) (tasks_idle (tick at) h.course idle)
          ∙ ap (λ l. ((h.tasks ++ []) ++ []) ++ l) (no_sends false h.events)
          ∙ append-nil ((h.tasks ++ []) ++ []) ∙ append-nil (h.tasks ++ []) ∙ append-nil h.tasks);
    }

-- once none is due, all are as if they were told
pub all_ticked : (at : ℕ) (a : Asking) → a.clock.passed ≡ at
    → (IsOrderly a.clock → NoneIsDue a.clock.passed a.clock.courses.items)
    → (i : Inquiry) (hosts : List AskedConnection) (c : ℕ) (q : Question) (h g : AskedConnection) → Holds i hosts a
    → slice_get i.questions c ≡ Some q → slice_get hosts c ≡ Some g → Ticked at i c q h g
    → IsNoted i.settings q at signals.Tick h.events h g
all_ticked at a passed none i hosts c q h g o asked get (inl same) =
    let lt : at < wake_of g.course =
    subst (λ t. t < wake_of g.course) passed (none o.orderly c g.course (course_at i hosts a c g o get)) in
    subst (λ (z : AskedConnection). IsNoted i.settings q at signals.Tick z.events z g) same (quiet i at q g lt)
all_ticked at a passed none i hosts c q h g o asked get (inr told) = told.0

-- ---- all are given up

-- the connections before n were given up, and the others are as before
abbrev pub GaveUp : ℕ → ℕ → Relation
GaveUp n at i c q h g =
    ((c < n) × IsNoted i.settings q at signals.GiveUp h.events h g) ⊎ ((n ≤ c) × (g ≡ h))

pub gave_up : (c at : ℕ) (old now new : Asking) → IsPartly (GaveUp c at) at old now
    → c < length now.meta.pool.connections → IsOneTold c at signals.GiveUp now new
    → new.clock.passed ≡ now.clock.passed
    → length new.meta.pool.connections ≡ length now.meta.pool.connections → IsPartly (GaveUp (c + 1) at) at old new
gave_up c at old now new p lt one passed size =
    stepped (GaveUp c at) (GaveUp (c + 1) at) c at signals.GiveUp old now new p lt one here others passed size
  where
    here : (i : Inquiry) (mid : List AskedConnection) (q : Question) (h x g : AskedConnection) → Holds i mid now
        → slice_get mid c ≡ Some x → GaveUp c at i c q h x → IsNoted i.settings q at signals.GiveUp x.events x g
        → GaveUp (c + 1) at i c q h g
    here i mid q h x g o get (inl told) noted = let less = told.0 in absurd (omega arith)
    here i mid q h x g o get (inr same) noted =
        inl (
          omega arith,
          subst (λ (z : AskedConnection). IsNoted i.settings q at signals.GiveUp z.events z g) same.1 noted,
        )

    others : (i : Inquiry) (d : ℕ) (q : Question) (h g : AskedConnection) → (d ≡ c → ⊥) → GaveUp c at i d q h g
        → GaveUp (c + 1) at i d q h g
    others i d q h g n (inl told) = let less = told.0 in inl (omega arith, told.1)
    others i d q h g n (inr same) = let le = same.0 in inr (above d n le, same.1)
      where
        above : (d : ℕ) → (d ≡ c → ⊥) → c ≤ d → c + 1 ≤ d
        above d n le = grind arith

-- at the end all were given up
pub all_gave_up : (n at : ℕ) (a : Asking) → length a.meta.pool.connections ≤ n
    → (i : Inquiry) (hosts : List AskedConnection) (c : ℕ) (q : Question) (h g : AskedConnection) → Holds i hosts a
    → slice_get i.questions c ≡ Some q → slice_get hosts c ≡ Some g → GaveUp n at i c q h g
    → IsNoted i.settings q at signals.GiveUp h.events h g
all_gave_up n at a most i hosts c q h g o asked get (inl told) = told.1
all_gave_up n at a most i hosts c q h g o asked get (inr same) =
    let lt = slice_get_within i.questions c q asked in
    let m = o.meta.size in
    let le = same.0 in
    absurd (omega arith)
