-- The turns were given.
use Rattle.std.proofs.Common.{◌≡◌, ℕ, zero, suc, ◌+◌, ◌<◌, Bool, true, false, cond, not, List, [], ◌∷◌, ◌++◌, map, length, Some, refl, sym, ap, subst, ◌∙◌, arith, append-nil, append_assoc, add-zero}
use Rattle.std.specs.Prelude.{slice_get}
use Rattle.zoom_clock.specs.declared.action.Action.{Action}
use Rattle.zoom_clock.specs.declared.course.Course.{Course}
use Rattle.zoom_clock.specs.declared.signal.Signal.TheVariants as signals
use Rattle.zoom_clock.specs.Actions.{all_for}
use Rattle.zoom_clock.specs.Clocks as clocks
use Rattle.zoom_clock.specs.Clocks.{AfterTurns, turn_tasks, next_turn_tasks}
use Rattle.zoom_clock.specs.Courses.{event, is_settled, step, tasks_of}
use Rattle.zoom_pool.specs.Transcripts.{given}
use Rattle.zoom_asking.specs.declared.asking.Asking.{Asking}
use Rattle.zoom_asking.specs.declared.inquiry.Manner.{Manner}
use Rattle.zoom_asking.specs.declared.inquiry.Manner.TheVariants as manners
use Rattle.zoom_asking.specs.Buffers.{octets_in}
use Rattle.zoom_asking.specs.Inquiries.{Inquiry, is_at_once}
use Rattle.zoom_asking.specs.Hosts.{AskedConnection}
use Rattle.zoom_asking.specs.Askings.{Holds, with_turn, with_next_turn, after_turns, tasks_for, unsent_at}
use Rattle.zoom_asking.proofs.Queues.{tasks_append, tasks_same, tasks_other}
use Rattle.zoom_pool.specs.Metas.{MetaAfter}

-- a connection whose turn has come
abbrev pub turned_host : ℕ → AskedConnection → AskedConnection
turned_host at h = record {
  course = step (event at signals.Turn) h.course;
  events = h.events;
  tasks = h.tasks ++ tasks_of (event at signals.Turn) h.course;
}

abbrev courses_of : List AskedConnection → List Course
courses_of hosts = map (λ (h : AskedConnection). h.course) hosts

-- tasks for connections from number j on are none of an earlier one's
none_for : (at d j : ℕ) (ps : List Course) → d < j → tasks_for d (next_turn_tasks at j ps) ≡ []
none_for at d j [] lt = refl
none_for at d j (p ∷ ps) lt = by (is_settled p.stage) (none_for at d (j + 1) ps (omega arith)) (turn p.wanted)
  where
    by : (b : Bool) → tasks_for d (next_turn_tasks at (j + 1) ps) ≡ [] → tasks_for d (turn_tasks at j p) ≡ []
        → tasks_for d (cond b (next_turn_tasks at (j + 1) ps) (turn_tasks at j p)) ≡ []
    by true later here = later
    by false later here = here

    turn : (b : Bool) → tasks_for d (cond b [] (all_for j (tasks_of (event at signals.Turn) p))) ≡ []
    turn true = refl
    turn false = tasks_other d j (tasks_of (event at signals.Turn) p) (λ e. omega arith)

-- what the turn changes of one connection
pub record TurnedHost (at d : ℕ) (tasks : List Action) (hosts : List AskedConnection) (c : ℕ)
    (y : AskedConnection) : Type 0 where
  pub host : AskedConnection
  pub stands : slice_get hosts c ≡ Some host
  pub events : y.events ≡ host.events
  pub tasks_are : y.tasks ≡ host.tasks ++ tasks_for d tasks

abbrev TurnAt : ℕ → ℕ → List AskedConnection → Type 0
TurnAt at i hosts =
    (c : ℕ) (y : AskedConnection) → slice_get (with_next_turn at hosts) c ≡ Some y
    → TurnedHost at (i + c) (next_turn_tasks at i (courses_of hosts)) hosts c y

first_over : (at i : ℕ) (h : AskedConnection) (hs : List AskedConnection) → TurnAt at (i + 1) hs
    → (c : ℕ) (y : AskedConnection)
    → slice_get (h ∷ with_next_turn at hs) c ≡ Some y
    → TurnedHost at (i + c) (next_turn_tasks at (i + 1) (courses_of hs)) (h ∷ hs) c y
first_over at i h hs later zero y get =
    let e : h ≡ y = cc in
    record {
      host = h;
      stands = refl;
      events = ap (λ (x : AskedConnection). x.events) (sym e);
      tasks_are = ap (λ (x : AskedConnection). x.tasks) (sym e) ∙ sym (append-nil h.tasks)
          ∙ ap (λ l. h.tasks ++ l) (sym (none_for at (i + 0) (i + 1) (courses_of hs) (omega arith)));
    }
first_over at i h hs later (suc c) y get =
    let t = later c y get in
    let e : (i + 1) + c ≡ i + suc c = omega arith in
    record {
      host = t.host;
      stands = t.stands;
      events = t.events;
      tasks_are = t.tasks_are ∙ ap (λ d. t.host.tasks ++ tasks_for d (next_turn_tasks at (i + 1) (courses_of hs))) e;
    }

first_turned : (at i : ℕ) (h : AskedConnection) (hs : List AskedConnection) (c : ℕ) (y : AskedConnection)
    → slice_get (with_turn at h ∷ hs) c ≡ Some y → TurnedHost at (i + c) (turn_tasks at i h.course) (h ∷ hs) c y
first_turned at i h hs zero y get = by h.course.wanted refl
  where
    is : with_turn at h ≡ y
    is = cc

    by : (b : Bool) → h.course.wanted ≡ b → TurnedHost at (i + 0) (turn_tasks at i h.course) (h ∷ hs) 0 y
    by true e =
        let same : with_turn at h ≡ h = ap (λ b. cond b h (turned_host at h)) e in
        record {
          host = h;
          stands = refl;
          events = ap (λ (x : AskedConnection). x.events) (sym is ∙ same);
          tasks_are = ap (λ (x : AskedConnection). x.tasks) (sym is ∙ same) ∙ sym (append-nil h.tasks)
              ∙ ap (λ b. h.tasks
              ++ tasks_for (i + 0) (cond b [] (all_for i (tasks_of (event at signals.Turn) h.course)))) (sym e);
        }
    by false e =
        let same : with_turn at h ≡ turned_host at h = ap (λ b. cond b h (turned_host at h)) e in
        record {
          host = h;
          stands = refl;
          events = ap (λ (x : AskedConnection). x.events) (sym is ∙ same);
          tasks_are = ap (λ (x : AskedConnection). x.tasks) (sym is ∙ same)
              ∙ ap (λ l. h.tasks ++ l) (sym (tasks_same i (tasks_of (event at signals.Turn) h.course)))
              ∙ ap (λ d. h.tasks ++ tasks_for d (all_for i (tasks_of (event at signals.Turn) h.course)))
              (sym (add-zero i))
              ∙ ap (λ b. h.tasks
              ++ tasks_for (i + 0) (cond b [] (all_for i (tasks_of (event at signals.Turn) h.course)))) (sym e);
        }
first_turned at i h hs (suc c) y get = record {
  host = y;
  stands = get;
  events = refl;
  tasks_are = sym (append-nil y.tasks) ∙ ap (λ l. y.tasks ++ l) (sym (by h.course.wanted));
}
  where
    by : (b : Bool) → tasks_for (i + suc c) (cond b [] (all_for i (tasks_of (event at signals.Turn) h.course))) ≡ []
    by true = refl
    by false = tasks_other (i + suc c) i (tasks_of (event at signals.Turn) h.course) (λ e. omega arith)

turn_at : (at i : ℕ) (hosts : List AskedConnection) → TurnAt at i hosts
turn_at at i [] c y get = absurd (cc)
turn_at at i (h ∷ hs) c y get =
    by (is_settled h.course.stage) (first_over at i h hs (turn_at at (i + 1) hs)) (first_turned at i h hs) c y get
  where
    by : (b : Bool)
        → ((c : ℕ) (y : AskedConnection) → slice_get (h ∷ with_next_turn at hs) c ≡ Some y
        → TurnedHost at (i + c) (next_turn_tasks at (i + 1) (courses_of hs)) (h ∷ hs) c y)
        → ((c : ℕ) (y : AskedConnection) → slice_get (with_turn at h ∷ hs) c ≡ Some y
        → TurnedHost at (i + c) (turn_tasks at i h.course) (h ∷ hs) c y)
        → (c : ℕ) (y : AskedConnection) → slice_get (cond b (h ∷ with_next_turn at hs) (with_turn at h ∷ hs)) c ≡ Some y
        → TurnedHost at (i + c) (cond b (next_turn_tasks at (i + 1) (courses_of hs)) (turn_tasks at i h.course))
        (h ∷ hs) c y
    by true over turned = over
    by false over turned = turned

-- the courses are those of the clock
turned_course : (at : ℕ) (h : AskedConnection) → (with_turn at h).course ≡ clocks.with_turn at h.course
turned_course at h = by h.course.wanted
  where
    by : (b : Bool)
        → (cond b h (turned_host at h)).course
        ≡ cond b h.course (step (event at signals.Turn) h.course)
    by true = refl
    by false = refl

turned_courses : (at : ℕ) (hosts : List AskedConnection)
    → courses_of (with_next_turn at hosts) ≡ clocks.with_next_turn at (courses_of hosts)
turned_courses at [] = refl
turned_courses at (h ∷ hs) = by (is_settled h.course.stage) (turned_courses at hs) (turned_course at h)
  where
    by : (b : Bool) → courses_of (with_next_turn at hs) ≡ clocks.with_next_turn at (courses_of hs)
        → (with_turn at h).course ≡ clocks.with_turn at h.course
        → courses_of (cond b (h ∷ with_next_turn at hs) (with_turn at h ∷ hs))
        ≡ cond b (h.course ∷ clocks.with_next_turn at (courses_of hs)) (clocks.with_turn at h.course ∷ courses_of hs)
    by true later here = ap (λ l. h.course ∷ l) later
    by false later here = ap (λ x. x ∷ courses_of hs) here

turned_size : (at : ℕ) (hosts : List AskedConnection) → length (with_next_turn at hosts) ≡ length hosts
turned_size at [] = refl
turned_size at (h ∷ hs) = by (is_settled h.course.stage) (turned_size at hs)
  where
    by : (b : Bool) → length (with_next_turn at hs) ≡ length hs
        → length (cond b (h ∷ with_next_turn at hs) (with_turn at h ∷ hs)) ≡ suc (length hs)
    by true later = ap suc later
    by false later = refl

module _ (at : ℕ) (old new : Asking) (t : AfterTurns at old.clock new.clock) (meta : new.meta ≡ old.meta)
    (unsent : new.unsent ≡ old.unsent) (i : Inquiry) (hosts : List AskedConnection) (o : Holds i hosts old)
  where
    still_unsent : (c : ℕ) (h : AskedConnection) → slice_get hosts c ≡ Some h → (out : List ℕ)
        × (given h.events ≡ out ++ unsent_at new c)
    still_unsent c h get =
        let u = o.unsent c h get in (u.0, u.1 ∙ ap (λ b. u.0 ++ octets_in (slice_get b.items c)) (sym unsent))

    at_once : old.clock.in_order ≡ false → Holds i hosts new
    at_once off = record {
      size = o.size;
      courses = t.courses o.orderly ∙ ap (λ b. clocks.courses_after_turns b at old.clock.courses.items) off ∙ o.courses;
      pool = o.pool;
      meta = subst (λ m. MetaAfter i.questions i.settings o.pool m) (sym meta) o.meta;
      events = o.events;
      unsent = λ c h get. still_unsent c h get;
      done = o.done;
      queue = λ c h get.
          ap (λ l. tasks_for c (o.done ++ l)) (t.tasks o.orderly
          ∙ ap (λ b. old.clock.queue.items ++ clocks.turns_tasks b at old.clock.courses.items) off
          ∙ append-nil old.clock.queue.items) ∙ o.queue c h get;
      orderly = t.orderly o.orderly;
      in_order = t.in_order ∙ o.in_order;
    }

    in_order : old.clock.in_order ≡ true → Holds i (with_next_turn at hosts) new
    in_order on = record {
      size = turned_size at hosts ∙ o.size;
      courses = t.courses o.orderly ∙ ap (λ b. clocks.courses_after_turns b at old.clock.courses.items) on
          ∙ ap (clocks.with_next_turn at) o.courses ∙ sym (turned_courses at hosts);
      pool = o.pool;
      meta = subst (λ m. MetaAfter i.questions i.settings o.pool m) (sym meta) o.meta;
      events = λ c y get. let k = turn_at at 0 hosts c y get in o.events c k.host k.stands ∙ sym k.events;
      unsent = λ c y get.
          let k = turn_at at 0 hosts c y get in
          let u = still_unsent c k.host k.stands in (u.0, ap given k.events ∙ u.1);
      done = o.done;
      queue = λ c y get.
          let k = turn_at at 0 hosts c y get in
          let zero_add : 0 + c ≡ c = omega arith in
          ap (λ l. tasks_for c (o.done ++ l)) (t.tasks o.orderly
          ∙ ap (λ b. old.clock.queue.items ++ clocks.turns_tasks b at old.clock.courses.items) on
          ∙ ap (λ ps. old.clock.queue.items ++ next_turn_tasks at 0 ps) o.courses)
          ∙ ap (tasks_for c) (sym (append_assoc o.done old.clock.queue.items (next_turn_tasks at 0 (courses_of hosts))))
          ∙ tasks_append c (o.done ++ old.clock.queue.items) (next_turn_tasks at 0 (courses_of hosts))
          ∙ ap (λ l. l ++ tasks_for c (next_turn_tasks at 0 (courses_of hosts))) (o.queue c k.host k.stands)
          ∙ ap (λ d. k.host.tasks ++ tasks_for d (next_turn_tasks at 0 (courses_of hosts))) (sym zero_add)
          ∙ sym k.tasks_are;
      orderly = t.orderly o.orderly;
      in_order = t.in_order ∙ o.in_order;
    }

    by_manner : (m : Manner) → old.clock.in_order ≡ not (is_at_once m) → Holds i (after_turns m at hosts) new
    by_manner manners.AtOnce e = at_once e
    by_manner manners.InOrder e = in_order e

    pub turned : Holds i (after_turns i.manner at hosts) new
    turned = by_manner i.manner o.in_order
