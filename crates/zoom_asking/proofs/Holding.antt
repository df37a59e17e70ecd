-- What the asking holds, after one connection changed.
use Rattle.std.proofs.Common.{◌≡◌, ◌⊎◌, inl, inr, ℕ, Bool, cond, not, List, [], ◌∷◌, ◌++◌, map, length, Some, sym, ap, subst, ◌∙◌, arith, append_assoc, append-nil, length-append}
use Rattle.std.proofs.lemmas.Bool.Decides.{nat_tests}
use Rattle.std.proofs.lemmas.Option.{slice_get-map}
use Rattle.std.specs.Prelude.{slice_get, slice_set, nat_lt, ◌&&◌, option_map}
use Rattle.zoom_questions.specs.declared.question.Question.{Question}
use Rattle.zoom_pool.specs.Transcripts as pool
use Rattle.zoom_pool.specs.Transcripts.{given}
use Rattle.zoom_pool.specs.History.{events_on}
use Rattle.zoom_pool.specs.Metas.{MetaAfter}
use Rattle.zoom_clock.specs.declared.action.Action.{Action}
use Rattle.zoom_clock.specs.declared.action.Task.{Task}
use Rattle.zoom_clock.specs.declared.action.Task.TheVariants.{Send}
use Rattle.zoom_clock.specs.declared.course.Course.{Course}
use Rattle.zoom_clock.specs.Actions.{all_for}
use Rattle.zoom_clock.specs.Clocks.{AfterNote}
use Rattle.zoom_clock.specs.Courses as clock
use Rattle.zoom_clock.specs.Courses.{step, tasks_of}
use Rattle.zoom_clock.proofs.Places.{get_set, length_set, map_set, set_same}
use Rattle.zoom_asking.specs.declared.asking.Asking.{Asking}
use Rattle.zoom_asking.specs.Buffers.{octets_in}
use Rattle.zoom_asking.specs.Inquiries.{Inquiry}
use Rattle.zoom_asking.specs.Talks.{Relation}
use Rattle.zoom_asking.specs.Steps.{Extended}
use Rattle.zoom_asking.specs.Hosts.{new_sends, AskedConnection, sends}
use Rattle.zoom_asking.specs.Askings.{Holds, IsTalkedOn, tasks_for, unsent_at}
use Rattle.zoom_asking.proofs.Queues.{not_same, tasks_append, tasks_same, tasks_other}

abbrev course_in : AskedConnection → Course
course_in h = h.course

-- what a function gives of an element
pub get_map : {A B : Type 0} (f : A → B) (xs : List A) (c : ℕ) (v : A) → slice_get xs c ≡ Some v
    → slice_get (map f xs) c ≡ Some (f v)
get_map f xs c v get = slice_get-map f xs c ∙ ap (option_map f) get

-- ---- what waits to be sent

longer : (xs out : List ℕ) → nat_lt (length xs) (length (xs ++ out)) ≡ nat_lt 0 (length out)
longer xs [] = let e = length-append xs [] in grind (arith, nat_tests)
longer xs (x ∷ out) = let e = length-append xs (x ∷ out) in grind (arith, nat_tests)

same_sends : (lost : Bool) (waited waits : List ℕ) (old new : List pool.Event) (out : List ℕ) → waits ≡ waited ++ out
    → given new ≡ given old ++ out → new_sends lost waited waits ≡ sends lost old new
same_sends lost waited waits old new out kept gave =
    let one : nat_lt (length waited) (length waits) ≡ nat_lt 0 (length out) =
    ap (λ l. nat_lt (length waited) (length l)) kept ∙ longer waited out in
    let two : nat_lt (length (given old)) (length (given new)) ≡ nat_lt 0 (length out) =
    ap (λ l. nat_lt (length (given old)) (length l)) gave ∙ longer (given old) out in
    ap (λ b. cond (not lost && b) (Send ∷ []) []) (one ∙ sym two)

-- ---- the queue

-- the tasks of each connection, after some were added for one
added : (c d : ℕ) (done before after : List Action) (ts : List Task) → after ≡ before ++ all_for c ts
    → tasks_for d (done ++ after) ≡ tasks_for d (done ++ before) ++ tasks_for d (all_for c ts)
added c d done before after ts put =
    ap (λ l. tasks_for d (done ++ l)) put ∙ ap (tasks_for d) (sym (append_assoc done before (all_for c ts)))
    ∙ tasks_append d (done ++ before) (all_for c ts)

queue_same : (c : ℕ) (done before after : List Action) (ts own : List Task) → after ≡ before ++ all_for c ts
    → tasks_for c (done ++ before) ≡ own → tasks_for c (done ++ after) ≡ own ++ ts
queue_same c done before after ts own put was =
    added c c done before after ts put ∙ ap (λ l. l ++ tasks_for c (all_for c ts)) was
    ∙ ap (λ l. own ++ l) (tasks_same c ts)

queue_other : (c d : ℕ) (done before after : List Action) (ts own : List Task) → (c ≡ d → ⊥)
    → after ≡ before ++ all_for c ts → tasks_for d (done ++ before) ≡ own → tasks_for d (done ++ after) ≡ own
queue_other c d done before after ts own n put was =
    added c d done before after ts put ∙ ap (λ l. l ++ tasks_for d (all_for c ts)) was
    ∙ ap (λ l. own ++ l) (tasks_other d c ts n) ∙ append-nil own

-- ---- a connection was talked with

-- the same connection, after it was talked with
abbrev pub talked_host : Bool → AskedConnection → List pool.Event → AskedConnection
talked_host lost h events = record { course = h.course; events = events; tasks = h.tasks ++ sends lost h.events events }

module _
    (i : Inquiry) (hosts : List AskedConnection) (old new : Asking) (c : ℕ)
    (R : Relation) (lost : Bool) (h : AskedConnection)
    (question : Question) (o : Holds i hosts old) (at : slice_get hosts c ≡ Some h)
    (asked : slice_get i.questions c ≡ Some question) (t : IsTalkedOn c R lost old new)
  where
    x : Extended c i.questions i.settings o.pool (R i.settings question) new.meta (unsent_at old c) (unsent_at new c)
    x = t.meta i.questions i.settings o.pool question o.meta asked

    pub events : List pool.Event
    unfolding x
    events = events_on c x.more

    abbrev g : AskedConnection
    g = talked_host lost h events

    mine : events_on c o.pool ≡ h.events
    mine = o.events c h at

    pub related : R i.settings question h.events events
    unfolding x events
    related = subst (λ l. R i.settings question l (events_on c x.more)) mine x.mine

    gave : given events ≡ given h.events ++ x.out
    unfolding x events
    gave = x.gave ∙ ap (λ l. given l ++ x.out) mine

    pub talked : Holds i (slice_set hosts c g) new
    unfolding x events
    talked = record {
      size = length_set hosts c g ∙ o.size;
      courses = ap (λ k. k.items) t.clock.courses ∙ o.courses ∙ sym (map_set course_in hosts c g
          ∙ set_same (map course_in hosts) c h.course (get_map course_in hosts c h at));
      pool = x.more;
      meta = x.meta;
      events = λ d k atk. by_events d k (get_set hosts c d g k atk);
      unsent = λ d k atk. by_unsent d k (get_set hosts c d g k atk);
      done = o.done;
      queue = λ d k atk. by_queue d k (get_set hosts c d g k atk);
      orderly = t.clock.orderly o.orderly;
      in_order = t.clock.in_order ∙ o.in_order;
    }
      where
        by_events : (d : ℕ) (k : AskedConnection) → ((d ≡ c) × (g ≡ k)) ⊎ ((d ≡ c → ⊥) × (slice_get hosts d ≡ Some k))
            → events_on d x.more ≡ k.events
        by_events d k (inl s) = ap (λ n. events_on n x.more) s.0 ∙ ap (λ (y : AskedConnection). y.events) s.1
        by_events d k (inr n) = x.others d (not_same c d (λ e. n.0 (sym e))) ∙ o.events d k n.1

        by_unsent : (d : ℕ) (k : AskedConnection) → ((d ≡ c) × (g ≡ k)) ⊎ ((d ≡ c → ⊥) × (slice_get hosts d ≡ Some k))
            → (out : List ℕ) × (given k.events ≡ out ++ unsent_at new d)
        by_unsent d k (inl s) =
            let u = o.unsent c h at in (
              u.0,
              ap (λ (y : AskedConnection). given y.events) (sym s.1) ∙ gave ∙ ap (λ l. l ++ x.out) u.1
                  ∙ append_assoc u.0 (unsent_at old c) x.out ∙ ap (λ l. u.0 ++ l) (sym x.kept)
                  ∙ ap (λ n. u.0 ++ unsent_at new n) (sym s.0),
            )
        by_unsent d k (inr n) =
            let u = o.unsent d k n.1 in
            (u.0, u.1 ∙ ap (λ l. u.0 ++ l) (sym (t.others d (not_same c d (λ e. n.0 (sym e))))))

        by_queue : (d : ℕ) (k : AskedConnection) → ((d ≡ c) × (g ≡ k)) ⊎ ((d ≡ c → ⊥) × (slice_get hosts d ≡ Some k))
            → tasks_for d (o.done ++ new.clock.queue.items) ≡ k.tasks
        by_queue d k (inl s) =
            ap (λ n. tasks_for n (o.done ++ new.clock.queue.items)) s.0
            ∙ queue_same c o.done old.clock.queue.items new.clock.queue.items
            (new_sends lost (unsent_at old c) (unsent_at new c)) h.tasks t.clock.queue (o.queue c h at)
            ∙ ap (λ l. h.tasks ++ l)
            (same_sends lost (unsent_at old c) (unsent_at new c) h.events events x.out x.kept gave)
            ∙ ap (λ (y : AskedConnection). y.tasks) s.1
        by_queue d k (inr n) =
            queue_other c d o.done old.clock.queue.items new.clock.queue.items
            (new_sends lost (unsent_at old c) (unsent_at new c)) k.tasks (λ e. n.0 (sym e)) t.clock.queue
            (o.queue d k n.1)

-- ---- the clock noted a signal

-- the same connection, after its clock noted this
abbrev pub noted_host : clock.Event → AskedConnection → AskedConnection
noted_host e h = record { course = step e h.course; events = h.events; tasks = h.tasks ++ tasks_of e h.course }

module _ (i : Inquiry) (hosts : List AskedConnection) (old new : Asking) (c : ℕ) (e : clock.Event) (h : AskedConnection)
    (o : Holds i hosts old) (at : slice_get hosts c ≡ Some h) (n : AfterNote c e old.clock new.clock)
    (meta : new.meta ≡ old.meta) (unsent : new.unsent ≡ old.unsent)
  where
    abbrev k : AskedConnection
    k = noted_host e h

    course_at : slice_get old.clock.courses.items c ≡ Some h.course
    course_at = ap (λ l. slice_get l c) o.courses ∙ get_map course_in hosts c h at

    pub noted : Holds i (slice_set hosts c k) new
    noted = record {
      size = length_set hosts c k ∙ o.size;
      courses = n.course h.course course_at ∙ ap (λ l. slice_set l c (step e h.course)) o.courses
          ∙ sym (map_set course_in hosts c k);
      pool = o.pool;
      meta = subst (λ m. MetaAfter i.questions i.settings o.pool m) (sym meta) o.meta;
      events = λ d y aty. by_events d y (get_set hosts c d k y aty);
      unsent = λ d y aty. by_unsent d y (get_set hosts c d k y aty);
      done = o.done;
      queue = λ d y aty. by_queue d y (get_set hosts c d k y aty);
      orderly = n.orderly o.orderly;
      in_order = n.in_order ∙ o.in_order;
    }
      where
        by_events : (d : ℕ) (y : AskedConnection) → ((d ≡ c) × (k ≡ y)) ⊎ ((d ≡ c → ⊥) × (slice_get hosts d ≡ Some y))
            → events_on d o.pool ≡ y.events
        by_events d y (inl s) =
            ap (λ m. events_on m o.pool) s.0 ∙ o.events c h at ∙ ap (λ (z : AskedConnection). z.events) s.1
        by_events d y (inr f) = o.events d y f.1

        by_unsent : (d : ℕ) (y : AskedConnection) → ((d ≡ c) × (k ≡ y)) ⊎ ((d ≡ c → ⊥) × (slice_get hosts d ≡ Some y))
            → (out : List ℕ) × (given y.events ≡ out ++ unsent_at new d)
        by_unsent d y (inl s) =
            let u = o.unsent c h at in (
              u.0,
              ap (λ (z : AskedConnection). given z.events) (sym s.1) ∙ u.1
                  ∙ ap (λ b. u.0 ++ octets_in (slice_get b.items c)) (sym unsent)
                  ∙ ap (λ m. u.0 ++ unsent_at new m) (sym s.0),
            )
        by_unsent d y (inr f) =
            let u = o.unsent d y f.1 in (u.0, u.1 ∙ ap (λ b. u.0 ++ octets_in (slice_get b.items d)) (sym unsent))

        by_queue : (d : ℕ) (y : AskedConnection) → ((d ≡ c) × (k ≡ y)) ⊎ ((d ≡ c → ⊥) × (slice_get hosts d ≡ Some y))
            → tasks_for d (o.done ++ new.clock.queue.items) ≡ y.tasks
        by_queue d y (inl s) =
            ap (λ m. tasks_for m (o.done ++ new.clock.queue.items)) s.0
            ∙ queue_same c o.done old.clock.queue.items new.clock.queue.items (tasks_of e h.course) h.tasks
            (n.tasks h.course course_at) (o.queue c h at)
            ∙ ap (λ (z : AskedConnection). z.tasks) s.1
        by_queue d y (inr f) =
            queue_other c d o.done old.clock.queue.items new.clock.queue.items (tasks_of e h.course) y.tasks
            (λ q. f.0 (sym q)) (n.tasks h.course course_at) (o.queue d y f.1)
