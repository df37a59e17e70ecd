-- Octets came on a connection, or were taken from it to be sent.
use Rattle.std.proofs.Common.{◌≡◌, ◌⊎◌, inl, inr, ℕ, ◌==◌, Bool, true, false, List, [], ◌++◌, Some, None, Vec, refl, sym, ap, subst, ◌∙◌, append-nil}
use Rattle.std.proofs.lemmas.Bool.Decides.{eqb_tells}
use Rattle.std.proofs.lemmas.Option.{slice_get_within}
use Rattle.std.specs.Global.{Global}
use Rattle.std.specs.Prelude.{slice_get, slice_set}
use Rattle.zoom_questions.specs.declared.question.Question.{Question}
use Rattle.zoom_questions.specs.declared.question.MetaSettings.{MetaSettings}
use Rattle.zoom_pool.specs.Transcripts as pool
use Rattle.zoom_pool.specs.Transcripts.{given}
use Rattle.zoom_pool.specs.Metas.{MetaAfter}
use Rattle.zoom_clock.specs.declared.clock.Clock.{Clock}
use Rattle.zoom_clock.specs.declared.course.Course.{Course}
use Rattle.zoom_clock.specs.Clocks.{IsOrderly}
use Rattle.zoom_clock.specs.declared.signal.Signal.TheVariants as signals
use Rattle.zoom_clock.specs.declared.signal.Condition.{Condition}
use Rattle.zoom_clock.specs.declared.stage.Stage.{Stage}
use Rattle.zoom_clock.specs.declared.stage.Stage.TheVariants.{NotChosen, Resolving, Connecting, Talking, Over}
use Rattle.zoom_clock.specs.Courses.{event, tasks_of}
use Rattle.zoom_clock.proofs.Places.{get_set_same, get_set_other, set_same, set_set}
use Rattle.zoom_asking.specs.declared.asking.Asking.{Asking}
use Rattle.zoom_asking.specs.Buffers.{octets_in}
use Rattle.zoom_asking.specs.Changes.{lost_of}
use Rattle.zoom_asking.specs.Inquiries.{Inquiry}
use Rattle.zoom_asking.specs.Steps.{IsConditionAt}
use Rattle.zoom_asking.specs.Talks.{IsHeard, IsCondition}
use Rattle.zoom_asking.specs.Hosts.{AskedConnection, HasHeard, IsFed, IsNoted, is_lost_at, sends}
use Rattle.zoom_asking.specs.Askings.{Holds, IsOneFed, IsOneTold, IsTalkedOn, KeepsHistories, tasks_for, unsent_at}
use Rattle.zoom_asking.proofs.Holding.{events, related, talked, talked_host, get_map}
use Rattle.zoom_asking.proofs.Telling.{no_sends}

-- the course of the clock is that of the connection
course_is : (i : Inquiry) (hosts : List AskedConnection) (a : Asking) (c : ℕ) (p : Course) (h : AskedConnection)
    → Holds i hosts a
    → slice_get a.clock.courses.items c ≡ Some p → slice_get hosts c ≡ Some h → p ≡ h.course
course_is i hosts a c p h o here get =
    let there : slice_get a.clock.courses.items c ≡ Some h.course =
    ap (λ l. slice_get l c) o.courses ∙ get_map (λ (x : AskedConnection). x.course) hosts c h get in
    cc

-- ---- a connection that is not talked with

not_talking : (s : MetaSettings) (q : Question) (at : ℕ) (piece : List ℕ) (h : AskedConnection) (stage : Stage)
    → lost_of stage ≡ None → IsFed s q at piece stage h h
not_talking s q at piece h NotChosen e = refl
not_talking s q at piece h Resolving e = refl
not_talking s q at piece h (Connecting a) e = refl
not_talking s q at piece h (Talking t) e = absurd (cc)
not_talking s q at piece h (Over ending) e = refl

pub not_fed : (c at : ℕ) (piece : List ℕ) (a : Asking) (p : Course) → slice_get a.clock.courses.items c ≡ Some p
    → lost_of p.stage ≡ None → IsOneFed c at piece a a
not_fed c at piece a p here none i hosts h q o get asked =
    let same = course_is i hosts a c p h o here get in (
      h,
      not_talking i.settings q at piece h h.course.stage (subst (λ (x : Course). lost_of x.stage ≡ None) same none),
      subst (λ l. Holds i l a) (sym (set_same hosts c h get)) o,
    )

-- ---- a connection that is talked with

is_fed : (s : MetaSettings) (q : Question) (at : ℕ) (piece : List ℕ) (old new : AskedConnection) (stage : Stage)
    (lost : Bool)
    → lost_of stage ≡ Some lost → HasHeard s q at piece old new → IsFed s q at piece stage old new
is_fed s q at piece old new NotChosen lost e has = absurd (cc)
is_fed s q at piece old new Resolving lost e has = absurd (cc)
is_fed s q at piece old new (Connecting a) lost e has = absurd (cc)
is_fed s q at piece old new (Talking t) lost e has = has
is_fed s q at piece old new (Over ending) lost e has = absurd (cc)

same_lost : (stage : Stage) (lost : Bool) → lost_of stage ≡ Some lost → is_lost_at stage ≡ lost
same_lost NotChosen lost e = absurd (cc)
same_lost Resolving lost e = absurd (cc)
same_lost (Connecting a) lost e = absurd (cc)
same_lost (Talking t) lost e = cc
same_lost (Over ending) lost e = absurd (cc)

-- what was noted after octets were heard
noted_heard : (s : MetaSettings) (q : Question) (at : ℕ) (condition : Condition) (lost : Bool) (h g : AskedConnection)
    (heard : List pool.Event) → is_lost_at h.course.stage ≡ lost
    → IsNoted s q at (signals.Octets condition) heard (talked_host lost h heard) g
    → IsNoted s q at (signals.Octets condition) heard h g
noted_heard s q at condition lost h g heard is n = record {
  course = n.course;
  changed = n.changed;
  tasks = n.tasks
      ∙ ap (λ l. (h.tasks ++ sends lost h.events heard) ++ l ++ tasks_of (event at (signals.Octets condition)) h.course
      ++ sends false heard g.events) (no_sends (is_lost_at h.course.stage) heard)
      ∙ ap (λ l. l ++ tasks_of (event at (signals.Octets condition)) h.course ++ sends false heard g.events)
      (append-nil (h.tasks ++ sends lost h.events heard))
      ∙ ap (λ b. h.tasks ++ sends b h.events heard ++ tasks_of (event at (signals.Octets condition)) h.course
      ++ sends false heard g.events) (sym is);
}

module _ (c at : ℕ) (piece : List ℕ) (old mid new : Asking) (p : Course) (lost : Bool) (condition : Condition)
    (here : slice_get old.clock.courses.items c ≡ Some p) (is : lost_of p.stage ≡ Some lost)
    (t : IsTalkedOn c (IsHeard piece) lost old mid) (stands : IsConditionAt c mid.meta condition)
    (told : IsOneTold c at (signals.Octets condition) mid new)
  where
    module _ (i : Inquiry) (hosts : List AskedConnection) (h : AskedConnection) (q : Question) (o : Holds i hosts old)
        (get : slice_get hosts c ≡ Some h) (asked : slice_get i.questions c ≡ Some q)
      where
        abbrev heard : List pool.Event
        heard = events i hosts old mid c (IsHeard piece) lost h q o get asked t

        abbrev k : AskedConnection
        k = talked_host lost h heard

        abbrev hosts1 : List AskedConnection
        hosts1 = slice_set hosts c k

        o1 : Holds i hosts1 mid
        o1 = talked i hosts old mid c (IsHeard piece) lost h q o get asked t

        at1 : slice_get hosts1 c ≡ Some k
        at1 = get_set_same hosts c k (slice_get_within hosts c h get)

        next : (g : AskedConnection) × IsNoted i.settings q at (signals.Octets condition) heard k g
            × Holds i (slice_set hosts1 c g) new
        next = told i hosts1 k q o1 at1 asked

        lost_here : lost_of h.course.stage ≡ Some lost
        lost_here = subst (λ (x : Course). lost_of x.stage ≡ Some lost) (course_is i hosts old c p h o here get) is

        has : HasHeard i.settings q at piece h next.0
        has = record {
          heard = heard;
          hears = related i hosts old mid c (IsHeard piece) lost h q o get asked t;
          condition = condition;
          stands = subst (λ l. IsCondition i.settings l condition) (o1.events c k at1)
              (stands i.questions i.settings o1.pool o1.meta);
          noted = noted_heard i.settings q at condition lost h next.0 heard
              (same_lost h.course.stage lost lost_here) next.1;
        }

        fed_here : (g : AskedConnection) × IsFed i.settings q at piece h.course.stage h g
            × Holds i (slice_set hosts c g) new
        fed_here = (
          next.0,
          is_fed i.settings q at piece h next.0 h.course.stage lost lost_here has,
          subst (λ l. Holds i l new) (set_set hosts c k next.0) next.2,
        )

    pub fed : IsOneFed c at piece old new
    fed i hosts h q o get asked = fed_here i hosts h q o get asked

-- ---- what waits is taken

pub taken_out : (c : ℕ) (old new : Asking) (before after : Vec ℕ Global) → slice_get old.unsent.items c ≡ Some before
    → new.unsent.items ≡ slice_set old.unsent.items c after → after.items ≡ [] → new.meta ≡ old.meta
    → new.clock ≡ old.clock → KeepsHistories old new
taken_out c old new before after at set empty meta clock i history a =
    let o = a.holds in
    record {
      hosts = a.hosts;
      after = a.after;
      holds = record {
        size = o.size;
        courses = ap (λ (k : Clock). k.courses.items) clock ∙ o.courses;
        pool = o.pool;
        meta = subst (λ m. MetaAfter i.questions i.settings o.pool m) (sym meta) o.meta;
        events = o.events;
        unsent = λ d h get. by d h (o.unsent d h get) (eqb_tells d c);
        done = o.done;
        queue = λ d h get. ap (λ (k : Clock). tasks_for d (o.done ++ k.queue.items)) clock ∙ o.queue d h get;
        orderly = subst IsOrderly (sym clock) o.orderly;
        in_order = ap (λ (k : Clock). k.in_order) clock ∙ o.in_order;
      };
      passed = ap (λ (k : Clock). k.passed) clock ∙ a.passed;
    }
  where
    none : unsent_at new c ≡ []
    none = ap (λ l. octets_in (slice_get l c)) set
        ∙ ap octets_in (get_set_same old.unsent.items c after (slice_get_within old.unsent.items c before at)) ∙ empty

    by : (d : ℕ) (h : AskedConnection) → ((out : List ℕ) × (given h.events ≡ out ++ unsent_at old d))
        → (((d == c) ≡ true) × (d ≡ c)) ⊎ (((d == c) ≡ false) × (d ≡ c → ⊥))
        → (out : List ℕ) × (given h.events ≡ out ++ unsent_at new d)
    by d h u (inl s) = (
      u.0 ++ unsent_at old d,
      u.1 ∙ sym (append-nil (u.0 ++ unsent_at old d))
          ∙ ap (λ l. (u.0 ++ unsent_at old d) ++ l) (sym (ap (unsent_at new) s.1 ∙ none)),
    )
    by d h u (inr n) = (
      u.0,
      u.1 ∙ ap (λ l. u.0 ++ l) (sym (ap (λ l. octets_in (slice_get l d)) set
          ∙ ap octets_in (get_set_other old.unsent.items c d after n.1))),
    )
