-- A connection was told something.
use Rattle.std.proofs.Common.{◌≡◌, ℕ, Bool, false, List, [], ◌++◌, Some, refl, sym, ap, subst, ◌∙◌, append-nil}
use Rattle.std.proofs.lemmas.Option.{slice_get_within}
use Rattle.std.specs.Prelude.{slice_get, slice_set}
use Rattle.zoom_questions.specs.declared.question.Question.{Question}
use Rattle.zoom_pool.specs.Transcripts as pool
use Rattle.zoom_pool.specs.Transcripts.{given}
use Rattle.zoom_clock.specs.declared.clock.Clock.{Clock}
use Rattle.zoom_clock.specs.declared.course.Course.{Course}
use Rattle.zoom_clock.specs.declared.signal.Signal.{Signal}
use Rattle.zoom_clock.specs.Clocks.{AfterNote}
use Rattle.zoom_clock.specs.Courses.{event, step, tasks_of}
use Rattle.zoom_clock.proofs.Places.{get_set_same, set_set}
use Rattle.zoom_asking.specs.declared.asking.Asking.{Asking}
use Rattle.zoom_asking.specs.declared.change.Change.{Change}
use Rattle.zoom_asking.specs.declared.change.Kind.{Kind}
use Rattle.zoom_asking.specs.Changes.{kind_of, change_of, change_between}
use Rattle.zoom_asking.specs.Inquiries.{Inquiry}
use Rattle.zoom_asking.specs.Hosts.{AskedConnection, AfterChange, IsNoted, sends, is_lost_at}
use Rattle.zoom_asking.specs.Askings.{Holds, IsTalkedOn, IsOneTold}
use Rattle.zoom_asking.proofs.TalkedOn.{no_new}
use Rattle.zoom_asking.proofs.Holding.{events, related, talked, talked_host, noted, noted_host, get_map}

-- nothing new is to be sent if no events were added
pub no_sends : (lost : Bool) (old : List pool.Event) → sends lost old old ≡ []
no_sends lost old = no_new lost (given old)

-- the change that was found is the one between the stages of the connection's course
pub same_change : (c at : ℕ) (what : Signal) (old : Asking) (clock : Clock) (before after : Course) (kind : Kind)
    (change : Change) → AfterNote c (event at what) old.clock clock
    → slice_get old.clock.courses.items c ≡ Some before → slice_get clock.courses.items c ≡ Some after
    → kind ≡ kind_of before.stage → change ≡ change_of kind after.stage
    → (i : Inquiry) (hosts : List AskedConnection) (h : AskedConnection) → Holds i hosts old
    → slice_get hosts c ≡ Some h
    → change ≡ change_between h.course.stage (step (event at what) h.course).stage
same_change c at what old clock before after kind change n was now kinds changes i hosts h o get =
    let here : slice_get old.clock.courses.items c ≡ Some h.course =
    ap (λ l. slice_get l c) o.courses ∙ get_map (λ (x : AskedConnection). x.course) hosts c h get in
    let first : before ≡ h.course = cc in
    let lt = slice_get_within old.clock.courses.items c before was in
    let there : slice_get clock.courses.items c ≡ Some (step (event at what) before) =
    ap (λ l. slice_get l c) (n.course before was)
    ∙ get_set_same old.clock.courses.items c (step (event at what) before) lt in
    let second : after ≡ step (event at what) before = cc in
    changes ∙ ap (λ k. change_of k after.stage) kinds
    ∙ ap (λ (x : Course). change_of (kind_of before.stage) x.stage) second
    ∙ ap (λ (x : Course). change_of (kind_of x.stage) (step (event at what) x).stage) first

module _ (c at : ℕ) (what : Signal) (old mid new : Asking) (change : Change)
    (n : AfterNote c (event at what) old.clock mid.clock)
    (meta : mid.meta ≡ old.meta) (unsent : mid.unsent ≡ old.unsent)
    (t : IsTalkedOn c (AfterChange change) false mid new)
    (is : (i : Inquiry) (hosts : List AskedConnection) (h : AskedConnection) → Holds i hosts old
    → slice_get hosts c ≡ Some h
    → change ≡ change_between h.course.stage (step (event at what) h.course).stage)
  where
    module _ (i : Inquiry) (hosts : List AskedConnection) (h : AskedConnection) (question : Question)
        (o : Holds i hosts old)
        (get : slice_get hosts c ≡ Some h) (asked : slice_get i.questions c ≡ Some question)
      where
        abbrev k : AskedConnection
        k = noted_host (event at what) h

        abbrev hosts1 : List AskedConnection
        hosts1 = slice_set hosts c k

        o1 : Holds i hosts1 mid
        o1 = noted i hosts old mid c (event at what) h o get n meta unsent

        at1 : slice_get hosts1 c ≡ Some k
        at1 = get_set_same hosts c k (slice_get_within hosts c h get)

        abbrev ev : List pool.Event
        ev = events i hosts1 mid new c (AfterChange change) false k question o1 at1 asked t

        abbrev g : AskedConnection
        g = talked_host false k ev

        changed : AfterChange change i.settings question h.events ev
        changed = related i hosts1 mid new c (AfterChange change) false k question o1 at1 asked t

        is_noted : IsNoted i.settings question at what h.events h g
        is_noted = record {
          course = refl;
          changed = subst (λ x. AfterChange x i.settings question h.events ev) (is i hosts h o get) changed;
          tasks = ap (λ l. (l ++ tasks_of (event at what) h.course) ++ sends false h.events ev)
              (sym (ap (λ l. h.tasks ++ l) (no_sends (is_lost_at h.course.stage) h.events) ∙ append-nil h.tasks));
        }

        holds : Holds i (slice_set hosts c g) new
        holds = subst (λ l. Holds i l new) (set_set hosts c k g)
            (talked i hosts1 mid new c (AfterChange change) false k question o1 at1 asked t)

    pub told : IsOneTold c at what old new
    told i hosts h question o get asked = (
      g i hosts h question o get asked,
      is_noted i hosts h question o get asked,
      holds i hosts h question o get asked,
    )
