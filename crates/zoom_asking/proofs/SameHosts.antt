-- At once, the same becomes of two connections of which the same is told.
use Rattle.std.proofs.Common.{◌≡◌, ℕ, ◌<◌, Bool, true, false, cond, List, [], ◌∷◌, ◌++◌, length, Option, refl, sym, ap, subst, ◌∙◌, true≢false}
use Rattle.std.specs.Prelude.{nat_lt, ◌&&◌, not}
use Rattle.zplan.specs.Positions.{IsWanted}
use Rattle.zplan.specs.Ranges.{positions}
use Rattle.zoom_questions.specs.declared.question.Question.{Question}
use Rattle.zoom_questions.specs.declared.question.MetaSettings.{MetaSettings}
use Rattle.zoom_pool.specs.Transcripts as pool
use Rattle.zoom_pool.specs.Transcripts.{Took, InputEnded, Stopped, given, is_lost}
use Rattle.zoom_pool.specs.Steering.{errand_of}
use Rattle.zoom_pool.specs.Metas.{settings_of}
use Rattle.zoom_clock.specs.declared.action.Task.TheVariants.{Send}
use Rattle.zoom_clock.specs.declared.course.Course.{Course}
use Rattle.zoom_clock.specs.declared.signal.Ending.{Ending}
use Rattle.zoom_clock.specs.declared.signal.Ending.TheVariants as endings
use Rattle.zoom_clock.specs.declared.signal.Signal.{Signal}
use Rattle.zoom_clock.specs.declared.signal.Signal.TheVariants as signals
use Rattle.zoom_clock.specs.declared.stage.Stage.{Stage}
use Rattle.zoom_clock.specs.declared.stage.Stage.TheVariants.{NotChosen, Resolving, Connecting, Talking, Over}
use Rattle.zoom_clock.specs.Courses as clock
use Rattle.zoom_clock.specs.Courses.{event, step, tasks_of, is_settled}
use Rattle.zoom_asking.specs.declared.inquiry.AskedHost.{AskedHost}
use Rattle.zoom_asking.specs.declared.change.Kind.TheVariants as kinds
use Rattle.zoom_asking.specs.Changes.{change_between, change_of}
use Rattle.zoom_asking.specs.Inquiries.{Inquiry, Event, Told, Came, Noted}
use Rattle.zoom_asking.specs.Talks.{closing, condition_in}
use Rattle.zoom_asking.specs.Hosts.{AskedConnection, AskedAfter, AfterChange, IsNoted, HasHeard, IsFed, IsTold, sends, is_lost_at, first_host}
use Rattle.zoom_asking.specs.Laws.{AreAlike}
use Rattle.zoom_asking.proofs.Alike.{IsNoCall, AreSame, alike_self, same_more, same_state}
use Rattle.zoom_asking.proofs.Steady.{AreSound, sound_noted, sound_told}
use Rattle.zoom_asking.proofs.AlikeDrives.{Laws, driven_same}
use Rattle.zoom_asking.proofs.AlikeTakes.{heard_same}

-- ---- the clock

-- a connection that is not settled was not settled before
goes_back : (e : clock.Event) (p : Course) → is_settled (step e p).stage ≡ false → is_settled p.stage ≡ false
goes_back e p going = by (is_settled p.stage) refl
  where
    by : (b : Bool) → is_settled p.stage ≡ b → is_settled p.stage ≡ false
    by false is = is
    by true is =
        let same : step e p ≡ p = rw is refl in
        sym (ap (λ (c : Course). is_settled c.stage) same) ∙ going

same_sends : (lost gone : Bool) (old new more most : List pool.Event) → lost ≡ gone → given old ≡ given more
    → given new ≡ given most → sends lost old new ≡ sends gone more most
same_sends lost gone old new more most x y z =
    λ i. cond (not (x i) && nat_lt (length (y i)) (length (z i))) (Send ∷ []) []

-- ---- two connections

-- Events of two connections amount to the same; while the connections go on, nothing was lost.
pub record AreKept (s : MetaSettings) (question : Question) (stage : Stage) (one other : List pool.Event) : Type 0 where
  pub same : AreSame (errand_of s question) (settings_of s) one other
  pub intact : is_settled stage ≡ false → (is_lost one ≡ false) × (is_lost other ≡ false)

-- the same became of two connections
pub record AreTwins (s : MetaSettings) (question : Question) (x y : AskedConnection) : Type 0 where
  pub course : x.course ≡ y.course
  pub tasks : x.tasks ≡ y.tasks
  pub kept : AreKept s question x.course.stage x.events y.events

module _ (l : Laws) (s : MetaSettings) (question : Question) (w : IsWanted (positions question.wanted))
    (lo : 0 < s.step) where
  more_same : (x : pool.Event) → IsNoCall x → (one other : List pool.Event)
      → AreSame (errand_of s question) (settings_of s) one other
      → AreSame (errand_of s question) (settings_of s) (x ∷ one) (x ∷ other)
  more_same x quiet one other a = same_more (errand_of s question) l.input (settings_of s) x quiet one other a

  closed_same : (ending : Ending) (one other : List pool.Event)
      → AreSame (errand_of s question) (settings_of s) one other
      → AreSame (errand_of s question) (settings_of s) (closing ending one) (closing ending other)
  closed_same endings.Connect one other a = more_same (Stopped _) tt one other a
  closed_same endings.Read one other a = more_same (Stopped _) tt one other a
  closed_same endings.Write one other a = more_same (Stopped _) tt one other a
  closed_same endings.Turns one other a = more_same (Stopped _) tt one other a
  closed_same endings.InputEnded one other a =
      more_same Took tt (InputEnded ∷ one) (InputEnded ∷ other) (more_same InputEnded tt one other a)
  closed_same endings.Finished one other a = a

  -- nothing changed
  kept_so : (old new : Stage) (one other after then : List pool.Event)
      → (is_settled new ≡ false → is_settled old ≡ false) → AreKept s question old one other → after ≡ one
      → then ≡ other → AreKept s question new after then
  kept_so old new one other after then back k x y =
      subst (λ z. AreKept s question new z then) (sym x) (subst (AreKept s question new one) (sym y) (record {
        same = k.same;
        intact = λ going. k.intact (back going);
      }))

  -- the connection is over
  over_kept : (ending : Ending) (one other after then : List pool.Event)
      → AreSame (errand_of s question) (settings_of s) one other → after ≡ closing ending one
      → then ≡ closing ending other → AreKept s question (Over ending) after then
  over_kept ending one other after then a x y =
      subst (λ z. AreKept s question (Over ending) z then) (sym x)
      (subst (AreKept s question (Over ending) (closing ending one)) (sym y) (record {
        same = closed_same ending one other a;
        intact = λ going. absurd (true≢false going);
      }))

  -- the connection had not connected
  kept_connecting : (old new : Stage) → is_settled old ≡ false → (one other after then : List pool.Event)
      → (is_settled new ≡ false → is_settled old ≡ false) → AreKept s question old one other
      → AfterChange (change_of kinds.Connecting new) s question one after
      → AfterChange (change_of kinds.Connecting new) s question other then
      → AreSound s question after → AreSound s question then → AreKept s question new after then
  kept_connecting old (Talking t) going one other after then back k x y f g =
      let intact = k.intact going in
      let whole = driven_same l s question w lo one after other then x y
      (record { same = k.same; first = intact.0; second = intact.1 }) f g in
      record { same = whole.same; intact = λ going. (whole.first, whole.second) }
  kept_connecting old (Over ending) going one other after then back k x y f g =
      over_kept ending one other after then k.same x y
  kept_connecting old NotChosen going one other after then back k x y f g =
      kept_so old NotChosen one other after then back k x y
  kept_connecting old Resolving going one other after then back k x y f g =
      kept_so old Resolving one other after then back k x y
  kept_connecting old (Connecting b) going one other after then back k x y f g =
      kept_so old (Connecting b) one other after then back k x y

  kept_changed : (old new : Stage) (one other after then : List pool.Event)
      → (is_settled new ≡ false → is_settled old ≡ false) → AreKept s question old one other
      → AfterChange (change_between old new) s question one after
      → AfterChange (change_between old new) s question other then
      → AreSound s question after → AreSound s question then → AreKept s question new after then
  kept_changed NotChosen new one other after then back k x y f g = kept_so NotChosen new one other after then back k x y
  kept_changed (Over ending) new one other after then back k x y f g =
      kept_so (Over ending) new one other after then back k x y
  kept_changed Resolving new one other after then back k x y f g =
      kept_connecting Resolving new refl one other after then back k x y f g
  kept_changed (Connecting a) new one other after then back k x y f g =
      kept_connecting (Connecting a) new refl one other after then back k x y f g
  kept_changed (Talking t) (Over ending) one other after then back k x y f g =
      over_kept ending one other after then k.same x y
  kept_changed (Talking t) NotChosen one other after then back k x y f g =
      kept_so (Talking t) NotChosen one other after then back k x y
  kept_changed (Talking t) Resolving one other after then back k x y f g =
      kept_so (Talking t) Resolving one other after then back k x y
  kept_changed (Talking t) (Connecting b) one other after then back k x y f g =
      kept_so (Talking t) (Connecting b) one other after then back k x y
  kept_changed (Talking t) (Talking u) one other after then back k x y f g =
      kept_so (Talking t) (Talking u) one other after then back k x y

  -- ---- what is told of both

  noted_twins : (at : ℕ) (what : Signal) (one other : List pool.Event) (x y v z : AskedConnection)
      → AreTwins s question x y
      → AreKept s question x.course.stage one other → IsNoted s question at what one x v
      → IsNoted s question at what other y z → AreSound s question v.events → AreSound s question z.events
      → AreTwins s question v z
  noted_twins at what one other x y v z a kept n m f g =
      let course : v.course ≡ z.course = n.course ∙ ap (step (event at what)) a.course ∙ sym m.course in
      let back : is_settled v.course.stage ≡ false → is_settled x.course.stage ≡ false = λ going.
      goes_back (event at what) x.course (sym (ap (λ (c : Course). is_settled c.stage) n.course) ∙ going) in
      let changed =
      subst (λ (c : Course). AfterChange (change_between c.stage v.course.stage) s question other z.events)
      (sym a.course)
      (subst (λ (c : Course). AfterChange (change_between y.course.stage c.stage) s question other z.events)
      (sym course) m.changed) in
      let now = kept_changed x.course.stage v.course.stage one other v.events z.events back kept n.changed
      changed f g in
      let lost : is_lost_at x.course.stage ≡ is_lost_at y.course.stage =
      ap (λ (c : Course). is_lost_at c.stage) a.course in
      let heard = same_sends (is_lost_at x.course.stage) (is_lost_at y.course.stage) x.events one y.events other lost
      a.kept.same.given kept.same.given in
      let made = same_sends false false one v.events other z.events refl kept.same.given now.same.given in
      record {
        course = course;
        tasks = n.tasks ∙ (λ i. a.tasks i ++ heard i ++ tasks_of (event at what) (a.course i) ++ made i) ∙ sym m.tasks;
        kept = now;
      }

  heard_twins : (at : ℕ) (piece : List ℕ) (x y v z : AskedConnection) → AreTwins s question x y
      → (is_lost x.events ≡ false) × (is_lost y.events ≡ false) → HasHeard s question at piece x v
      → HasHeard s question at piece y z → AreSound s question v.events → AreSound s question z.events
      → AreTwins s question v z
  heard_twins at piece x y v z a intact h k f g =
      let here = sound_noted s question at (signals.Octets h.condition) h.heard x v h.noted f in
      let there = sound_noted s question at (signals.Octets k.condition) k.heard y z k.noted g in
      let whole = heard_same l s question w lo piece x.events h.heard y.events k.heard h.hears k.hears
      (record { same = a.kept.same; first = intact.0; second = intact.1 }) here there in
      let alike = whole.same.alike here.transcript there.transcript here.is there.is in
      let condition : h.condition ≡ k.condition = h.stands here.transcript here.is
      ∙ ap condition_in (same_state (errand_of s question) here.transcript there.transcript alike)
      ∙ sym (k.stands there.transcript there.is) in
      noted_twins at (signals.Octets h.condition) h.heard k.heard x y v z a
      (record { same = whole.same; intact = λ going. (whole.first, whole.second) }) h.noted
      (subst (λ t. IsNoted s question at (signals.Octets t) k.heard y z) (sym condition) k.noted) f g

  same_twins : (x y v z : AskedConnection) → AreTwins s question x y → v ≡ x → z ≡ y → AreTwins s question v z
  same_twins x y v z a p q =
      subst (λ h. AreTwins s question h z) (sym p) (subst (AreTwins s question x) (sym q) a)

  fed_twins : (at : ℕ) (piece : List ℕ) (stage : Stage) (x y v z : AskedConnection) → AreTwins s question x y
      → AreKept s question stage x.events y.events → IsFed s question at piece stage x v
      → IsFed s question at piece stage y z → AreSound s question v.events → AreSound s question z.events
      → AreTwins s question v z
  fed_twins at piece (Talking t) x y v z a kept h k f g = heard_twins at piece x y v z a (kept.intact refl) h k f g
  fed_twins at piece NotChosen x y v z a kept h k f g = same_twins x y v z a h k
  fed_twins at piece Resolving x y v z a kept h k f g = same_twins x y v z a h k
  fed_twins at piece (Connecting b) x y v z a kept h k f g = same_twins x y v z a h k
  fed_twins at piece (Over ending) x y v z a kept h k f g = same_twins x y v z a h k

  told_twins : (at : ℕ) (told : Told) (x y v z : AskedConnection) → AreTwins s question x y
      → IsTold s question at told x v
      → IsTold s question at told y z → AreSound s question v.events → AreSound s question z.events
      → AreTwins s question v z
  told_twins at (Came piece) x y v z a h k f g =
      fed_twins at piece x.course.stage x y v z a a.kept h
      (subst (λ (c : Course). IsFed s question at piece c.stage y z) (sym a.course) k) f g
  told_twins at (Noted what) x y v z a n m f g = noted_twins at what x.events y.events x y v z a a.kept n m f g

  -- ---- histories

  first_twins : (i : Inquiry) (host : Option AskedHost) → AreTwins s question (first_host i host) (first_host i host)
  first_twins i host =
      let h = first_host i host in
      record {
        course = refl;
        tasks = refl;
        kept = record {
          same = record {
            alike = λ p q f g. subst (AreAlike (errand_of s question) p) (l.transcript (settings_of s) h.events p q f g)
                (alike_self (errand_of s question) p);
            given = refl;
          };
          intact = λ going. (refl, refl);
        };
      }

  pub twins : (i j : Inquiry) (host : Option AskedHost) → i.settings ≡ s → j.settings ≡ s
      → first_host j host ≡ first_host i host → (es : List Event) (x y : AskedConnection)
      → AskedAfter i host question es x
      → AskedAfter j host question es y → AreSound s question x.events → AreSound s question y.events
      → AreTwins s question x y
  twins i j host one other begun [] x y a b f g =
      same_twins (first_host i host) (first_host i host) x y (first_twins i host) a (b ∙ begun)
  twins i j host one other begun (e ∷ es) x y a b f g =
      let told = subst (λ t. IsTold t question e.at e.told a.0 x) one a.2 in
      let also = subst (λ t. IsTold t question e.at e.told b.0 y) other b.2 in
      told_twins e.at e.told a.0 b.0 x y
      (twins i j host one other begun es a.0 b.0 a.1 b.1 (sound_told s question e.at e.told a.0 x told f)
      (sound_told s question e.at e.told b.0 y also g)) told also f g
