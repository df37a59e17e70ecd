-- Each exchange of an inquiry's connection with a target alone is sound.
use Rattle.std.proofs.Common.{◌≡◌, ◌∙◌, sym, ap, subst, ℕ, ◌<◌, Bool, true, false, List, [], ◌∷◌, ◌++◌, slice_get, Option, Some, refl, append_assoc, append-nil, true≢false, is_some}
use Rattle.std.proofs.lemmas.List.{append_cancel_left}
use Rattle.std.proofs.lemmas.Option.{slice_get_within}
use Rattle.zoom_questions.specs.declared.question.Question.{Question}
use Rattle.zoom_questions.specs.declared.question.MetaSettings.{MetaSettings}
use Rattle.zoom_pool.specs.Transcripts as pool
use Rattle.zoom_pool.specs.Transcripts.{Transcript, IsTranscript, empty_transcript, state_at, past_of, given, fed, sent}
use Rattle.zoom_pool.specs.History.{History, events_on}
use Rattle.zoom_pool.specs.Metas.{MetaLinks, MetaAfter, settings_of}
use Rattle.zoom_pool.specs.Hosts.{HostState as ServingEnd, HostAfter as ServingEndAfter, Holdings, HostEvent, HostFed, Released, HostHandedOut, handed_out}
use Rattle.zoom_pool.proofs.Metas.{slice_some}
use Rattle.zoom_laws.specs.Catalogue.{CatalogueLaws}
use Rattle.zoom_laws.specs.Exchange.{IsSoundExchange, fed_to}
use Rattle.zoom_clock.specs.declared.stage.Stage.{Stage}
use Rattle.zoom_clock.specs.declared.stage.Stage.TheVariants.{NotChosen, Resolving, Connecting, Talking, Over}
use Rattle.zoom_clock.specs.Stages.{first_stage}
use Rattle.zoom_clock.specs.declared.signal.Signal.TheVariants as signals
use Rattle.zoom_asking.specs.declared.asking.Asking.{Asking}
use Rattle.zoom_asking.specs.declared.inquiry.AskedHost.{AskedHost}
use Rattle.zoom_asking.specs.Inquiries.{Inquiry, Entry, Event, Came, Noted}
use Rattle.zoom_asking.specs.Hosts.{AskedConnection, IsFed}
use Rattle.zoom_asking.specs.Askings.{AskingAfter}
use Rattle.zoom_asking_laws.specs.Served.{IsServed, begins, feeds, releases, hands, comes, tells, AnsweredLaw, ClosedLaw, DeliveredLaw, ServedLaws}
use Rattle.zoom_asking_laws.proofs.Readings.{AreReadIn, read_noted, read_told}
use Rattle.zoom_asking_laws.proofs.Exchanges.{IsUnderway, Laws}
use Rattle.zoom_asking_laws.proofs.Closings.{IsAnswered, IsClosedAndAnswered}
use Rattle.zoom_asking_laws.proofs.Stages.{IsQuiet, GoesOn, FitsStage, Fits, stage_answered, noted_fits, heard_fits}

-- ---- the target did something

-- each sound exchange with these events, of which all was handed out, stays sound
abbrev Stays
    : MetaSettings → Holdings → List pool.Event → List HostEvent → ServingEnd → List HostEvent → ServingEnd → Type 0
Stays s holdings events xs end ys later =
    (p : Transcript) → given events ≡ sent (past_of p) → IsSoundExchange holdings (settings_of s) events p xs end
    → IsSoundExchange holdings (settings_of s) events p ys later

module _ (s : MetaSettings) (question : Question) (holdings : Holdings) (events : List pool.Event)
    (xs ys : List HostEvent) (end later : ServingEnd) (stays : Stays s holdings events xs end ys later)
  where
    moved_under : (p : Transcript) → given events ≡ sent (past_of p) → IsUnderway s holdings xs end events p
        → IsUnderway s holdings ys later events p
    moved_under p gave u = record { sound = stays p gave u.sound; stream = u.stream; safe = u.safe }

    moved_quiet : IsQuiet s question holdings xs end events → IsQuiet s question holdings ys later events
    moved_quiet quiet = (quiet.0, moved_under (empty_transcript (settings_of s)) (ap given quiet.0) quiet.1)

    moved_going : GoesOn s question holdings xs end events → GoesOn s question holdings ys later events
    moved_going going = (
      going.0,
      record {
        under = moved_under going.0 going.1.gave going.1.under;
        gave = going.1.gave;
        idle = going.1.idle;
        taken = going.1.taken;
      },
      going.2,
    )

    moved : (stage : Stage) → FitsStage s question holdings xs end stage events
        → FitsStage s question holdings ys later stage events
    moved NotChosen fits = moved_quiet fits
    moved Resolving fits = moved_quiet fits
    moved (Connecting a) fits = moved_quiet fits
    moved (Talking t) fits = moved_going fits
    moved (Over ending) fits = fits

-- the octets on their way to the target
way_to : (events : List pool.Event) (xs : List HostEvent) (past to rest : List ℕ) → fed_to xs ++ to ≡ past
    → given events ≡ past → given events ≡ fed_to xs ++ rest → to ≡ rest
way_to events xs past to rest sends gave is =
    append_cancel_left (fed_to xs) to rest (sends ∙ sym gave ∙ is)

-- ---- the start

module _ (laws : Laws) (i : Inquiry) (host : Option AskedHost) (question : Question) (holdings : Holdings) where
  abbrev FitsNow : List HostEvent → ServingEnd → AskedConnection → Type 0
  FitsNow xs end h = Fits i.settings question holdings xs end h

  quiet_first : (end : ServingEnd) → ServingEndAfter holdings [] end → IsQuiet i.settings question holdings [] end []
  quiet_first end after = (
    refl,
    record {
      sound = laws.exchange.starts holdings (settings_of i.settings) end after;
      stream = refl;
      safe = refl;
    },
  )

  stage_first : (end : ServingEnd) (chosen : Bool) → ServingEndAfter holdings [] end
      → FitsStage i.settings question holdings [] end (first_stage chosen) []
  stage_first end true after = quiet_first end after
  stage_first end false after = quiet_first end after

  -- ---- octets came

  came_fits : (xs : List HostEvent) (end : ServingEnd) (at : ℕ) (piece rest : List ℕ) (stage : Stage)
      (old new : AskedConnection) → old.course.stage ≡ stage → IsFed i.settings question at piece stage old new
      → AreReadIn (settings_of i.settings) new.events → handed_out xs ≡ fed old.events ++ piece ++ rest
      → FitsNow xs end old → FitsNow xs end new
  came_fits xs end at piece rest NotChosen old new is same reads came fits = subst (FitsNow xs end) (sym same) fits
  came_fits xs end at piece rest Resolving old new is same reads came fits = subst (FitsNow xs end) (sym same) fits
  came_fits xs end at piece rest (Connecting a) old new is same reads came fits =
      subst (FitsNow xs end) (sym same) fits
  came_fits xs end at piece rest (Over ending) old new is same reads came fits =
      subst (FitsNow xs end) (sym same) fits
  came_fits xs end at piece rest (Talking t) old new is had reads came fits =
      heard_fits laws i.settings question holdings xs end at piece rest t old new is had
      (read_noted i.settings question at (signals.Octets had.condition) had.heard old new had.noted reads) came
      (subst (λ z. FitsStage i.settings question holdings xs end z old.events) is fits)

  -- ---- all

  -- What is known of a connection that exchanges octets with a target alone, if what it sent is read back.
  pub served_fits : (es : List Event) (h : AskedConnection) (xs : List HostEvent) (end : ServingEnd)
      → IsServed i host question holdings es h xs end → AreReadIn (settings_of i.settings) h.events → FitsNow xs end h
  served_fits es h xs end (begins g e first after) reads =
      subst (FitsNow [] end) (sym first) (stage_first end (is_some host) after)
  served_fits es h xs end (feeds fs g ys before later piece rest served is after) reads =
      moved i.settings question holdings g.events ys (HostFed piece ∷ ys) before later
      (λ p gave sound. laws.exchange.host_fed holdings (settings_of i.settings) g.events p ys before later piece rest
      sound (way_to g.events ys (sent (past_of p)) sound.to (piece ++ rest) sound.sends gave
      (is ∙ append_assoc (fed_to ys) piece rest)) after)
      g.course.stage (served_fits fs g ys before served reads)
  served_fits es h xs end (releases fs g ys before later k served after) reads =
      moved i.settings question holdings g.events ys (Released k ∷ ys) before later
      (λ p gave sound. laws.exchange.released holdings (settings_of i.settings) g.events p ys before later k sound
      after)
      g.course.stage (served_fits fs g ys before served reads)
  served_fits es h xs end (hands fs g ys before later served after) reads =
      moved i.settings question holdings g.events ys (HostHandedOut before.waiting ∷ ys) before later
      (λ p gave sound. laws.exchange.handed holdings (settings_of i.settings) g.events p ys before later sound after)
      g.course.stage (served_fits fs g ys before served reads)
  served_fits es h xs end (comes fs old new ys now at piece rest served came told) reads =
      came_fits ys now at piece rest old.course.stage old new refl told reads came
      (served_fits fs old ys now served (read_told i.settings question at (Came piece) old new told reads))
  served_fits es h xs end (tells fs old new ys now at what served reported told) reads =
      noted_fits laws i.settings question holdings ys now at what old new reported told reads
      (served_fits fs old ys now served (read_told i.settings question at (Noted what) old new told reads))

-- ---- the laws

-- what was sent on a connection is read back
sent_read : (questions : List Question) (s : MetaSettings) (h : History) (meta : MetaLinks) (c : ℕ) (q : Question)
    → MetaAfter questions s h meta → slice_get questions c ≡ Some q → AreReadIn (settings_of s) (events_on c h)
sent_read questions s h meta c q after at =
    let k = slice_some meta.pool.connections c
    (subst (λ n. c < n) (sym after.size) (slice_get_within questions c q at)) in
    let left = after.pool.stands.each c k.0 k.1 in
    record { transcript = after.pool.transcript c; is = left.transcript; reads = left.reads }

-- the exchange of a connection of an asking
asking_fits : Laws → (i : Inquiry) (history : List Entry) (asking : Asking) (c : ℕ) (question : Question)
    (host : Option AskedHost) (es : List Event) (h : AskedConnection) (xs : List HostEvent) (end : ServingEnd)
    (holdings : Holdings) (after : AskingAfter i history asking) → slice_get i.questions c ≡ Some question
    → slice_get after.hosts c ≡ Some h → IsServed i host question holdings es h xs end
    → Fits i.settings question holdings xs end h
asking_fits laws i history asking c question host es h xs end holdings after asked there served =
    served_fits laws i host question holdings es h xs end served
    (subst (AreReadIn (settings_of i.settings)) (after.holds.events c h there)
    (sent_read i.questions i.settings after.holds.pool asking.meta c question after.holds.meta asked))

module _ (laws : Laws) (catalogues : CatalogueLaws) where
  closed : ClosedLaw
  closed i history asking c question host es h xs end holdings p after asked there served over transcript can fits =
      let was : IsAnswered holdings p =
      stage_answered laws i.settings question holdings xs end h.course.stage h.events
      (asking_fits laws i history asking c question host es h xs end holdings after asked there served) p transcript
      over in
      let events : events_on c after.holds.pool ≡ h.events = after.holds.events c h there in
      catalogues.answers i.questions i.settings after.holds.pool asking.meta c question p holdings.databases
      holdings.settings after.holds.meta asked
      (subst (λ z. IsTranscript (settings_of i.settings) z p) (sym events) transcript) was.complete was.conversed.owed
      can fits

  -- a connection that its messages have ended is Closed
  answered : AnsweredLaw
  answered i history asking c question host es h xs end holdings p after asked there served over transcript can fits =
      let ended : IsClosedAndAnswered i.settings holdings h.events =
      subst (λ z. FitsStage i.settings question holdings xs end z h.events) over
      (asking_fits laws i history asking c question host es h xs end holdings after asked there served) in
      closed i history asking c question host es h xs end holdings p after asked there served (ended p transcript).0
      transcript can fits

  delivered : DeliveredLaw
  delivered i history asking c question host es h xs end holdings t after asked there served to from waiting pending
      talking =
      let going : GoesOn i.settings question holdings xs end h.events =
      subst (λ z. FitsStage i.settings question holdings xs end z h.events) talking
      (asking_fits laws i history asking c question host es h xs end holdings after asked there served) in
      let p : Transcript = going.0 in
      let e = going.1 in
      let sound = e.under.sound in
      let settled = laws.exchange.rests holdings (settings_of i.settings) h.events p xs end sound
      (way_to h.events xs (sent (past_of p)) sound.to [] sound.sends e.gave (to ∙ sym (append-nil (fed_to xs))))
      (append_cancel_left p.stream sound.from []
      (sound.comes ∙ from ∙ sym e.under.stream ∙ sym (append-nil p.stream)))
      waiting pending (e.taken going.2) in
      let events : events_on c after.holds.pool ≡ h.events = after.holds.events c h there in
      true≢false (sym (laws.exchange.ended i.questions i.settings after.holds.pool asking.meta c question p
      after.holds.meta asked
      (subst (λ z. IsTranscript (settings_of i.settings) z p) (sym events) sound.transcript)
      e.idle sound.goes settled.waits settled.begun settled.closed) ∙ going.2)

  -- The laws of a connection and a target alone.
  pub served_of : ServedLaws
  served_of = record { answered = answered; closed = closed; delivered = delivered }
