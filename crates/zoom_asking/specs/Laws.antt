-- Laws of every history of an inquiry.
use Rattle.std.specs.Prelude.{◌≡◌, ◌⊎◌, ℕ, Bool, true, false, List, [], ◌∷◌, filter, length, slice_get, Option, None, Some, is_some}
use Rattle.zoom_questions.specs.declared.question.Question.{Question}
use Rattle.zoom_questions.specs.declared.question.MetaSettings.{MetaSettings}
use Rattle.zoom_pool.specs.States.{is_stopped}
use Rattle.zoom_pool.specs.Transcripts as pool
use Rattle.zoom_pool.specs.Transcripts.{Transcript, IsTranscript, past_of, state_at}
use Rattle.zoom_pool.specs.Driving.{events_of}
use Rattle.zoom_pool.specs.Steering.{Errand, errand_of}
use Rattle.zoom_pool.specs.History.{History, events_on}
use Rattle.zoom_pool.specs.Metas.{MetaLinks, MetaAfter, settings_of}
use Rattle.zoom_clock.specs.declared.signal.Ending.{Ending}
use Rattle.zoom_clock.specs.declared.signal.Signal.{Signal}
use Rattle.zoom_clock.specs.declared.signal.Signal.TheVariants as signals
use Rattle.zoom_clock.specs.declared.signal.Condition.{Condition}
use Rattle.zoom_clock.specs.declared.stage.Stage.TheVariants.{NotChosen, Over}
use Rattle.zoom_clock.specs.Courses as clock
use Rattle.zoom_clock.specs.Courses.{course_after}
use Rattle.zoom_asking.specs.declared.asking.Asking.{Asking}
use Rattle.zoom_asking.specs.declared.inquiry.AskedHost.{AskedHost}
use Rattle.zoom_asking.specs.declared.inquiry.TheConstants.{MOST_PIECES}
use Rattle.zoom_asking.specs.Inquiries.{Inquiry, Entry, GivenUp, Event, Told, Came, Noted, is_at_once, limits_of, own}
use Rattle.zoom_asking.specs.Hosts.{AskedConnection, AskedAfter}
use Rattle.zoom_asking.specs.Askings.{AllAskedAfter, AskingAfter, AreOver}
use Rattle.zoom_asking.specs.Asked.{IsAskedBy}

-- what is asked on connection c, and of whom
pub record AskedOn (i : Inquiry) (c : ℕ) : Type 0 where
  pub question : Question
  pub host : Option AskedHost
  pub has_question : slice_get i.questions c ≡ Some question
  pub has_host : slice_get i.hosts c ≡ Some host

-- ---- each connection has a history of its own

-- at once, what became of a connection is a function of what was told of it
abbrev pub OwnLaw : Type 0
OwnLaw =
    (i : Inquiry) (history : List Entry) (hosts : List AskedConnection) (c : ℕ) (h : AskedConnection)
    (asks : AskedOn i c)
    → is_at_once i.manner ≡ true → AllAskedAfter i history hosts → slice_get hosts c ≡ Some h
    → AskedAfter i asks.host asks.question (own c i.start history) h

-- octets may tell the clock nothing: of a connection that is not talked with
abbrev pub IsCame : Told → Type 0
IsCame (Came piece) = Unit {0}
IsCame (Noted what) = ⊥

abbrev pub IsSilent : Event → Type 0
IsSilent e = IsCame e.told

-- a signal is told as it is; of octets, how the connection stood after them
abbrev pub IsSignalOf : Told → Signal → Type 0
IsSignalOf (Came piece) what = (condition : Condition) × (what ≡ signals.Octets condition)
IsSignalOf (Noted told) what = what ≡ told

-- this told the clock so
abbrev pub IsSignal : Event → clock.Event → Type 0
IsSignal e x = (x.at ≡ e.at) × IsSignalOf e.told x.what

-- the signals that the clock had: each that was noted, and for octets that came on a connection that was talked with,
-- how it stood after them
abbrev pub AreSignals : List Event → List clock.Event → Type 0
AreSignals [] [] = Unit {0}
AreSignals [] (x ∷ xs) = ⊥
AreSignals (e ∷ es) [] = IsSilent e × AreSignals es []
AreSignals (e ∷ es) (x ∷ xs) = (IsSignal e x × AreSignals es xs) ⊎ (IsSilent e × AreSignals es (x ∷ xs))

-- the course of a connection is that of the signals, by the rules of the clock: its laws hold
abbrev pub CourseLaw : Type 0
CourseLaw =
    (i : Inquiry) (host : Option AskedHost) (question : Question) (es : List Event) (h : AskedConnection)
    → AskedAfter i host question es h
    → (xs : List clock.Event) × AreSignals es xs
    × (h.course ≡ course_after (limits_of i.manner i.total host) (is_some host) i.start (is_at_once i.manner) xs)

-- ---- hosts do not touch one another

-- two transcripts that amount to the same; they may differ in calls that the origin refused
pub record AreAlike (e : Errand) (p q : Transcript) : Type 0 where
  pub settings : p.settings ≡ q.settings
  pub stream : p.stream ≡ q.stream
  pub taken : p.taken ≡ q.taken
  pub past : past_of p ≡ past_of q
  pub plan : events_of e.ask p.settings p.log ≡ events_of e.ask q.settings q.log
  pub ended : p.ended ≡ q.ended
  pub stop : p.stop ≡ q.stop

-- events that amount to the same, for this question
abbrev pub AmountToSame : MetaSettings → Question → List pool.Event → List pool.Event → Type 0
AmountToSame s question one other =
    (p q : Transcript) → IsTranscript (settings_of s) one p → IsTranscript (settings_of s) other q
    → AreAlike (errand_of s question) p q

-- the same became of two connections: their courses, what was to be done for them, and what their events amount to
pub record SameHost (s : MetaSettings) (question : Question) (one other : AskedConnection) : Type 0 where
  pub course : one.course ≡ other.course
  pub tasks : one.tasks ≡ other.tasks
  pub events : AmountToSame s question one.events other.events

-- two inquiries agree on connection c: the same question to the same host, in the same time
pub record AgreeOn (c : ℕ) (i j : Inquiry) : Type 0 where
  pub question : slice_get i.questions c ≡ slice_get j.questions c
  pub host : slice_get i.hosts c ≡ slice_get j.hosts c
  pub settings : i.settings ≡ j.settings
  pub total : i.total ≡ j.total
  pub start : i.start ≡ j.start
  pub first : is_at_once i.manner ≡ true
  pub second : is_at_once j.manner ≡ true

-- at once, the same becomes of a connection of which the same was told, whatever was told of others
abbrev pub IsolationLaw : Type 0
IsolationLaw =
    (c : ℕ) (i j : Inquiry) (g h : List Entry) (one other : Asking) (x y : AskedConnection) (asks : AskedOn i c)
    → AgreeOn c i j → own c i.start g ≡ own c j.start h
    → (a : AskingAfter i g one) → (b : AskingAfter j h other)
    → slice_get a.hosts c ≡ Some x → slice_get b.hosts c ≡ Some y → SameHost i.settings asks.question x y

-- ---- how connections end

-- how a connection stands is told only of octets that came
abbrev pub IsReported : Told → Type 0
IsReported (Came piece) = Unit {0}
IsReported (Noted (signals.Octets condition)) = ⊥
IsReported (Noted what) = Unit {0}

abbrev pub AreReported : List Event → Type 0
AreReported [] = Unit {0}
AreReported (e ∷ es) = IsReported e.told × AreReported es

-- a connection with these events is Closed or Failed
abbrev pub HasEnded : MetaSettings → List pool.Event → Type 0
HasEnded s events = (p : Transcript) → IsTranscript (settings_of s) events p → is_stopped (state_at p) ≡ true

-- a connection that is over is Closed or Failed; one that was not chosen has no events
pub record EndLaws : Type 0 where
  pub over : (i : Inquiry) (host : Option AskedHost) (question : Question) (es : List Event) (h : AskedConnection)
      (ending : Ending)
      → AreReported es → AskedAfter i host question es h → h.course.stage ≡ Over ending → HasEnded i.settings h.events
  pub not_chosen : (i : Inquiry) (question : Question) (es : List Event) (h : AskedConnection)
      → AskedAfter i None question es h → (h.events ≡ []) × (h.course.stage ≡ NotChosen)

-- ---- in any manner

-- turns are not reported, but given
abbrev pub is_no_turn : Told → Bool
is_no_turn (Noted signals.Turn) = false
is_no_turn _ = true

abbrev pub but_turns : List Event → List Event
but_turns es = filter (λ (e : Event). is_no_turn e.told) es

-- in any manner, a connection has a history of its own: what was told of it, and that its turn has come
abbrev pub TurnsLaw : Type 0
TurnsLaw =
    (i : Inquiry) (history : List Entry) (hosts : List AskedConnection) (c : ℕ) (h : AskedConnection)
    (asks : AskedOn i c)
    → AllAskedAfter i history hosts → slice_get hosts c ≡ Some h
    → (es : List Event) × AskedAfter i asks.host asks.question es h
    × (but_turns es ≡ but_turns (own c i.start history))

-- a connection that is over is Closed or Failed; one that was not chosen has no events
pub record AskedLaws : Type 0 where
  pub turns : TurnsLaw
  pub over : (i : Inquiry) (history : List Entry) (hosts : List AskedConnection) (c : ℕ) (h : AskedConnection)
      (ending : Ending)
      → AskedOn i c → AllAskedAfter i history hosts → AreReported (own c i.start history)
      → slice_get hosts c ≡ Some h → h.course.stage ≡ Over ending → HasEnded i.settings h.events
  pub not_chosen : (i : Inquiry) (history : List Entry) (hosts : List AskedConnection) (c : ℕ) (h : AskedConnection)
      (asks : AskedOn i c)
      → asks.host ≡ None → AllAskedAfter i history hosts → slice_get hosts c ≡ Some h
      → (h.events ≡ []) × (h.course.stage ≡ NotChosen)

-- a connection that was chosen is Closed or Failed; one that was not chosen has no events
abbrev pub HasEndedIf : Option AskedHost → MetaSettings → List pool.Event → Type 0
HasEndedIf None s events = events ≡ []
HasEndedIf (Some host) s events = HasEnded s events

-- once each connection is over, some history of the pool left what is known, and in it each has ended so
abbrev pub AskedEndLaw : Type 0
AskedEndLaw =
    (i : Inquiry) (history : List Entry) (meta : MetaLinks) → IsAskedBy i history meta
    → (h : History) × MetaAfter i.questions i.settings h meta
    × ((c : ℕ) (asks : AskedOn i c) → HasEndedIf asks.host i.settings (events_on c h))

-- after all were given up, each connection is over, or was not chosen, if each has a question
abbrev pub GivenUpLaw : Type 0
GivenUpLaw =
    (i : Inquiry) (history : List Entry) (hosts : List AskedConnection) (at : ℕ)
    → length hosts ≡ length i.questions → AllAskedAfter i (GivenUp at ∷ history) hosts → AreOver true hosts

-- in order, a connection may have a million pieces
abbrev pub PiecesLaw : Type 0
PiecesLaw = MOST_PIECES ≡ 1000000
