-- A connection of an inquiry and a target that exchange octets with each other alone, whatever else is told of the
-- connection and whenever (Z39.50-2003, 3.2).
use Rattle.std.specs.Prelude.{◌≡◌, ◌↔◌, ℕ, List, [], ◌∷◌, ◌++◌, slice_get, Some, Contains, Option}
use Rattle.zknow.specs.declared.fact.Fact.{Fact}
use Rattle.zoom_questions.specs.declared.question.Question.{Question}
use Rattle.zoom_pool.specs.declared.state.State.TheVariants as states
use Rattle.zoom_pool.specs.Transcripts.{Transcript, IsTranscript, fed, given, state_at}
use Rattle.zoom_pool.specs.History.{facts_at}
use Rattle.zoom_pool.specs.Metas.{settings_of}
use Rattle.zoom_pool.specs.Hosts.{HostState as ServingEnd, HostAfter as ServingEndAfter, Holdings, HostEvent, HostFed, Released, HostHandedOut, handed_out}
use Rattle.zoom_clock.specs.declared.signal.Signal.{Signal}
use Rattle.zoom_clock.specs.declared.signal.Ending.TheVariants as endings
use Rattle.zoom_clock.specs.declared.stage.Stage.TheVariants.{Talking, Over}
use Rattle.zoom_clock.specs.declared.talk.Talk.{Talk}
use Rattle.zoom_asking.specs.declared.asking.Asking.{Asking}
use Rattle.zoom_asking.specs.declared.inquiry.AskedHost.{AskedHost}
use Rattle.zoom_asking.specs.Inquiries.{Inquiry, Entry, Event, Came, Noted}
use Rattle.zoom_asking.specs.Hosts.{AskedConnection, AskedAfter, IsTold}
use Rattle.zoom_asking.specs.Askings.{AskingAfter}
use Rattle.zoom_asking.specs.Laws.{IsReported}
use Rattle.zoom_laws.specs.Catalogue.{CanAsk, HasFittingRecords, catalogue}
use Rattle.zoom_laws.specs.Exchange.{fed_to}

-- What was told of a connection, what became of it, what happened at the target, and how that stands. The target was
-- fed what the connection had handed out, and the octets that came were those that the target had handed out, in
-- pieces of any size. Its replies were released in any order.
pub data IsServed (i : Inquiry) (host : Option AskedHost) (question : Question) (holdings : Holdings)
    : List Event → AskedConnection → List HostEvent → ServingEnd → Type 0 where
  begins : (h : AskedConnection) (end : ServingEnd) → AskedAfter i host question [] h → ServingEndAfter holdings [] end
      → IsServed i host question holdings [] h [] end
  feeds : (es : List Event) (h : AskedConnection) (xs : List HostEvent) (end later : ServingEnd) (piece rest : List ℕ)
      → IsServed i host question holdings es h xs end → given h.events ≡ fed_to xs ++ piece ++ rest
      → ServingEndAfter holdings (HostFed piece ∷ xs) later
      → IsServed i host question holdings es h (HostFed piece ∷ xs) later
  releases : (es : List Event) (h : AskedConnection) (xs : List HostEvent) (end later : ServingEnd) (k : ℕ)
      → IsServed i host question holdings es h xs end → ServingEndAfter holdings (Released k ∷ xs) later
      → IsServed i host question holdings es h (Released k ∷ xs) later
  hands : (es : List Event) (h : AskedConnection) (xs : List HostEvent) (end later : ServingEnd)
      → IsServed i host question holdings es h xs end → ServingEndAfter holdings (HostHandedOut end.waiting ∷ xs) later
      → IsServed i host question holdings es h (HostHandedOut end.waiting ∷ xs) later
  comes : (es : List Event) (h g : AskedConnection) (xs : List HostEvent) (end : ServingEnd) (at : ℕ)
      (piece rest : List ℕ)
      → IsServed i host question holdings es h xs end → handed_out xs ≡ fed h.events ++ piece ++ rest
      → IsTold i.settings question at (Came piece) h g
      → IsServed i host question holdings (record { at = at; told = Came piece } ∷ es) g xs end
  tells : (es : List Event) (h g : AskedConnection) (xs : List HostEvent) (end : ServingEnd) (at : ℕ) (what : Signal)
      → IsServed i host question holdings es h xs end → IsReported (Noted what)
      → IsTold i.settings question at (Noted what) h g
      → IsServed i host question holdings (record { at = at; told = Noted what } ∷ es) g xs end

-- of a connection whose messages have ended it, exactly the facts are known that its question brings from the target
abbrev pub AnsweredLaw : Type 0
AnsweredLaw =
    (i : Inquiry) (history : List Entry) (asking : Asking) (c : ℕ) (question : Question) (host : Option AskedHost)
    (es : List Event) (h : AskedConnection) (xs : List HostEvent) (end : ServingEnd) (holdings : Holdings)
    (p : Transcript) (after : AskingAfter i history asking)
    → slice_get i.questions c ≡ Some question → slice_get after.hosts c ≡ Some h
    → IsServed i host question holdings es h xs end → h.course.stage ≡ Over endings.Finished
    → IsTranscript (settings_of i.settings) h.events p → CanAsk question holdings.settings
    → HasFittingRecords question holdings.databases holdings.settings
    → (f : Fact) → Contains (facts_at c p) f ↔ Contains (catalogue c question holdings.databases holdings.settings) f

-- of a connection that is Closed, exactly the facts are known that its question brings from the target, also if it took
-- no Close in return for its own
abbrev pub ClosedLaw : Type 0
ClosedLaw =
    (i : Inquiry) (history : List Entry) (asking : Asking) (c : ℕ) (question : Question) (host : Option AskedHost)
    (es : List Event) (h : AskedConnection) (xs : List HostEvent) (end : ServingEnd) (holdings : Holdings)
    (p : Transcript) (after : AskingAfter i history asking)
    → slice_get i.questions c ≡ Some question → slice_get after.hosts c ≡ Some h
    → IsServed i host question holdings es h xs end → state_at p ≡ states.Closed
    → IsTranscript (settings_of i.settings) h.events p → CanAsk question holdings.settings
    → HasFittingRecords question holdings.databases holdings.settings
    → (f : Fact) → Contains (facts_at c p) f ↔ Contains (catalogue c question holdings.databases holdings.settings) f

-- once nothing is left to be carried, taken or released, no connection is talked with any more
abbrev pub DeliveredLaw : Type 0
DeliveredLaw =
    (i : Inquiry) (history : List Entry) (asking : Asking) (c : ℕ) (question : Question) (host : Option AskedHost)
    (es : List Event) (h : AskedConnection) (xs : List HostEvent) (end : ServingEnd) (holdings : Holdings) (t : Talk)
    (after : AskingAfter i history asking)
    → slice_get i.questions c ≡ Some question → slice_get after.hosts c ≡ Some h
    → IsServed i host question holdings es h xs end → given h.events ≡ fed_to xs → handed_out xs ≡ fed h.events
    → end.waiting ≡ [] → end.target.pending ≡ [] → h.course.stage ≡ Talking t → ⊥

-- a host that answers in time is answered for exactly
pub record ServedLaws : Type 0 where
  pub answered : AnsweredLaw
  pub closed : ClosedLaw
  pub delivered : DeliveredLaw
