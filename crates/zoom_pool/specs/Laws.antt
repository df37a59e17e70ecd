-- Laws of histories: what events amount to, when a Take returns Nothing, and that the order of events does not
-- matter.
use Rattle.std.specs.Prelude.{◌≡◌, ◌↔◌, ℕ, true, false, List, None, Ok, Contains}
use Rattle.zber.specs.Unfinished.{IsUnfinished}
use Rattle.zapdu.specs.declared.apdu.Apdu.{Apdu}
use Rattle.zapdu.specs.declared.apdu.Apdu.TheVariants as apdus
use Rattle.zber.specs.declared.text.Mode.{Mode}
use Rattle.zknow.specs.declared.fact.Fact.{Fact}
use Rattle.zknow.specs.List.Listing.{listing}
use Rattle.zorigin.specs.declared.settings.Settings.{Settings}
use Rattle.zorigin.specs.declared.answer.Answer.{Answer}
use Rattle.zoom_pool.specs.declared.step.Step.TheVariants as steps
use Rattle.zoom_pool.specs.States.{is_stopped}
use Rattle.zoom_pool.specs.Inputs.{Input, IsBehind}
use Rattle.zber.specs.declared.framer.TheConstants.{MESSAGE_LIMIT}
use Rattle.zoom_pool.specs.Transcripts.{Event, Transcript, IsTranscript, NextInput, state_at, take_result}
use Rattle.zoom_pool.specs.Links.{Links}
use Rattle.zoom_pool.specs.History.{History, accepted, IsKnown, After, AfterPartial}

-- the events of a connection have one transcript
abbrev pub OneTranscript : Type 0
OneTranscript =
    (settings : Settings) (events : List Event) (p q : Transcript)
    → IsTranscript settings events p → IsTranscript settings events q → p ≡ q

-- a Take has one input
abbrev pub OneInput : Type 0
OneInput = (p : Transcript) (m n : Input) → NextInput p m → NextInput p n → m ≡ n

-- a connection is neither stopped nor ended, and the octets not yet taken hold no whole message and show no fault
pub record IsWaiting (p : Transcript) : Type 0 where
  pub is_going : is_stopped (state_at p) ≡ false
  pub more : p.ended ≡ false
  pub rest : List ℕ
  pub behind : IsBehind p.stream p.taken rest
  pub unfinished : IsUnfinished MESSAGE_LIMIT rest

-- when a Take returns Nothing, and when it returns Stopped
pub record TakeLaws : Type 0 where
  pub nothing : (p : Transcript) (input : Input) → NextInput p input → (take_result p input ≡ Ok steps.Nothing)
      ↔ IsWaiting p
  pub stopped : (p : Transcript) (input : Input)
      → NextInput p input → (take_result p input ≡ Ok steps.Stopped) ↔ (is_stopped (state_at p) ≡ true)

-- if a history can have left a pool after Takes of some connections that found no memory, it can also have left it
-- after such Takes of those and of others
abbrev pub UpToLaw : Type 0
UpToLaw =
    (settings : Settings) (some more : List ℕ) (h : History) (pool : Links)
    → ((c : ℕ) → Contains some c → Contains more c) → AfterPartial settings some h pool
    → AfterPartial settings more h pool

-- if no Take is left that found no memory, the facts known are exactly those of the accepted replies
abbrev pub ExactLaw : Type 0
ExactLaw =
    (settings : Settings) (h : History) (pool : Links) (a : After settings h pool) (q : Fact)
    → Contains pool.knowledge q ↔ IsKnown a.transcript q

-- an APDU without its reference id
abbrev pub plain : Apdu → Apdu
plain (apdus.InitRequest v) = apdus.InitRequest (record v { reference_id = None })
plain (apdus.InitResponse v) = apdus.InitResponse (record v { reference_id = None })
plain (apdus.SearchRequest v) = apdus.SearchRequest (record v { reference_id = None })
plain (apdus.SearchResponse v) = apdus.SearchResponse (record v { reference_id = None })
plain (apdus.PresentRequest v) = apdus.PresentRequest (record v { reference_id = None })
plain (apdus.PresentResponse v) = apdus.PresentResponse (record v { reference_id = None })
plain (apdus.Close v) = apdus.Close (record v { reference_id = None })

-- an answer whose reply has no reference id
abbrev pub plain_answer : Answer → Answer
plain_answer answer = record { asked = answer.asked; reply = plain answer.reply }

-- each answer of the first list is in the second, apart from the reference id of its reply
abbrev pub AreAmong : List Answer → List Answer → Type 0
AreAmong xs ys = (x : Answer) → Contains xs x → (y : Answer) × Contains ys y × (plain_answer x ≡ plain_answer y)

-- the accepted replies are the same, apart from their reference ids
abbrev pub AreSameAccepted : (ℕ → Transcript) → (ℕ → Transcript) → Type 0
AreSameAccepted a b = (c : ℕ) → AreAmong (accepted (a c)) (accepted (b c)) × AreAmong (accepted (b c)) (accepted (a c))

-- the same facts are known, and the printed lists are equal
pub record SameKnowledge (one other : Links) : Type 0 where
  pub known : one.knowledge ≡ other.knowledge
  pub printed : (names : List (List ℕ)) (mode : Mode)
      → listing names mode one.knowledge ≡ listing names mode other.knowledge

-- histories with the same accepted replies leave the same knowledge; the order of events and the cutting of
-- streams do not matter
abbrev pub OrderLaw : Type 0
OrderLaw =
    (settings others : Settings) (g h : History) (one other : Links)
    (a : After settings g one) (b : After others h other) → AreSameAccepted a.transcript b.transcript
    → SameKnowledge one other
