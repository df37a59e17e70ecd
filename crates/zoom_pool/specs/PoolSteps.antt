-- What a pool's calls say, each for every history that can have left the pool, whichever of its Takes found no memory.
use Rattle.std.specs.Prelude.{◌≡◌, ◌↔◌, ℕ, ◌<◌, Bool, true, false, List, ◌∷◌, ◌++◌, length, Result}
use Rattle.zorigin.specs.declared.settings.Settings.{Settings}
use Rattle.zorigin.specs.declared.refusal.CallRefused.{CallRefused}
use Rattle.zorigin.specs.Standings.{Call}
use Rattle.zorigin.specs.Log.{IsMadeCall}
use Rattle.zoom_pool.specs.declared.state.State.{State}
use Rattle.zoom_pool.specs.declared.step.Step.{Step}
use Rattle.zoom_pool.specs.declared.step.Outcome.{Outcome}
use Rattle.zoom_pool.specs.declared.step.TakeError.{TakeError}
use Rattle.zoom_pool.specs.States.{is_stopped}
use Rattle.zoom_pool.specs.Inputs.{Input}
use Rattle.zoom_pool.specs.Transcripts.{Event, Took, NextInput, connection_call_result, request_octets, take_result, outcome_of, state_at, past_of, given, is_lost, sent, HasFoundMemory}
use Rattle.zoom_pool.specs.Links.{Links, waiting_at}
use Rattle.zoom_pool.specs.History.{History, events_on, AfterPartial, partial_after}

-- each history that can have left `old`, with this event of `c` added, can have left `new`
abbrev pub Recorded : ℕ → Event → Links → Links → Type 0
Recorded c event old new =
    (settings : Settings) (partial : List ℕ) (h : History)
    → AfterPartial settings partial h old → AfterPartial settings partial ((c, event) ∷ h) new

-- this is the state of connection `c`
abbrev pub IsStateAt : ℕ → Links → State → Type 0
IsStateAt c pool state =
    (settings : Settings) (partial : List ℕ) (h : History) (a : AfterPartial settings partial h pool)
    → state ≡ state_at (a.transcript c)

-- the result of a call, unless no memory is found
abbrev pub IsCallResult : ℕ → Call → Links → Result (Unit {0}) CallRefused → Type 0
IsCallResult c call pool result =
    (settings : Settings) (partial : List ℕ) (h : History) (a : AfterPartial settings partial h pool)
    → IsMadeCall result → result ≡ connection_call_result (a.transcript c) call

-- after a call that the origin admitted, its request waits behind the octets that waited before
abbrev pub IsRequestPut : ℕ → Call → Links → Links → Type 0
IsRequestPut c call old new =
    (settings : Settings) (partial : List ℕ) (h : History) (a : AfterPartial settings partial h old)
    → waiting_at new c ≡ waiting_at old c ++ request_octets (a.transcript c) call

-- the result of a Take by its input, unless no memory is found
abbrev pub IsTakeResult : ℕ → Links → Result Step TakeError → Type 0
IsTakeResult c pool result =
    (settings : Settings) (partial : List ℕ) (h : History) (a : AfterPartial settings partial h pool)
    → HasFoundMemory result
    → (input : Input) × NextInput (a.transcript c) input × (result ≡ take_result (a.transcript c) input)

-- the same, with what the origin took
abbrev pub IsTakeOutcome : ℕ → Links → Result Outcome TakeError → Type 0
IsTakeOutcome c pool result =
    (settings : Settings) (partial : List ℕ) (h : History) (a : AfterPartial settings partial h pool)
    → HasFoundMemory result
    → (input : Input) × NextInput (a.transcript c) input × (result ≡ outcome_of (a.transcript c) input)

-- a Take of `c` is added to each history; it completes an earlier Take of `c` that found no memory
abbrev pub TakeStep : ℕ → Links → Links → Type 0
TakeStep c old new =
    (settings : Settings) (partial : List ℕ) (h : History) (a : AfterPartial settings partial h old)
    → AfterPartial settings (partial_after c (a.transcript c) partial) ((c, Took) ∷ h) new

-- a Take of `c` found no memory: each history is unchanged, and of the facts that the Take adds some may be known
abbrev pub IncompleteTake : ℕ → Links → Links → Type 0
IncompleteTake c old new =
    (settings : Settings) (partial : List ℕ) (h : History)
    → AfterPartial settings partial h old → AfterPartial settings (c ∷ partial) h new

-- all octets sent on the connection were handed out, unless a write failed
abbrev pub HasHandedOutAll : ℕ → Links → Type 0
HasHandedOutAll c pool =
    (settings : Settings) (partial : List ℕ) (h : History) (a : AfterPartial settings partial h pool)
    → is_lost (events_on c h) ≡ false → given (events_on c h) ≡ sent (past_of (a.transcript c))

-- the result says whether each connection is Closed or Failed
abbrev pub IsPoolFinished : Links → Bool → Type 0
IsPoolFinished pool result =
    (settings : Settings) (partial : List ℕ) (h : History) (a : AfterPartial settings partial h pool)
    → (result ≡ true) ↔ ((c : ℕ) → c < length pool.connections → is_stopped (state_at (a.transcript c)) ≡ true)
