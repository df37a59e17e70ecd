-- What a framer answers, from what was found.
use Rattle.std.proofs.Common.{◌≡◌, ℕ, ◌+◌, ◌<◌, ◌≤◌, ◌^◌, ◌-◌, ◌⊎◌, inr, Bool, true, subst, List, [], ◌++◌, length, Option, Some, None, refl, sym, ap, ◌∙◌, arith, length-append}
use Rattle.zber.specs.declared.fault.FaultKind.{FaultKind}
use Rattle.zber.specs.Elements.{Element}
use Rattle.zber.specs.Spelling.{IsMessage, HasFirstMessage}
use Rattle.zber.specs.Shown.{HasFault}
use Rattle.zber.specs.Unfinished.{IsUnfinished}
use Rattle.zber.specs.Stream.{Stream, Counted}
use Rattle.zber.specs.declared.scan.Scan.{Scan}
use Rattle.zber.specs.Feeds.{IsCounted}
use Rattle.zber.proofs.CountLemmas.{counted_least}
use Rattle.zber.proofs.ScanSteps.{spells_some}

abbrev pub state : ℕ → List ℕ → Option (FaultKind × ℕ) → Bool → Stream
state limit octets fault asked = record { limit = limit; octets = octets; fault = fault; asked = asked }

nothing_begins : (limit : ℕ) → IsUnfinished limit []
nothing_begins limit = record {
  no_message = λ e rest b. absurd (omega (arith, ap length b.cut, spells_some b.is.spelled, length-append b.message rest));
  no_fault = λ k at s. absurd (omega (arith, s.some));
}

pub empty_answer : (limit : ℕ) (m o : List ℕ) (f : Option (FaultKind × ℕ)) (a : Bool) (old : Stream) → state limit (m ++ o) f a ≡ old → f ≡ None → m ≡ [] → o ≡ []
    → (old.fault ≡ None) × IsUnfinished old.limit old.octets × (state limit (m ++ o) f true ≡ record old { asked = true })
empty_answer limit m o f a old was none e g = rw (← was) (none, rw (e, g) (nothing_begins limit), refl)

pub front_answer : (limit : ℕ) (xs ys : List ℕ) (f : Option (FaultKind × ℕ)) (a : Bool) (old : Stream) → state limit xs f a ≡ old → f ≡ None → ys ≡ xs → IsUnfinished limit ys
    → (old.fault ≡ None) × IsUnfinished old.limit old.octets × (state limit ys f true ≡ record old { asked = true })
front_answer limit xs ys f a old was none e s =
    rw (← was) (none, subst (IsUnfinished limit) e s, ap (λ z. state limit z f true) e)

pub fault_answer : (limit : ℕ) (xs ys : List ℕ) (f : Option (FaultKind × ℕ)) (a : Bool) (old : Stream) (k : FaultKind) (at : ℕ) → state limit xs f a ≡ old → f ≡ None → ys ≡ xs → HasFault limit ys k at
    → (state limit ys (Some (k, at)) a ≡ record old { fault = Some (k, at) }) × ((old.fault ≡ Some (k, at)) ⊎ ((old.fault ≡ None) × HasFault old.limit old.octets k at))
fault_answer limit xs ys f a old k at was none e s =
    rw (← was) (ap (λ z. state limit z (Some (k, at)) a) e, inr (none, subst (λ z. HasFault limit z k at) e s))

pub message_answer : (limit : ℕ) (xs m o n : List ℕ) (f : Option (FaultKind × ℕ)) (a : Bool) (old : Stream) (e : Element) → state limit xs f a ≡ old → f ≡ None → m ++ o ≡ xs → IsMessage limit e m → n ≡ []
    → (old.fault ≡ None) × HasFirstMessage old.limit old.octets e (n ++ o) × (state limit (n ++ o) f a ≡ record old { octets = n ++ o })
message_answer limit xs m o n f a old e was none same is empty =
    rw (← was) (none, record { message = m; is = is; cut = sym same ∙ ap (λ z. m ++ (z ++ o)) (sym empty) }, refl)

pub least_is : (limit : ℕ) (xs : List ℕ) (f : Option (FaultKind × ℕ)) (a : Bool) (examined fed skipped : ℕ) (s : Scan) (v : Counted) → record { stream = state limit xs f a; examined = examined; fed = fed; skipped = skipped } ≡ v
    → IsCounted (length xs) s f examined fed skipped → (f ≡ None → s.contents ≤ s.at) → v.stream.fault ≡ None → v.fed < 2 ^ 64 - 1 → v.fed ≤ examined + v.skipped + length v.stream.octets
least_is limit xs f a examined fed skipped s v was counted p = subst (λ (z : Counted). z.stream.fault ≡ None → z.fed < 2 ^ 64 - 1 → z.fed ≤ examined + z.skipped + length z.stream.octets) was (λ n m. counted_least counted (p n) n m)
