-- The state of a connection that nothing stopped.
use Rattle.std.proofs.Common.{◌≡◌, ◌⊎◌, inl, inr, ℕ, arith, Bool, true, false, cond, not, List, [], ◌∷◌, filter, Option, None, Some, refl, sym, ap, subst, ◌∙◌, true≢false}
use Rattle.std.specs.Prelude.{◌||◌}
use Rattle.std.specs.List.{list_any, find}
use Rattle.std.proofs.lemmas.Bool.{or_right}
use Rattle.std.proofs.lemmas.Bool.Decides.{nat_tests}
use Rattle.zapdu.specs.declared.apdu.Apdu.{Apdu}
use Rattle.zapdu.specs.declared.apdu.Apdu.TheVariants as apdus
use Rattle.zapdu.specs.declared.productions.init_response.InitResponse.{InitResponse}
use Rattle.zapdu.specs.declared.productions.close.Close.{Close as CloseApdu}
use Rattle.zplan.specs.Positions.{IsIn}
use Rattle.zorigin.specs.declared.answer.Answer.{Answer}
use Rattle.zorigin.specs.declared.answer.Asked.{Asked}
use Rattle.zorigin.specs.declared.answer.What.{What}
use Rattle.zorigin.specs.declared.answer.What.TheVariants as what
use Rattle.zorigin.specs.declared.refusal.Refused.{Refused}
use Rattle.zorigin.specs.declared.state.State.{State as OriginState}
use Rattle.zorigin.specs.declared.state.State.TheVariants as origins
use Rattle.zorigin.specs.Standings.{Call, Init, Search, Present, Close, ready}
use Rattle.zorigin.specs.Changes.{options_in_force}
use Rattle.zorigin.specs.Fitting.{IsFitReply}
use Rattle.zorigin.specs.Log.{state_from, state_by, closing_state, is_opening, is_init, is_init_call, is_answer_to}
use Rattle.zoom_pool.specs.declared.state.State.TheVariants as states
use Rattle.zoom_pool.specs.States.{state_as, is_stopped}
use Rattle.zoom_pool.specs.Steering.{is_rejection}

no_some : {A : Type 0} {x : A} → Some x ≡ None → ⊥
no_some e = cc

-- ---- a connection that is over

-- a response to Init that rejects the association, or another APDU
abbrev pub Rejects : Apdu → Type 0
Rejects (apdus.InitResponse v) = v.result ≡ false
Rejects _ = Unit {0}

stops_by : (closing : Bool) (reply : Apdu) → is_stopped (state_as (closing_state closing (state_by reply))) ≡ true
    → Rejects reply
stops_by closing (apdus.InitRequest v) s = tt
stops_by closing (apdus.InitResponse v) s =
    elim v.result as (λ b. is_stopped
    (state_as (closing_state closing (cond b (ready (options_in_force v)) origins.Closed))) ≡ true → b ≡ false) [
      | true ↦ elim closing as (λ c. is_stopped (state_as (closing_state c (ready (options_in_force v)))) ≡ true
          → true ≡ false) [
            | true ↦ λ e. sym e
            | false ↦ λ e. sym e
          ]
      | false ↦ λ e. refl
    ] s
stops_by closing (apdus.SearchRequest v) s = tt
stops_by closing (apdus.SearchResponse v) s = tt
stops_by closing (apdus.PresentRequest v) s = tt
stops_by closing (apdus.PresentResponse v) s = tt
stops_by closing (apdus.Close v) s = tt

-- it was closed, or its Init was answered with a rejection
pub stopped_so : (fault : Option Refused) (closed closing begun : Bool) (answer : Option Answer) → fault ≡ None
    → is_stopped (state_as (state_from fault closed closing begun answer)) ≡ true
    → (closed ≡ true) ⊎ ((a : Answer) × (answer ≡ Some a) × Rejects a.reply)
stopped_so (Some reason) closed closing begun answer e s = absurd (no_some e)
stopped_so None true closing begun answer e s = inl refl
stopped_so None false closing true None e s = absurd (true≢false (sym s))
stopped_so None false closing false None e s = absurd (true≢false (sym s))
stopped_so None false closing begun (Some a) e s = inr (a, refl, stops_by closing a.reply s)

-- a response to Init that rejects the association
pub rejecting : (w : What) (reply : Apdu) → is_init w ≡ true → IsFitReply w reply → Rejects reply
    → (v : InitResponse) × (reply ≡ apdus.InitResponse v) × (v.result ≡ false)
rejecting what.Init (apdus.InitRequest v) i f r = absurd f
rejecting what.Init (apdus.InitResponse v) i f r = (v, refl, r)
rejecting what.Init (apdus.SearchRequest v) i f r = absurd f
rejecting what.Init (apdus.SearchResponse v) i f r = absurd f
rejecting what.Init (apdus.PresentRequest v) i f r = absurd f
rejecting what.Init (apdus.PresentResponse v) i f r = absurd f
rejecting what.Init (apdus.Close v) i f r = absurd f
rejecting what.Search reply i f r = absurd (true≢false (sym i))
rejecting (what.Present ranges) reply i f r = absurd (true≢false (sym i))

pub rejected : (w : What) (reply : Apdu) → is_init w ≡ true → IsFitReply w reply → Rejects reply → is_rejection reply ≡ true
rejected w reply i f r =
    let x = rejecting w reply i f r in
    subst (λ z. is_rejection z ≡ true) (sym x.1) (ap not x.2)

-- a Close fits no operation
pub fits_no_close : (w : What) (reply : Apdu) → IsFitReply w reply → (c : CloseApdu) → reply ≡ apdus.Close c → ⊥
fits_no_close w reply f c e = by w (subst (λ z. IsFitReply w z) e f)
  where
    by : (u : What) → IsFitReply u (apdus.Close c) → ⊥
    by what.Init h = h
    by what.Search h = h
    by (what.Present ranges) h = h

-- ---- a connection that waits

pub closed_so : (fault : Option Refused) (closed closing begun : Bool) (answer : Option Answer) → closed ≡ true
    → fault ≡ None → is_stopped (state_as (state_from fault closed closing begun answer)) ≡ true
closed_so (Some reason) closed closing begun answer c e = absurd (no_some e)
closed_so None true closing begun answer c e = refl
closed_so None false closing begun answer c e = absurd (true≢false (sym c))

pub as_initialising : (s : OriginState) → state_as s ≡ states.Initialising → s ≡ origins.Initialising
as_initialising origins.Fresh e = absurd (cc)
as_initialising origins.Initialising e = refl
as_initialising (origins.Ready v3 concurrent named) e = absurd (cc)
as_initialising origins.Closing e = absurd (cc)
as_initialising origins.Closed e = absurd (cc)
as_initialising (origins.Failed reason) e = absurd (cc)

pub as_closing : (s : OriginState) → state_as s ≡ states.Closing → s ≡ origins.Closing
as_closing origins.Fresh e = absurd (cc)
as_closing origins.Initialising e = absurd (cc)
as_closing (origins.Ready v3 concurrent named) e = absurd (cc)
as_closing origins.Closing e = refl
as_closing origins.Closed e = absurd (cc)
as_closing (origins.Failed reason) e = absurd (cc)

by_reply : (closing : Bool) (reply : Apdu) → closing_state closing (state_by reply) ≡ origins.Initialising → ⊥
by_reply closing (apdus.InitRequest v) s = absurd (cc)
by_reply closing (apdus.InitResponse v) s =
    elim v.result as (λ b. closing_state closing (cond b (ready (options_in_force v)) origins.Closed) ≡ origins.Initialising
    → ⊥) [
      | true ↦ elim closing as (λ c. closing_state c (ready (options_in_force v)) ≡ origins.Initialising → ⊥) [
        | true ↦ λ e. absurd (cc)
        | false ↦ λ e. absurd (cc)
      ]
      | false ↦ λ e. absurd (cc)
    ] s
by_reply closing (apdus.SearchRequest v) s = absurd (cc)
by_reply closing (apdus.SearchResponse v) s = absurd (cc)
by_reply closing (apdus.PresentRequest v) s = absurd (cc)
by_reply closing (apdus.PresentResponse v) s = absurd (cc)
by_reply closing (apdus.Close v) s = absurd (cc)

-- an Init was admitted and is unanswered
pub initialising : (fault : Option Refused) (closed closing begun : Bool) (answer : Option Answer)
    → state_from fault closed closing begun answer ≡ origins.Initialising → (begun ≡ true) × (answer ≡ None)
initialising (Some reason) closed closing begun answer e = absurd (cc)
initialising None true closing begun answer e = absurd (cc)
initialising None false closing true None e = (refl, refl)
initialising None false closing false None e = absurd (cc)
initialising None false closing begun (Some a) e = absurd (by_reply closing a.reply e)

by_closing : (reply : Apdu) → closing_state false (state_by reply) ≡ origins.Closing → ⊥
by_closing (apdus.InitRequest v) s = absurd (cc)
by_closing (apdus.InitResponse v) s =
    elim v.result as (λ b. closing_state false (cond b (ready (options_in_force v)) origins.Closed) ≡ origins.Closing → ⊥) [
      | true ↦ λ e. absurd (cc)
      | false ↦ λ e. absurd (cc)
    ] s
by_closing (apdus.SearchRequest v) s = absurd (cc)
by_closing (apdus.SearchResponse v) s = absurd (cc)
by_closing (apdus.PresentRequest v) s = absurd (cc)
by_closing (apdus.PresentResponse v) s = absurd (cc)
by_closing (apdus.Close v) s = absurd (cc)

-- Close was admitted, and no Close of the target was taken
pub closing_so : (fault : Option Refused) (closed closing begun : Bool) (answer : Option Answer)
    → state_from fault closed closing begun answer ≡ origins.Closing → (closed ≡ false) × (closing ≡ true)
closing_so (Some reason) closed closing begun answer e = absurd (cc)
closing_so None true closing begun answer e = absurd (cc)
closing_so None false true begun answer e = (refl, refl)
closing_so None false false true None e = absurd (cc)
closing_so None false false false None e = absurd (cc)
closing_so None false false begun (Some a) e = absurd (by_closing a.reply e)

-- ---- lists

pub found_in : (xs : List Answer) (a : Answer) → find is_opening xs ≡ Some a → IsIn a xs × (is_opening a ≡ true)
found_in [] a e = absurd (cc)
found_in (x ∷ xs) a e =
    elim (is_opening x) as (λ b. is_opening x ≡ b → cond b (Some x) (find is_opening xs) ≡ Some a → IsIn a (x ∷ xs) ×
    (is_opening a ≡ true)) [
      | true ↦ λ t f. (let same : x ≡ a = cc in (inl (sym same), ap is_opening (sym same) ∙ t))
      | false ↦ λ t f. (let more = found_in xs a f in (inr more.0, more.1))
    ] refl e

pub opened_by : (xs : List Answer) (a : Answer) → IsIn a xs → is_opening a ≡ true → find is_opening xs ≡ None → ⊥
opened_by [] a i o e = absurd i
opened_by (x ∷ xs) a (inl s) o e =
    let t : is_opening x ≡ true = ap is_opening (sym s) ∙ o in
    no_some (sym (ap (λ b. cond b (Some x) (find is_opening xs)) t) ∙ e)
opened_by (x ∷ xs) a (inr i) o e =
    let later = opened_by xs a i o in
    elim (is_opening x) as (λ b. cond b (Some x) (find is_opening xs) ≡ None → ⊥) [
      | true ↦ λ f. no_some f
      | false ↦
          λ f. later f
    ] e

pub begun_by : (calls : List Call) → list_any is_init_call calls ≡ true → IsIn Init calls
begun_by [] e = absurd (true≢false (sym e))
begun_by (Init ∷ xs) e = inl refl
begun_by (Search op set ask ∷ xs) e = inr (begun_by xs e)
begun_by (Present op set ranges ∷ xs) e = inr (begun_by xs e)
begun_by (Close ∷ xs) e = inr (begun_by xs e)

pub filter_none : (u : Asked → Bool) (qs : List Asked) → ((q : Asked) → IsIn q qs → u q ≡ false) → filter u qs ≡ []
filter_none u [] h = refl
filter_none u (q ∷ qs) h =
    ap (λ b. cond b (q ∷ filter u qs) (filter u qs)) (h q (inl refl)) ∙ filter_none u qs (λ x i. h x (inr i))

pub answered_in : (op : ℕ) (xs : List Answer) (a : Answer) → IsIn a xs → a.asked.op ≡ op → list_any
    (is_answer_to op) xs ≡ true
answered_in op [] a i e = absurd i
answered_in op (x ∷ xs) a (inl s) e =
    let same : x.asked.op ≡ op = ap (λ (z : Answer). z.asked.op) (sym s) ∙ e in
    let t : is_answer_to op x ≡ true = grind (arith, nat_tests) in
    ap (λ b. b || list_any (is_answer_to op) xs) t
answered_in op (x ∷ xs) a (inr i) e = ap (λ b. is_answer_to op x || b) (answered_in op xs a i e)
    ∙ or_right (is_answer_to op x) true refl
