-- The log of a connection at each phase of its driver.
use Rattle.std.proofs.Common.{◌≡◌, inl, inr, ℕ, suc, ◌+◌, ◌<◌, ◌≤◌, Bool, true, false, cond, List, [], ◌∷◌, ◌++◌, length, Option, None, Some, refl, sym, ap, ◌∙◌, arith, true≢false}
use Rattle.std.specs.Prelude.{◌||◌, nat_lt}
use Rattle.std.specs.List.{list_any}
use Rattle.zapdu.specs.declared.apdu.Apdu.{Apdu}
use Rattle.zapdu.specs.declared.apdu.Apdu.TheVariants as apdus
use Rattle.zplan.specs.Plan as plan
use Rattle.zplan.specs.Plan.{Operation, PlanEvent, RequestSent, ReplyAccepted, CloseSent, InitReply, SearchReply, PresentReply, IsPlanned, first, search, cut, rest, IsDue, IsNextEvent, asked_in, replies_in, outstanding_in}
use Rattle.zplan.specs.Positions.{IsIn, first_of}
use Rattle.zplan.specs.Agenda.{put_list}
use Rattle.zplan.proofs.Agendas.{in_put}
use Rattle.zorigin.specs.declared.state.State.{State}
use Rattle.zorigin.specs.declared.state.State.TheVariants as origins
use Rattle.zorigin.specs.declared.answer.Answer.{Answer}
use Rattle.zorigin.specs.declared.refusal.Refused.{Refused}
use Rattle.zorigin.specs.Standings.{Call, is_fresh, is_ready, nothing_in_force, ready}
use Rattle.zorigin.specs.Changes.{options_in_force}
use Rattle.zorigin.specs.Log.{state_from, state_by, closing_state, force_by, force_after, is_close_call}
use Rattle.zoom_pool.specs.States.{state_as}
use Rattle.zoom_pool.specs.Steering.{may_call}
use Rattle.zoom_pool.specs.Drivers.{IsFreeStart, HaveApartStarts, room_for, is_fresh_state}

-- ---- states

pub unready : (fault : Option Refused) (closed closing begun : Bool) → is_ready (state_from fault closed closing begun None) ≡ false
unready (Some reason) closed closing begun = refl
unready None true closing begun = refl
unready None false closing true = refl
unready None false closing false = refl

fresh_by : (closing : Bool) (reply : Apdu) → is_fresh (closing_state closing (state_by reply)) ≡ false
fresh_by closing (apdus.InitRequest v) = refl
fresh_by true (apdus.InitResponse v) = elim v.result as (λ b. is_fresh (closing_state true (cond b (ready (options_in_force v)) origins.Closed)) ≡ false) [ true ↦ refl | false ↦ refl ]
fresh_by false (apdus.InitResponse v) = elim v.result as (λ b. is_fresh (closing_state false (cond b (ready (options_in_force v)) origins.Closed)) ≡ false) [ true ↦ refl | false ↦ refl ]
fresh_by closing (apdus.SearchRequest v) = refl
fresh_by closing (apdus.SearchResponse v) = refl
fresh_by closing (apdus.PresentRequest v) = refl
fresh_by closing (apdus.PresentResponse v) = refl
fresh_by closing (apdus.Close v) = refl

pub unfresh : (fault : Option Refused) (closed closing begun : Bool) (answer : Answer) → is_fresh (state_from fault closed closing begun (Some answer)) ≡ false
unfresh (Some reason) closed closing begun answer = refl
unfresh None true closing begun answer = refl
unfresh None false closing begun answer = fresh_by closing answer.reply

closing_by : (reply : Apdu) → may_call (closing_state true (state_by reply)) ≡ false
closing_by (apdus.InitRequest v) = refl
closing_by (apdus.InitResponse v) = elim v.result as (λ b. may_call (closing_state true (cond b (ready (options_in_force v)) origins.Closed)) ≡ false) [ true ↦ refl | false ↦ refl ]
closing_by (apdus.SearchRequest v) = refl
closing_by (apdus.SearchResponse v) = refl
closing_by (apdus.PresentRequest v) = refl
closing_by (apdus.PresentResponse v) = refl
closing_by (apdus.Close v) = refl

pub uncallable : (fault : Option Refused) (closed begun : Bool) (answer : Answer) → may_call (state_from fault closed true begun (Some answer)) ≡ false
uncallable (Some reason) closed begun answer = refl
uncallable None true begun answer = refl
uncallable None false begun answer = closing_by answer.reply

force_ready : (closing : Bool) (reply : Apdu) (v3 concurrent named : Bool) → closing_state closing (state_by reply) ≡ origins.Ready v3 concurrent named → (force_by reply).concurrent ≡ concurrent
force_ready closing (apdus.InitRequest v) v3 c n e = absurd (cc)
force_ready true (apdus.InitResponse v) v3 c n e =
    elim v.result as (λ b. closing_state true (cond b (ready (options_in_force v)) origins.Closed) ≡ origins.Ready v3 c n → (cond b (options_in_force v) nothing_in_force).concurrent ≡ c) [ true ↦ λ f. absurd (cc) | false ↦ λ f. absurd (cc) ] e
force_ready false (apdus.InitResponse v) v3 c n e =
    elim v.result as (λ b. closing_state false (cond b (ready (options_in_force v)) origins.Closed) ≡ origins.Ready v3 c n → (cond b (options_in_force v) nothing_in_force).concurrent ≡ c) [ true ↦ λ f. cc | false ↦ λ f. absurd (cc) ] e
force_ready closing (apdus.SearchRequest v) v3 c n e = absurd (cc)
force_ready closing (apdus.SearchResponse v) v3 c n e = absurd (cc)
force_ready closing (apdus.PresentRequest v) v3 c n e = absurd (cc)
force_ready closing (apdus.PresentResponse v) v3 c n e = absurd (cc)
force_ready closing (apdus.Close v) v3 c n e = absurd (cc)

pub concurrent_by : (fault : Option Refused) (closed closing begun : Bool) (answer : Option Answer) (v3 concurrent named : Bool)
    → state_from fault closed closing begun answer ≡ origins.Ready v3 concurrent named → (force_after answer).concurrent ≡ concurrent
concurrent_by (Some reason) closed closing begun answer v3 c n e = absurd (cc)
concurrent_by None true closing begun answer v3 c n e = absurd (cc)
concurrent_by None false closing true None v3 c n e = absurd (cc)
concurrent_by None false closing false None v3 c n e = absurd (cc)
concurrent_by None false closing begun (Some answer) v3 c n e = force_ready closing answer.reply v3 c n e

-- if there is room, calls can be made
pub room_ready : (window : ℕ) (s : State) (room : ℕ) → room_for window (state_as s) ≡ Some room
    → (v3 : Bool) × (c : Bool) × (n : Bool) × (s ≡ origins.Ready v3 c n) × (cond c window 1 ≡ room)
room_ready window origins.Fresh room e = absurd (cc)
room_ready window origins.Initialising room e = absurd (cc)
room_ready window (origins.Ready v3 c n) room e = (v3, c, n, refl, cc)
room_ready window origins.Closing room e = absurd (cc)
room_ready window origins.Closed room e = absurd (cc)
room_ready window (origins.Failed reason) room e = absurd (cc)

pub no_room : (window : ℕ) (s : State) → room_for window (state_as s) ≡ None → is_ready s ≡ false
no_room window origins.Fresh e = refl
no_room window origins.Initialising e = refl
no_room window (origins.Ready v3 c n) e = absurd (cc)
no_room window origins.Closing e = refl
no_room window origins.Closed e = refl
no_room window (origins.Failed reason) e = refl

pub fresh_as : (s : State) → is_fresh_state (state_as s) ≡ is_fresh s
fresh_as origins.Fresh = refl
fresh_as origins.Initialising = refl
fresh_as (origins.Ready v3 c n) = refl
fresh_as origins.Closing = refl
fresh_as origins.Closed = refl
fresh_as (origins.Failed reason) = refl

pub no_call : (s : State) → is_fresh s ≡ false → is_ready s ≡ false → may_call s ≡ false
no_call s f r = ap (λ b. b || is_ready s) f ∙ r

pub call_ready : (s : State) → is_ready s ≡ true → may_call s ≡ true
call_ready origins.Fresh e = refl
call_ready origins.Initialising e = absurd (true≢false (sym e))
call_ready (origins.Ready v3 c n) e = refl
call_ready origins.Closing e = absurd (true≢false (sym e))
call_ready origins.Closed e = absurd (true≢false (sym e))
call_ready (origins.Failed reason) e = absurd (true≢false (sym e))

pub any_last : (calls : List Call) (call : Call) → list_any is_close_call (calls ++ call ∷ []) ≡ (list_any is_close_call calls || is_close_call call)
any_last [] call = elim (is_close_call call) as (λ b. (b || false) ≡ (false || b)) [ true ↦ refl | false ↦ refl ]
any_last (x ∷ calls) call =
    let later = any_last calls call in
    elim (is_close_call x) as (λ b. (b || list_any is_close_call (calls ++ call ∷ [])) ≡ ((b || list_any is_close_call calls) || is_close_call call)) [ true ↦ refl | false ↦ later ]

-- ---- what is due

pub none_due : (wanted : List ℕ) (step : ℕ) (events : List PlanEvent) → IsIn plan.Init (asked_in events)
    → ((three : Bool) → replies_in events plan.Init ≡ Some (InitReply true three) → IsIn plan.Search (asked_in events))
    → ((count : ℕ) → replies_in events plan.Search ≡ Some (SearchReply (Some count)) → ⊥)
    → ((l : List ℕ) (k : ℕ) → replies_in events (plan.Present l) ≡ Some (PresentReply k) → ⊥)
    → (b : Operation) → IsDue wanted step events b → ⊥
none_due wanted step events i s c n b h = by b h.0 h.1
  where
    by : (b : Operation) → IsPlanned wanted step (replies_in events) b → (IsIn b (asked_in events) → ⊥) → ⊥
    by plan.Init first not = not i
    by plan.Search (search three a e) not = not (s three e)
    by (plan.Present l) (cut three count i m a o e lt x) not = c count e
    by (plan.Present l) (rest m k a e lo hi) not = n m k e

-- if nothing is due and an operation is outstanding, nothing is next
pub none_next : (wanted : List ℕ) (step window : ℕ) (events : List PlanEvent) → ((b : Operation) → IsDue wanted step events b → ⊥)
    → (outstanding_in events ≡ 0 → ⊥) → (event : PlanEvent) → IsNextEvent wanted step window events event → ⊥
none_next wanted step window events none some (RequestSent a) n = none a n.0
none_next wanted step window events none some (ReplyAccepted a r) n = n
none_next wanted step window events none some CloseSent n = some n.1

-- if there is no room, nothing is next
pub full_next : (wanted : List ℕ) (step window : ℕ) (events : List PlanEvent) → 0 < window → window ≤ outstanding_in events
    → (event : PlanEvent) → IsNextEvent wanted step window events event → ⊥
full_next wanted step window events lo full (RequestSent a) n = let lt = n.1 in absurd (omega (arith, lt, full))
full_next wanted step window events lo full (ReplyAccepted a r) n = n
full_next wanted step window events lo full CloseSent n = let z = n.1 in absurd (omega (arith, z, full, lo))

-- ---- lists that wait for their replies

pub length_put : (l : List ℕ) (ms : List (List ℕ)) → length (put_list l ms) ≡ length ms + 1
length_put l [] = refl
length_put l (m ∷ ms) =
    let later = length_put l ms in
    elim (nat_lt (first_of l) (first_of m)) as (λ b. length (cond b (l ∷ m ∷ ms) (m ∷ put_list l ms)) ≡ suc (length ms) + 1) [
      | true ↦ omega arith
      | false ↦ omega (arith, later)
    ]

pub apart_put : (l : List ℕ) (ms : List (List ℕ)) → IsFreeStart (first_of l) ms → HaveApartStarts ms → HaveApartStarts (put_list l ms)
apart_put l [] n a = (λ m i. absurd i, tt)
apart_put l (m ∷ ms) n a =
    let later = apart_put l ms (λ x i. n x (inr i)) a.1 in
    let others : IsFreeStart (first_of m) (put_list l ms) = λ x i f. elim (in_put x l ms i) [
      | inl e ↦ n m (inl refl) (sym f ∙ ap first_of e)
      | inr j ↦ a.0 x j f
    ] in
    elim (nat_lt (first_of l) (first_of m)) as (λ b. HaveApartStarts (cond b (l ∷ m ∷ ms) (m ∷ put_list l ms))) [
      | true ↦ (n, a)
      | false ↦ (others, later)
    ]
