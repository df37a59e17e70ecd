-- What a call answers, by the rows before its request and by the request.
use Rattle.std.proofs.Common.{◌≡◌, ◌≢◌, ℕ, Bool, true, false, cond, is_none, List, [], ◌∷◌, Option, None, Some, Result, Ok, Err, refl, sym, ap, subst, ◌∙◌}
use Rattle.std.specs.List.{AllByRecursion}
use Rattle.std.specs.Option.{option_map}
use Rattle.zber.specs.Integers.{integer_octets}
use Rattle.zapdu.specs.declared.apdu.Apdu.{Apdu}
use Rattle.zapdu.specs.Productions.Closes.{close_parts}
use Rattle.zplan.specs.declared.range.Range.{Range}
use Rattle.zorigin.specs.declared.settings.Ask.{Ask}
use Rattle.zorigin.specs.declared.answer.Sent.{Sent}
use Rattle.zorigin.specs.declared.refusal.CallRefused.{CallRefused}
use Rattle.zorigin.specs.declared.refusal.CallRefused.TheVariants as refused
use Rattle.zorigin.specs.declared.state.Searched.{Searched}
use Rattle.zorigin.specs.Standings.{Call, Init, Search, Present, Close, Standing, is_ready, search_of}
use Rattle.zorigin.specs.Sending.{is_unsendable, init_request, search_request, present_request, close_request, request_of, IsEncodedApdu}
use Rattle.zorigin.specs.Fitting.{first_row}
use Rattle.zorigin.specs.Calls.{wrong_state, not_offered, op_used, set_unknown, set_not_ready, set_replaced, unsendable, early_rows, early_refusal, refusal, or_unsendable, call_result_by, call_result, is_unsendable_request, IsSendResultFor}
use Rattle.zorigin.specs.Changes.{admitted_at, called_at, admitted_unless}

-- what a call answers and leaves
pub record Comes (s : Standing) (c : Call) (r : Result Sent CallRefused) (t : Standing) : Type 0 where
  pub answer : r ≡ call_result s c
  pub new : t ≡ called_at s c

comes : (s : Standing) (c : Call) (r : Option CallRefused) → refusal s c ≡ r → Comes s c (call_result_by r (request_of s c)) (admitted_unless s c r)
comes s c r e = record { answer = ap (λ x. call_result_by x (request_of s c)) (sym e); new = ap (λ x. admitted_unless s c x) (sym e) }

pub refused_early : (s : Standing) (c : Call) (reason : CallRefused) → early_refusal s c ≡ Some reason → Comes s c (Err reason) s
unfolding refusal
refused_early s c reason e = comes s c (Some reason) (ap (or_unsendable (unsendable s c)) e)

refused_late : (s : Standing) (c : Call) (b : Bool) → early_refusal s c ≡ None → unsendable s c ≡ b → refusal s c ≡ or_unsendable b None
unfolding refusal
refused_late s c b e u = ap (or_unsendable (unsendable s c)) e ∙ ap (λ x. or_unsendable x None) u

-- a call that the rows before let pass, with its request
pub record IsReady (s : Standing) (c : Call) (apdu : Apdu) : Type 0 where
  pub early : early_refusal s c ≡ None
  pub request : request_of s c ≡ Some apdu
  pub sendable : unsendable s c ≡ is_unsendable apdu

sends : (s : Standing) (c : Call) (apdu : Apdu) (r : Result Sent CallRefused) → IsReady s c apdu → IsSendResultFor s c r → IsEncodedApdu apdu r
sends s c apdu r ready h = rw ready.request at h

not_sent : (s : Standing) (c : Call) (apdu : Apdu) (reason : CallRefused) → IsReady s c apdu → IsEncodedApdu apdu (Err reason) → reason ≢ refused.Memory → Comes s c (Err reason) s
not_sent s c apdu refused.Unsendable ready h m = comes s c (Some refused.Unsendable) (refused_late s c true ready.early (ready.sendable ∙ h))
not_sent s c apdu refused.Memory ready h m = absurd (m refl)
not_sent s c apdu _ ready h m = absurd h

pub unsent : (s : Standing) (c : Call) (apdu : Apdu) (reason : CallRefused) → IsReady s c apdu → IsSendResultFor s c (Err reason) → reason ≢ refused.Memory → Comes s c (Err reason) s
unsent s c apdu reason ready h m = not_sent s c apdu reason ready (sends s c apdu (Err reason) ready h) m

pub sent_so : (s : Standing) (c : Call) (apdu : Apdu) (sent : Sent) → IsReady s c apdu → IsSendResultFor s c (Ok sent) → Comes s c (Ok sent) (admitted_at s c)
sent_so s c apdu sent ready h =
    let given = sends s c apdu (Ok sent) ready h in
    let free : refusal s c ≡ None = refused_late s c false ready.early (ready.sendable ∙ given.0) in
    record {
      answer = ap (λ x. Ok x) given.1 ∙ sym (ap (λ x. call_result_by x (request_of s c)) free ∙ ap (call_result_by None) ready.request);
      new = ap (λ x. admitted_unless s c x) (sym free);
    }

-- ---- when a call is ready

pub ready_init : (s : Standing) → early_refusal s Init ≡ None → IsReady s Init (init_request s.settings)
ready_init s e = record { early = e; request = refl; sendable = refl }

pub close_early : (s : Standing) → is_ready s.state ≡ true → early_refusal s Close ≡ None
close_early s h = rw h refl

pub close_late : (s : Standing) → is_ready s.state ≡ false → early_refusal s Close ≡ Some refused.WrongState
close_late s h = rw h refl

pub close_sendable : is_unsendable close_request ≡ false
unfolding is_unsendable close_parts integer_octets
close_sendable = refl

pub ready_search : (s : Standing) (op set : ℕ) (ask : Ask) → early_refusal s (Search op set ask) ≡ None
    → IsReady s (Search op set ask) (search_request s.force.named op set ask)
ready_search s op set ask e = record { early = e; request = refl; sendable = refl }

-- a Present that the rows before let pass is of a set that a search made
known : (s : Standing) (op set : ℕ) (ranges : List Range) (o : Option Searched) → search_of s.searches set ≡ o
    → early_refusal s (Present op set ranges) ≡ None → (x : Searched) × (o ≡ Some x)
known s op set ranges (Some x) e h = (x, refl)
known s op set ranges None e h = absurd (
    let m : is_none (search_of s.searches set) ≡ true = ap (λ o. is_none o) e in
    blocked (wrong_state s (Present op set ranges)) (not_offered s (Present op set ranges)) (op_used s (Present op set ranges)) (rw m at h)
    )
  where
    blocked : (a b c : Bool) → cond a (Some refused.WrongState) (cond b (Some refused.NotOffered) (cond c (Some refused.OpUsed) (Some refused.SetUnknown))) ≡ None → ⊥
    blocked true b c h = cc
    blocked false true c h = cc
    blocked false false true h = cc
    blocked false false false h = cc

-- and of one range at least
no_range : (a b c d e f : Bool)
    → cond a (Some refused.WrongState) (cond b (Some refused.NotOffered) (cond c (Some refused.OpUsed) (cond d (Some refused.SetUnknown)
    (cond e (Some refused.SetNotReady) (cond f (Some refused.SetReplaced) (Some refused.OutOfRange)))))) ≡ None → ⊥
no_range true b c d e f h = cc
no_range false true c d e f h = cc
no_range false false true d e f h = cc
no_range false false false true e f h = cc
no_range false false false false true f h = cc
no_range false false false false false true h = cc
no_range false false false false false false h = cc

pub ready_present : (s : Standing) (op set : ℕ) (ranges : List Range) → early_refusal s (Present op set ranges) ≡ None
    → (apdu : Apdu) × IsReady s (Present op set ranges) apdu
ready_present s op set [] h = absurd (no_range
    (wrong_state s (Present op set [])) (not_offered s (Present op set [])) (op_used s (Present op set [])) (set_unknown s (Present op set []))
    (set_not_ready s (Present op set [])) (set_replaced s (Present op set [])) h)
ready_present s op set (r ∷ rs) h =
    let k = known s op set (r ∷ rs) (search_of s.searches set) refl h in
    let made = present_request s.force.named op r rs in
    let e : request_of s (Present op set (r ∷ rs)) ≡ Some (made k.0) = ap (option_map made) k.1 in
    (made k.0, record { early = h; request = e; sendable = ap is_unsendable_request e })

pub ready_close : (s : Standing) → is_ready s.state ≡ true → IsReady s Close close_request
ready_close s h = record { early = close_early s h; request = refl; sendable = sym close_sendable }

-- ---- memory refuses only what the rows before let pass

abbrev Others : List (Bool × CallRefused) → Type 0
Others rows = AllByRecursion (λ (row : Bool × CallRefused). row.1 ≢ refused.Memory) rows

row_other : (rows : List (Bool × CallRefused)) (reason : CallRefused) → Others rows → first_row rows ≡ Some reason → reason ≢ refused.Memory
row_other [] reason h e = absurd (cc)
row_other (row ∷ rows) reason h e = by row.0 e (row_other rows reason h.1)
  where
    by : (b : Bool) → cond b (Some row.1) (first_row rows) ≡ Some reason → (first_row rows ≡ Some reason → reason ≢ refused.Memory) → reason ≢ refused.Memory
    by true e more = let same : row.1 ≡ reason = cc in subst (λ r. r ≢ refused.Memory) same h.0
    by false e more = more e

pub early_other : (s : Standing) (c : Call) (reason : CallRefused) → early_refusal s c ≡ Some reason → reason ≢ refused.Memory
early_other s c reason e = row_other (early_rows s c) reason
    ((λ e. cc), ((λ e. cc), ((λ e. cc), ((λ e. cc), ((λ e. cc), ((λ e. cc), ((λ e. cc), ((λ e. cc), ((λ e. cc), tt))))))))) e
