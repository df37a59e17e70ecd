-- Replies answer what was sent.
use Rattle.std.proofs.Common.{◌≡◌, inl, inr, ℕ, suc, ◌+◌, ◌<◌, ◌≤◌, true, false, cond, List, [], ◌∷◌, ◌++◌, map, length, Option, None, Some, Result, Ok, Err, refl, sym, ap, subst, ◌∙◌, arith, append-nil, length-append, true≢false}
use Rattle.std.proofs.lemmas.Bool.Decides.{nat_tests}
use Rattle.std.proofs.lemmas.Grind.{flat_map-append}
use Rattle.std.proofs.lemmas.Map.Keys.{IsDistinct-head, IsDistinct-tail}
use Rattle.std.specs.Prelude.{nat_eq}
use Rattle.std.specs.List.{AllByRecursion, IsDistinct}
use Rattle.zplan.specs.Plan.{Operation, PlanEvent, Reply, same, number, asked_in, replies_in, count_in, IsDriven}
use Rattle.zplan.specs.Positions.{IsIn, IsWanted, up_to}
use Rattle.zplan.specs.Laws.{BoundLaws}
use Rattle.zplan.proofs.Cuts.{in_either}
use Rattle.zplan.proofs.Order.{same_is}
use Rattle.zorigin.proofs.Members.{among, contained}
use Rattle.zorigin.specs.declared.settings.Settings.{Settings}
use Rattle.zorigin.specs.declared.settings.Ask.{Ask}
use Rattle.zorigin.specs.declared.answer.Asked.{Asked}
use Rattle.zorigin.specs.declared.answer.Answer.{Answer}
use Rattle.zorigin.specs.declared.answer.Taken.{Taken}
use Rattle.zorigin.specs.declared.answer.Taken.TheVariants as taken
use Rattle.zorigin.specs.declared.refusal.CallRefused.{CallRefused}
use Rattle.zorigin.specs.declared.refusal.Refused.{Refused}
use Rattle.zorigin.specs.Standings.{Call, Init, Search, Present, Close, is_open}
use Rattle.zorigin.specs.Calls.{refusal}
use Rattle.zorigin.specs.Replies.{verdict}
use Rattle.zorigin.specs.Laws.{IsOrderly, answered_op}
use Rattle.zorigin.specs.Log.{Log, Made, Got, Past, past, standing, state_of, asked, operation_of, admit_unless, accept, after_verdict}
use Rattle.zoom_pool.specs.Driving.{plan_of, operation_for, reply_for, made_event, answer_event, got_event, events_of, IsNumbered, IsDueEvent, IsDueCall, IsDrivenLog}

-- ---- members

pub in_last : {X : Type 0} (x : X) (xs : List X) → IsIn x (xs ++ x ∷ [])
in_last x [] = inl refl
in_last x (y ∷ xs) = inr (in_last x xs)

pub in_front : {X : Type 0} (x y : X) (xs : List X) → IsIn x xs → IsIn x (xs ++ y ∷ [])
in_front x y [] i = absurd i
in_front x y (z ∷ xs) (inl e) = inl e
in_front x y (z ∷ xs) (inr i) = inr (in_front x y xs i)

-- ---- one more call

pub asked_more : (p : Past) (call : Call) → asked (admit_unless p call None) ≡ asked p ++ operation_of call
asked_more p call = flat_map-append operation_of p.admitted (call ∷ []) ∙ ap (λ l. asked p ++ l) (append-nil (operation_of call))

pub asked_call : (q : Asked) (call : Call) (events : List PlanEvent) → IsIn q (operation_of call) → IsIn (operation_for q.what) (asked_in (plan_of call ∷ events))
asked_call q Init events (inl e) = inl (ap (λ z. operation_for z.what) e)
asked_call q Init events (inr i) = absurd i
asked_call q (Search op set ask) events (inl e) = inl (ap (λ z. operation_for z.what) e)
asked_call q (Search op set ask) events (inr i) = absurd i
asked_call q (Present op set ranges) events (inl e) = inl (ap (λ z. operation_for z.what) e)
asked_call q (Present op set ranges) events (inr i) = absurd i
asked_call q Close events i = absurd i

pub asked_still : (a : Operation) (call : Call) (events : List PlanEvent) → IsIn a (asked_in events) → IsIn a (asked_in (plan_of call ∷ events))
asked_still a Init events i = inr i
asked_still a (Search op set ask) events i = inr i
asked_still a (Present op set ranges) events i = inr i
asked_still a Close events i = i

numbered_call : (q : Asked) (call : Call) → IsNumbered call → IsIn q (operation_of call) → q.op ≡ number (operation_for q.what)
numbered_call q Init n (inl e) = ap (λ z. z.op) e ∙ ap (λ z. number (operation_for z.what)) (sym e)
numbered_call q Init n (inr i) = absurd i
numbered_call q (Search op set ask) n (inl e) = ap (λ z. z.op) e ∙ n ∙ ap (λ z. number (operation_for z.what)) (sym e)
numbered_call q (Search op set ask) n (inr i) = absurd i
numbered_call q (Present op set ranges) n (inl e) = ap (λ z. z.op) e ∙ n ∙ ap (λ z. number (operation_for z.what)) (sym e)
numbered_call q (Present op set ranges) n (inr i) = absurd i
numbered_call q Close n i = absurd i

pub replies_call : (a : Operation) (call : Call) (events : List PlanEvent) → replies_in (plan_of call ∷ events) a ≡ replies_in events a
replies_call a Init events = refl
replies_call a (Search op set ask) events = refl
replies_call a (Present op set ranges) events = refl
replies_call a Close events = refl

count_call : (call : Call) (events : List PlanEvent) → length (asked_in (plan_of call ∷ events)) ≡ length (asked_in events) + length (operation_of call)
count_call Init events = let e : suc (length (asked_in events)) ≡ length (asked_in events) + 1 = omega arith in e
count_call (Search op set ask) events = let e : suc (length (asked_in events)) ≡ length (asked_in events) + 1 = omega arith in e
count_call (Present op set ranges) events = let e : suc (length (asked_in events)) ≡ length (asked_in events) + 1 = omega arith in e
count_call Close events = let e : length (asked_in events) ≡ length (asked_in events) + 0 = omega arith in e

-- ---- one more reply

pub same_asked : (p : Past) (v : Result Taken Refused) → asked (after_verdict p v) ≡ asked p
same_asked p (Ok (taken.Opened a)) = refl
same_asked p (Ok (taken.Rejected a)) = refl
same_asked p (Ok (taken.Answered a)) = refl
same_asked p (Ok taken.Closed) = refl
same_asked p (Err r) = elim (is_open (state_of p)) as (λ b. asked (cond b (record p { fault = Some r }) p) ≡ asked p) [ true ↦ refl | false ↦ refl ]

pub same_events : (ask : Ask) (p : Past) (v : Result Taken Refused) (events : List PlanEvent) → asked_in (got_event ask p v events) ≡ asked_in events
same_events ask p (Ok (taken.Opened a)) events = refl
same_events ask p (Ok (taken.Rejected a)) events = refl
same_events ask p (Ok (taken.Answered a)) events = refl
same_events ask p (Ok taken.Closed) events = refl
same_events ask p (Err r) events = refl

-- an accepted answer is to this operation
abbrev pub IsBy : List Answer → Operation → Type 0
IsBy accepted a = (x : Answer) × IsIn x accepted × (operation_for x.asked.what ≡ a)

pub by_more : (accepted : List Answer) (x : Answer) (a : Operation) → IsBy accepted a → IsBy (accepted ++ x ∷ []) a
by_more accepted x a b = (b.0, in_front b.0 x accepted b.1, b.2)

by_last : (ask : Ask) (q p : Past) (x : Answer) (events : List PlanEvent) (a : Operation) (r : Reply) → (replies_in events a ≡ Some r → IsBy p.accepted a)
    → replies_in (answer_event ask q (Some x) events) a ≡ Some r → IsBy (p.accepted ++ x ∷ []) a
by_last ask q p x events a r old e =
    elim (same (operation_for x.asked.what) a) as (λ t. same (operation_for x.asked.what) a ≡ t → cond t (Some (reply_for ask q x.reply)) (replies_in events a) ≡ Some r → IsBy (p.accepted ++ x ∷ []) a) [
      | true ↦ λ t f. (x, in_last x p.accepted, same_is (operation_for x.asked.what) a t)
      | false ↦ λ t f. by_more p.accepted x a (old f)
    ] refl e

by_verdict : (ask : Ask) (q p : Past) (v : Result Taken Refused) (events : List PlanEvent) (a : Operation) (r : Reply) → (replies_in events a ≡ Some r → IsBy p.accepted a)
    → replies_in (got_event ask q v events) a ≡ Some r → IsBy (after_verdict p v).accepted a
by_verdict ask q p (Ok (taken.Opened x)) events a r old e = by_last ask q p x events a r old e
by_verdict ask q p (Ok (taken.Rejected x)) events a r old e = by_last ask q p x events a r old e
by_verdict ask q p (Ok (taken.Answered x)) events a r old e = by_last ask q p x events a r old e
by_verdict ask q p (Ok taken.Closed) events a r old e = old e
by_verdict ask q p (Err reason) events a r old e =
    elim (is_open (state_of p)) as (λ b. IsBy (cond b (record p { fault = Some reason }) p).accepted a) [ true ↦ old e | false ↦ old e ]

-- ---- operations with different numbers

all_last : (k : ℕ) (xs : List Answer) (x : Answer) → AllByRecursion (λ j. nat_eq k j ≡ false) (map answered_op (xs ++ x ∷ [])) → nat_eq k (answered_op x) ≡ false
all_last k [] x h = h.0
all_last k (y ∷ xs) x h = all_last k xs x h.1

pub differ : (xs : List Answer) (x y : Answer) → IsDistinct nat_eq (map answered_op (xs ++ x ∷ [])) → IsIn y xs → nat_eq (answered_op y) (answered_op x) ≡ false
differ [] x y d i = absurd i
differ (z ∷ xs) x y d (inl e) =
    subst (λ w. nat_eq (answered_op w) (answered_op x) ≡ false) (sym e)
    (all_last (answered_op z) xs x (IsDistinct-head nat_eq (answered_op z) (map answered_op (xs ++ x ∷ [])) d))
differ (z ∷ xs) x y d (inr i) = differ xs x y (IsDistinct-tail nat_eq (answered_op z) (map answered_op (xs ++ x ∷ [])) d) i

-- ---- logs

module _ (ask : Ask) (settings : Settings) where
  -- each admitted call is a request that was sent
  pub sent_known : (log : Log) (q : Asked) → IsIn q (asked (past settings log)) → IsIn (operation_for q.what) (asked_in (events_of ask settings log))
  sent_known [] q i = absurd i
  sent_known (Made call ∷ log) q i = call_events (sent_known log q) (refusal (standing (past settings log)) call) i
    where
      call_events : (IsIn q (asked (past settings log)) → IsIn (operation_for q.what) (asked_in (events_of ask settings log))) → (r : Option CallRefused)
          → IsIn q (asked (admit_unless (past settings log) call r)) → IsIn (operation_for q.what) (asked_in (made_event r call (events_of ask settings log)))
      call_events before (Some r) j = before j
      call_events before None j = elim (in_either q (asked (past settings log)) (operation_of call) (subst (IsIn q) (asked_more (past settings log) call) j)) [
        | inl k ↦ asked_still (operation_for q.what) call (events_of ask settings log) (before k)
        | inr k ↦ asked_call q call (events_of ask settings log) k
      ]
  sent_known (Got reply ∷ log) q i =
      let v = verdict (standing (past settings log)) reply in
      subst (IsIn (operation_for q.what)) (sym (same_events ask (past settings (Got reply ∷ log)) v (events_of ask settings log)))
      (sent_known log q (subst (IsIn q) (same_asked (past settings log) v) i))

  -- each operation with a reply has an accepted answer
  pub replied : (log : Log) (a : Operation) (r : Reply) → replies_in (events_of ask settings log) a ≡ Some r → IsBy (past settings log).accepted a
  replied [] a r e = absurd (cc)
  replied (Made call ∷ log) a r e = call_events (replied log a r) (refusal (standing (past settings log)) call) e
    where
      call_events : (replies_in (events_of ask settings log) a ≡ Some r → IsBy (past settings log).accepted a) → (o : Option CallRefused)
          → replies_in (made_event o call (events_of ask settings log)) a ≡ Some r → IsBy (admit_unless (past settings log) call o).accepted a
      call_events before (Some o) f = before f
      call_events before None f = before (sym (replies_call a call (events_of ask settings log)) ∙ f)
  replied (Got reply ∷ log) a r e =
      by_verdict ask (past settings (Got reply ∷ log)) (past settings log) (verdict (standing (past settings log)) reply) (events_of ask settings log) a r (replied log a r) e

  -- as many requests were sent as calls were admitted
  sent_count : (log : Log) → length (asked (past settings log)) ≡ length (asked_in (events_of ask settings log))
  sent_count [] = refl
  sent_count (Made call ∷ log) = call_events (sent_count log) (refusal (standing (past settings log)) call)
    where
      call_events : length (asked (past settings log)) ≡ length (asked_in (events_of ask settings log)) → (r : Option CallRefused)
          → length (asked (admit_unless (past settings log) call r)) ≡ length (asked_in (made_event r call (events_of ask settings log)))
      call_events before (Some r) = before
      call_events before None =
          ap length (asked_more (past settings log) call) ∙ length-append (asked (past settings log)) (operation_of call)
          ∙ ap (λ n. n + length (operation_of call)) before ∙ sym (count_call call (events_of ask settings log))
  sent_count (Got reply ∷ log) =
      let v = verdict (standing (past settings log)) reply in
      ap length (same_asked (past settings log) v) ∙ sent_count log
      ∙ ap length (sym (same_events ask (past settings (Got reply ∷ log)) v (events_of ask settings log)))

  module _ (wanted : List ℕ) (step : ℕ) where
    -- an operation has the number that the plan gives it
    pub numbered : (log : Log) → IsDrivenLog ask wanted step settings log → (q : Asked) → IsIn q (asked (past settings log)) → q.op ≡ number (operation_for q.what)
    numbered [] d q i = absurd i
    numbered (Made call ∷ log) d q i = call_events (numbered log d.1 q) (refusal (standing (past settings log)) call) d.0 i
      where
        call_events : (IsIn q (asked (past settings log)) → q.op ≡ number (operation_for q.what)) → (r : Option CallRefused)
            → IsDueCall ask wanted step (events_of ask settings log) r call → IsIn q (asked (admit_unless (past settings log) call r))
            → q.op ≡ number (operation_for q.what)
        call_events before (Some r) c j = before j
        call_events before None c j = elim (in_either q (asked (past settings log)) (operation_of call) (subst (IsIn q) (asked_more (past settings log) call) j)) [
          | inl k ↦ before k
          | inr k ↦ numbered_call q call c.0 k
        ]
    numbered (Got reply ∷ log) d q i = numbered log d q (subst (IsIn q) (same_asked (past settings log) (verdict (standing (past settings log)) reply)) i)

    -- an accepted answer is the first to its request
    pub fresh : (log : Log) → ((s : Settings) (l : Log) → IsOrderly (past s l)) → IsDrivenLog ask wanted step settings log → (x : Answer) → IsOrderly (accept (past settings log) x)
        → IsIn (operation_for x.asked.what) (asked_in (events_of ask settings log)) × (replies_in (events_of ask settings log) (operation_for x.asked.what) ≡ None)
    fresh log orderly d x o = (sent_known log x.asked there, unanswered (replies_in (events_of ask settings log) (operation_for x.asked.what)) refl)
      where
        there : IsIn x.asked (asked (past settings log))
        there = among x.asked (asked (past settings log)) (o.known x (contained x ((past settings log).accepted ++ x ∷ []) (in_last x (past settings log).accepted)))

        unanswered : (u : Option Reply) → replies_in (events_of ask settings log) (operation_for x.asked.what) ≡ u → u ≡ None
        unanswered None e = refl
        unanswered (Some r) e =
            let b = replied log (operation_for x.asked.what) r e in
            let i = among b.0.asked (asked (past settings log)) ((orderly settings log).known b.0 (contained b.0 (past settings log).accepted b.1)) in
            let n : answered_op b.0 ≡ answered_op x = numbered log d b.0.asked i ∙ ap number b.2 ∙ sym (numbered log d x.asked there) in
            let f = differ (past settings log).accepted x b.0 o.once b.1 in
            let t : nat_eq (answered_op b.0) (answered_op x) ≡ true = grind (arith, nat_tests, n) in
            absurd (true≢false (sym t ∙ f))

    -- an answer has the number of its request
    pub answered_number : (log : Log) → ((s : Settings) (l : Log) → IsOrderly (past s l)) → IsDrivenLog ask wanted step settings log → (x : Answer)
        → IsOrderly (accept (past settings log) x) → x.asked.op ≡ number (operation_for x.asked.what)
    answered_number log orderly d x o =
        numbered log d x.asked (among x.asked (asked (past settings log))
        (o.known x (contained x ((past settings log).accepted ++ x ∷ []) (in_last x (past settings log).accepted))))

    due_driven : (call : Call) (events : List PlanEvent) → IsDueEvent ask wanted step events (plan_of call) → IsDriven wanted step events → IsDriven wanted step (plan_of call ∷ events)
    due_driven Init events h d = (h, d)
    due_driven (Search op set a) events h d = (h, d)
    due_driven (Present op set ranges) events h d = (h, d)
    due_driven Close events h d = (h, d)

    pub driven : ((s : Settings) (l : Log) → IsOrderly (past s l)) → (log : Log) → IsDrivenLog ask wanted step settings log → IsDriven wanted step (events_of ask settings log)
    driven orderly [] d = tt
    driven orderly (Made call ∷ log) d = call_events (driven orderly log d.1) (refusal (standing (past settings log)) call) d.0
      where
        call_events : IsDriven wanted step (events_of ask settings log) → (r : Option CallRefused) → IsDueCall ask wanted step (events_of ask settings log) r call → IsDriven wanted step (made_event r call (events_of ask settings log))
        call_events before (Some r) c = before
        call_events before None c = due_driven call (events_of ask settings log) c.1 before
    driven orderly (Got reply ∷ log) d =
        got (driven orderly log d) (fresh log orderly d) (verdict (standing (past settings log)) reply) (orderly settings (Got reply ∷ log))
      where
        got : IsDriven wanted step (events_of ask settings log)
            → ((x : Answer) → IsOrderly (accept (past settings log) x)
            → IsIn (operation_for x.asked.what) (asked_in (events_of ask settings log)) × (replies_in (events_of ask settings log) (operation_for x.asked.what) ≡ None))
            → (v : Result Taken Refused) → IsOrderly (after_verdict (past settings log) v)
            → IsDriven wanted step (got_event ask (past settings (Got reply ∷ log)) v (events_of ask settings log))
        got before new (Ok (taken.Opened x)) o = let f = new x o in (f.0, f.1, before)
        got before new (Ok (taken.Rejected x)) o = let f = new x o in (f.0, f.1, before)
        got before new (Ok (taken.Answered x)) o = let f = new x o in (f.0, f.1, before)
        got before new (Ok taken.Closed) o = before
        got before new (Err reason) o = before

    pub bound : BoundLaws → ((s : Settings) (l : Log) → IsOrderly (past s l)) → (log : Log) → IsWanted wanted → 0 < step → IsDrivenLog ask wanted step settings log
        → length (asked (past settings log)) ≤ 2 + length (up_to (count_in (replies_in (events_of ask settings log))) wanted)
    bound laws orderly log w lo d =
        subst (λ n. n ≤ 2 + length (up_to (count_in (replies_in (events_of ask settings log))) wanted)) (sym (sent_count log))
        (laws.requests wanted step (events_of ask settings log) w lo (driven orderly log d))
