-- If no reply is waited for, each request was answered.
use Rattle.std.proofs.Common.{◌≡◌, ◌⊎◌, inl, inr, Bool, true, false, cond, not, List, [], ◌∷◌, ◌++◌, filter, Option, None, Some, Result, Ok, Err, refl, sym, ap, subst, ◌∙◌, true≢false}
use Rattle.zplan.specs.Plan.{Operation, PlanEvent, Reply, same, asked_in, replies_in}
use Rattle.zplan.proofs.Order.{same_self}
use Rattle.zplan.specs.Positions.{IsIn}
use Rattle.zplan.proofs.Cuts.{in_left, in_right, in_either}
use Rattle.zorigin.specs.declared.settings.Settings.{Settings}
use Rattle.zorigin.specs.declared.settings.Ask.{Ask}
use Rattle.zorigin.specs.declared.answer.Asked.{Asked}
use Rattle.zorigin.specs.declared.answer.Answer.{Answer}
use Rattle.zorigin.specs.declared.answer.Taken.{Taken}
use Rattle.zorigin.specs.declared.answer.Taken.TheVariants as taken
use Rattle.zorigin.specs.declared.refusal.CallRefused.{CallRefused}
use Rattle.zorigin.specs.declared.refusal.Refused.{Refused}
use Rattle.zorigin.specs.Standings.{Call, Init, Search, Present, Close, is_open}
use Rattle.zorigin.specs.Calls.{refusal}
use Rattle.zorigin.specs.Replies.{verdict}
use Rattle.zorigin.specs.Changes.{init_asked, search_asked, present_asked}
use Rattle.zorigin.specs.Log.{Log, Made, Got, Past, past, standing, state_of, asked, operation_of, is_answer_to, is_answered, outstanding, admit_unless, after_verdict}
use Rattle.zorigin.proofs.Members.{contained, among}
use Rattle.zorigin.proofs.Operations.{same_op}
use Rattle.zorigin.proofs.Orderly.{orderly}
use Rattle.zoom_pool.specs.Driving.{plan_of, operation_for, reply_for, made_event, answer_event, got_event, events_of}
use Rattle.zoom_pool.specs.Drivers.{AllAnswered}
use Rattle.zoom_pool.proofs.Drivings.{asked_more, replies_call, same_events}
use Rattle.zoom_pool.proofs.Drivings as drivings
use Rattle.zoom_laws.proofs.AccordTheory.Members.{any_of}
use Rattle.zoom_laws.proofs.ExchangeTheory.Endings.{same_asked}

no_some : {A : Type 0} {x : A} → Some x ≡ None → ⊥
no_some e = cc

-- ---- each request was admitted

-- the operation that asks for it was admitted
abbrev IsFor : Past → Operation → Type 0
IsFor p a = (q : Asked) × IsIn q (asked p) × (operation_for q.what ≡ a)

for_older : (p : Past) (call : Call) (a : Operation) → IsFor p a → IsFor (admit_unless p call None) a
for_older p call a f =
    (f.0, subst (IsIn f.0) (sym (asked_more p call)) (in_left f.0 (asked p) (operation_of call) f.1), f.2)

for_newest : (p : Past) (call : Call) (q : Asked) (a : Operation) → IsIn q (operation_of call)
    → operation_for q.what ≡ a → IsFor (admit_unless p call None) a
for_newest p call q a i e =
    (q, subst (IsIn q) (sym (asked_more p call)) (in_right q (asked p) (operation_of call) i), e)

for_call : (p : Past) (call : Call) (events : List PlanEvent) (a : Operation)
    → (IsIn a (asked_in events) → IsFor p a) → IsIn a (asked_in (plan_of call ∷ events))
    → IsFor (admit_unless p call None) a
for_call p Init events a older (inl e) = for_newest p Init init_asked a (inl refl) (sym e)
for_call p Init events a older (inr i) = for_older p Init a (older i)
for_call p (Search op set ask) events a older (inl e) =
    for_newest p (Search op set ask) (search_asked op set) a (inl refl) (sym e)
for_call p (Search op set ask) events a older (inr i) = for_older p (Search op set ask) a (older i)
for_call p (Present op set ranges) events a older (inl e) =
    for_newest p (Present op set ranges) (present_asked op set ranges) a (inl refl) (sym e)
for_call p (Present op set ranges) events a older (inr i) = for_older p (Present op set ranges) a (older i)
for_call p Close events a older i = for_older p Close a (older i)

module _ (ask : Ask) (settings : Settings) where
  known_sent : (log : Log) (a : Operation) → IsIn a (asked_in (events_of ask settings log))
      → IsFor (past settings log) a
  known_sent [] a i = absurd i
  known_sent (Made call ∷ log) a i = made (known_sent log a) (refusal (standing (past settings log)) call) i
    where
      made : (IsIn a (asked_in (events_of ask settings log)) → IsFor (past settings log) a)
          → (r : Option CallRefused) → IsIn a (asked_in (made_event r call (events_of ask settings log)))
          → IsFor (admit_unless (past settings log) call r) a
      made older (Some reason) j = older j
      made older None j = for_call (past settings log) call (events_of ask settings log) a older j
  known_sent (Got reply ∷ log) a i =
      let p = past settings log in
      let v = verdict (standing p) reply in
      let f = known_sent log a (subst (IsIn a)
      (same_events ask (past settings (Got reply ∷ log)) v (events_of ask settings log)) i) in
      (f.0, subst (IsIn f.0) (sym (drivings.same_asked p v)) f.1, f.2)

  -- ---- each accepted APDU is a reply

  -- it has a reply
  abbrev HasReply : List PlanEvent → Operation → Type 0
  HasReply events a = replies_in events a ≡ None → ⊥

  reply_more : (p q : Past) (x : Answer) (events : List PlanEvent)
      → ((y : Answer) → IsIn y p.accepted → HasReply events (operation_for y.asked.what)) → (y : Answer)
      → IsIn y (p.accepted ++ x ∷ [])
      → HasReply (answer_event ask q (Some x) events) (operation_for y.asked.what)
  reply_more p q x events older y i = by (in_either y p.accepted (x ∷ []) i)
    where
      a : Operation
      a = operation_for y.asked.what

      r : Reply
      r = reply_for ask q x.reply

      by : IsIn y p.accepted ⊎ IsIn y (x ∷ []) → cond (same (operation_for x.asked.what) a) (Some r)
          (replies_in events a) ≡ None → ⊥
      by (inl j) =
          let before = older y j in
          elim (same (operation_for x.asked.what) a) as (λ b. cond b (Some r) (replies_in events a) ≡ None → ⊥) [
            | true ↦ λ e. no_some e
            | false ↦ λ e. before e
          ]
      by (inr (inl e)) =
          let t : same (operation_for x.asked.what) a ≡ true =
          ap (λ (z : Answer). same (operation_for z.asked.what) a) (sym e) ∙ same_self a in
          λ none. no_some (sym (ap (λ b. cond b (Some r) (replies_in events a)) t) ∙ none)
      by (inr (inr none)) = absurd none

  reply_verdict : (p q : Past) (v : Result Taken Refused) (events : List PlanEvent)
      → ((y : Answer) → IsIn y p.accepted → HasReply events (operation_for y.asked.what)) → (y : Answer)
      → IsIn y (after_verdict p v).accepted
      → HasReply (got_event ask q v events) (operation_for y.asked.what)
  reply_verdict p q (Ok (taken.Opened x)) events older y i = reply_more p q x events older y i
  reply_verdict p q (Ok (taken.Rejected x)) events older y i = reply_more p q x events older y i
  reply_verdict p q (Ok (taken.Answered x)) events older y i = reply_more p q x events older y i
  reply_verdict p q (Ok taken.Closed) events older y i = older y i
  reply_verdict p q (Err reason) events older y i =
      older y (elim (is_open (state_of p)) as
      (λ b. IsIn y (cond b (record p { fault = Some reason }) p).accepted → IsIn y p.accepted)
      [ true ↦ λ j. j | false ↦ λ j. j ] i)

  has_reply : (log : Log) (y : Answer) → IsIn y (past settings log).accepted
      → HasReply (events_of ask settings log) (operation_for y.asked.what)
  has_reply [] y i = absurd i
  has_reply (Made call ∷ log) y i = made (has_reply log y) (refusal (standing (past settings log)) call) i
    where
      made : (IsIn y (past settings log).accepted
          → HasReply (events_of ask settings log) (operation_for y.asked.what))
          → (r : Option CallRefused) → IsIn y (admit_unless (past settings log) call r).accepted
          → HasReply (made_event r call (events_of ask settings log)) (operation_for y.asked.what)
      made older (Some reason) j = older j
      made older None j = λ none. older j
          (sym (replies_call (operation_for y.asked.what) call (events_of ask settings log)) ∙ none)
  has_reply (Got reply ∷ log) y i =
      reply_verdict (past settings log) (past settings (Got reply ∷ log)) (verdict (standing (past settings log)) reply)
      (events_of ask settings log) (has_reply log) y i

-- ---- if no reply is outstanding

none_left : (u : Asked → Bool) (qs : List Asked) → filter u qs ≡ [] → (q : Asked) → IsIn q qs → u q ≡ false
none_left u [] e q i = absurd i
none_left u (x ∷ qs) e q i =
    let later = λ (f : filter u qs ≡ []). none_left u qs f q in
    elim (u x) as (λ b. u x ≡ b → cond b (x ∷ filter u qs) (filter u qs) ≡ [] → u q ≡ false) [
      | true ↦ λ t f. absurd (cc)
      | false ↦ λ t f. (elim i [ inl same ↦ ap u same ∙ t | inr j ↦ later f j ])
    ] refl e

not_false : (b : Bool) → not b ≡ false → b ≡ true
not_false true e = refl
not_false false e = absurd (true≢false e)

pub all_answered : (ask : Ask) (settings : Settings) (log : Log) → outstanding (past settings log) ≡ []
    → AllAnswered (events_of ask settings log)
all_answered ask settings log none a i =
    let p = past settings log in
    let q = known_sent ask settings log a i in
    let t = not_false (is_answered p q.0.op)
    (none_left (λ (z : Asked). not (is_answered p z.op)) (asked p) none q.0 q.1) in
    let x = any_of (is_answer_to q.0.op) p.accepted t in
    let o = orderly settings log in
    let there = among x.0.asked (asked p) (o.known x.0 (contained x.0 p.accepted x.1)) in
    let same = same_asked (asked p) x.0.asked q.0 o.operations there q.1 (same_op x.0.asked.op q.0.op x.2) in
    let is : operation_for x.0.asked.what ≡ a = ap (λ (z : Asked). operation_for z.what) same ∙ q.2 in
    subst (λ z. replies_in (events_of ask settings log) z ≡ None → ⊥) is (has_reply ask settings log x.0 x.1)
