-- Each accepted answer is a reply of the plan, and on a complete connection each operation that is asked was answered.
use Rattle.std.proofs.Common.{◌≡◌, inl, inr, ℕ, Bool, true, false, cond, List, [], ◌∷◌, ◌++◌, map, Option, None, Some, Result, Ok, Err, refl, sym, ap, subst, ◌∙◌, arith, true≢false}
use Rattle.std.specs.Prelude.{◌&&◌, not, nat_eq}
use Rattle.std.specs.List.{list_any, find, IsDistinct, AllByRecursion}
use Rattle.std.proofs.lemmas.Bool.{or_cases}
use Rattle.std.proofs.lemmas.Bool.Decides.{nat_tests}
use Rattle.std.proofs.lemmas.Map.Keys.{IsDistinct-head, IsDistinct-tail}
use Rattle.zplan.specs.Plan as plan
use Rattle.zplan.specs.Plan.{Operation, PlanEvent, ReplyAccepted, Reply, InitReply, same, number, replies_in, WasRefused, IsPlanAnswered, IsComplete}
use Rattle.zplan.specs.Positions.{IsIn}
use Rattle.zplan.proofs.Cuts.{in_either}
use Rattle.zplan.proofs.Order.{same_self, complete_whole as whole_of}
use Rattle.zapdu.specs.declared.apdu.Apdu.{Apdu}
use Rattle.zapdu.specs.declared.apdu.Apdu.TheVariants as apdus
use Rattle.zorigin.specs.declared.settings.Settings.{Settings}
use Rattle.zorigin.specs.declared.settings.Ask.{Ask}
use Rattle.zorigin.specs.declared.answer.Answer.{Answer}
use Rattle.zorigin.specs.declared.answer.Taken.{Taken}
use Rattle.zorigin.specs.declared.answer.Taken.TheVariants as taken
use Rattle.zorigin.specs.declared.refusal.CallRefused.{CallRefused}
use Rattle.zorigin.specs.declared.refusal.Refused.{Refused}
use Rattle.zorigin.specs.Changes.{options_in_force}
use Rattle.zorigin.specs.Standings.{Call, is_open}
use Rattle.zorigin.specs.Calls.{refusal}
use Rattle.zorigin.specs.Replies.{verdict}
use Rattle.zorigin.specs.Log.{Log, Made, Got, Past, past, standing, state_of, opening, is_opening, asked, is_close_call, admit_unless, after_verdict}
use Rattle.zorigin.specs.Laws.{IsOrderly, answered_op}
use Rattle.zoom_pool.specs.Driving.{operation_for, reply_for, can_search, got_event, made_event, events_of, IsDrivenLog}
use Rattle.zoom_pool.specs.Steering.{is_rejected, is_rejection, complete_in}
use Rattle.zorigin.proofs.Members.{among, contained}
use Rattle.zoom_pool.proofs.Drivings.{replies_call, numbered, driven}
use Rattle.zoom_laws.proofs.ScheduleTheory.Complete.{closed_in}
use Rattle.zoom_laws.proofs.ScheduleTheory.Replies.{came}
use Rattle.zoom_laws.proofs.ScheduleTheory.Same.{for_opens}

-- ---- each accepted answer

abbrev Replied : List PlanEvent → Answer → Type 0
Replied events x = (r : Reply) × (replies_in events (operation_for x.asked.what) ≡ Some r)

module _ (ask : Ask) (settings : Settings) where
  -- a reply stays, whatever is received later
  still : (op : Operation) (r : Reply) (events : List PlanEvent) (x : Answer) → Replied events x → Replied (ReplyAccepted op r ∷ events) x
  still op r events x s =
      elim (same op (operation_for x.asked.what)) as
      (λ b. (u : Reply) × (cond b (Some r) (replies_in events (operation_for x.asked.what)) ≡ Some u))
      [ true ↦ (r, refl) | false ↦ s ]

  here : (r : Reply) (events : List PlanEvent) (x : Answer) → Replied (ReplyAccepted (operation_for x.asked.what) r ∷ events) x
  here r events x =
      (r, ap (λ b. cond b (Some r) (replies_in events (operation_for x.asked.what))) (same_self (operation_for x.asked.what)))

  last : (p : Past) (y : Answer) (events : List PlanEvent) (r : Reply) (x : Answer)
      → (IsIn x p.accepted → Replied events x) → IsIn x (p.accepted ++ y ∷ [])
      → Replied (ReplyAccepted (operation_for y.asked.what) r ∷ events) x
  last p y events r x old i = elim (in_either x p.accepted (y ∷ []) i) [
    | inl j ↦ still (operation_for y.asked.what) r events x (old j)
    | inr j ↦ now j
  ]
    where
      now : IsIn x (y ∷ []) → Replied (ReplyAccepted (operation_for y.asked.what) r ∷ events) x
      now (inl e) = subst (λ z. Replied (ReplyAccepted (operation_for z.asked.what) r ∷ events) x) e (here r events x)
      now (inr none) = absurd none

  got : (q p : Past) (v : Result Taken Refused) (events : List PlanEvent) (x : Answer)
      → (IsIn x p.accepted → Replied events x) → IsIn x (after_verdict p v).accepted → Replied (got_event ask q v events) x
  got q p (Ok (taken.Opened y)) events x old i = last p y events (reply_for ask q y.reply) x old i
  got q p (Ok (taken.Rejected y)) events x old i = last p y events (reply_for ask q y.reply) x old i
  got q p (Ok (taken.Answered y)) events x old i = last p y events (reply_for ask q y.reply) x old i
  got q p (Ok taken.Closed) events x old i = old i
  got q p (Err reason) events x old i =
      old (elim (is_open (state_of p)) as (λ b. IsIn x (cond b (record p { fault = Some reason }) p).accepted → IsIn x p.accepted)
      [ true ↦ λ j. j | false ↦ λ j. j ] i)

  made : (p : Past) (call : Call) (r : Option CallRefused) (events : List PlanEvent) (x : Answer)
      → (IsIn x p.accepted → Replied events x) → IsIn x (admit_unless p call r).accepted → Replied (made_event r call events) x
  made p call (Some r) events x old i = old i
  made p call None events x old i =
      let s = old i in (s.0, replies_call (operation_for x.asked.what) call events ∙ s.1)

  -- it is a reply of the plan
  pub is_replied : (log : Log) (x : Answer) → IsIn x (past settings log).accepted → Replied (events_of ask settings log) x
  is_replied [] x i = absurd i
  is_replied (Made call ∷ log) x i =
      made (past settings log) call (refusal (standing (past settings log)) call) (events_of ask settings log) x (is_replied log x) i
  is_replied (Got reply ∷ log) x i =
      got (past settings (Got reply ∷ log)) (past settings log) (verdict (standing (past settings log)) reply)
      (events_of ask settings log) x (is_replied log x) i

-- ---- one answer for each number

all_apart : (k : ℕ) (xs : List Answer) (x : Answer) → AllByRecursion (λ j. nat_eq k j ≡ false) (map answered_op xs) → IsIn x xs
    → nat_eq k (answered_op x) ≡ false
all_apart k [] x h i = absurd i
all_apart k (y ∷ xs) x h (inl e) = subst (λ z. nat_eq k (answered_op z) ≡ false) (sym e) h.0
all_apart k (y ∷ xs) x h (inr i) = all_apart k xs x h.1 i

one_answer : (xs : List Answer) (x y : Answer) → IsDistinct nat_eq (map answered_op xs) → IsIn x xs → IsIn y xs
    → answered_op x ≡ answered_op y → x ≡ y
one_answer [] x y d i j e = absurd i
one_answer (z ∷ xs) x y d (inl a) (inl b) e = a ∙ sym b
one_answer (z ∷ xs) x y d (inr i) (inr j) e =
    one_answer xs x y (IsDistinct-tail nat_eq (answered_op z) (map answered_op xs) d) i j e
one_answer (z ∷ xs) x y d (inl a) (inr j) e =
    let f = all_apart (answered_op z) xs y (IsDistinct-head nat_eq (answered_op z) (map answered_op xs) d) j in
    let g : answered_op z ≡ answered_op y = sym (ap answered_op a) ∙ e in
    let t : nat_eq (answered_op z) (answered_op y) ≡ true = grind (arith, nat_tests, g) in
    absurd (true≢false (sym t ∙ f))
one_answer (z ∷ xs) x y d (inr i) (inl b) e =
    let f = all_apart (answered_op z) xs x (IsDistinct-head nat_eq (answered_op z) (map answered_op xs) d) i in
    let g : answered_op z ≡ answered_op x = sym (e ∙ ap answered_op b) in
    let t : nat_eq (answered_op z) (answered_op x) ≡ true = grind (arith, nat_tests, g) in
    absurd (true≢false (sym t ∙ f))

-- ---- a complete connection

-- the first opening reply is one of them
find_in : (xs : List Answer) (x : Answer) → find is_opening xs ≡ Some x → IsIn x xs × (is_opening x ≡ true)
find_in [] x e = absurd cc
find_in (z ∷ xs) x e =
    elim (is_opening z) as (λ b. is_opening z ≡ b → cond b (Some z) (find is_opening xs) ≡ Some x → IsIn x (z ∷ xs) × (is_opening x ≡ true)) [
      | true ↦ λ is f.
          let same : z ≡ x = cc in
          (subst (λ y. IsIn y (z ∷ xs)) same (inl refl), subst (λ y. is_opening y ≡ true) same is)
      | false ↦ λ is f. let r = find_in xs x f in (inr r.0, r.1)
    ] refl e

module _ (ask : Ask) (wanted : List ℕ) (step : ℕ) (settings : Settings)
    (orderly : (s : Settings) (l : Log) → IsOrderly (past s l)) where
  -- a rejected association opened nothing
  opens_nothing : (p : Past) (x : Apdu) → is_rejection x ≡ true → (three : Bool) × (reply_for ask p x ≡ InitReply false three)
  opens_nothing p (apdus.InitResponse v) refused = by v.result refused
    where
      by : (b : Bool) → not b ≡ true
          → (three : Bool) × (InitReply (b && can_search ask p) (options_in_force v).v3 ≡ InitReply false three)
      by true k = absurd cc
      by false k = ((options_in_force v).v3, refl)
  opens_nothing p (apdus.InitRequest v) refused = absurd cc
  opens_nothing p (apdus.SearchRequest v) refused = absurd cc
  opens_nothing p (apdus.SearchResponse v) refused = absurd cc
  opens_nothing p (apdus.PresentRequest v) refused = absurd cc
  opens_nothing p (apdus.PresentResponse v) refused = absurd cc
  opens_nothing p (apdus.Close v) refused = absurd cc

  rejected_in : (log : Log) → IsDrivenLog ask wanted step settings log
      → is_rejected (opening (past settings log)) ≡ true → WasRefused (replies_in (events_of ask settings log))
  rejected_in log d e = by (opening (past settings log)) refl e
    where
      p : Past
      p = past settings log

      by : (o : Option Answer) → opening p ≡ o → is_rejected o ≡ true → WasRefused (replies_in (events_of ask settings log))
      by None is refused = absurd cc
      by (Some x) is refused =
          let c = came ask wanted step settings orderly log d plan.Init known.0 first in
          let same = one_answer p.accepted c.answer x (orderly settings log).once c.there there.0
          (number_of c.answer c.there c.for ∙ sym (number_of x there.0 op)) in
          let o = opens_nothing (past settings (Got c.reply ∷ c.earlier)) c.answer.reply
          (subst (λ z. is_rejection z.reply ≡ true) (sym same) refused) in
          (o.0, first ∙ ap (λ z. Some z) (c.says ∙ o.1))
        where
          there : IsIn x p.accepted × (is_opening x ≡ true)
          there = find_in p.accepted x is

          op : operation_for x.asked.what ≡ plan.Init
          op = for_opens x there.1

          known : Replied (events_of ask settings log) x
          known = is_replied ask settings log x there.0

          first : replies_in (events_of ask settings log) plan.Init ≡ Some known.0
          first = subst (λ z. replies_in (events_of ask settings log) z ≡ Some known.0) op known.1

          number_of : (y : Answer) → IsIn y p.accepted → operation_for y.asked.what ≡ plan.Init → answered_op y ≡ 0
          number_of y i f =
              numbered ask settings wanted step log d y.asked
              (among y.asked (asked p) ((orderly settings log).known y (contained y p.accepted i)))
              ∙ ap number f

  -- it is complete by the plan
  pub complete_by : (log : Log) → IsDrivenLog ask wanted step settings log → complete_in (past settings log) ≡ true
      → IsComplete wanted step (events_of ask settings log)
  complete_by log d e = record {
    driven = driven ask settings wanted step orderly log d;
    ended = elim (or_cases (is_rejected (opening (past settings log))) (list_any is_close_call (past settings log).admitted) e) [
      | inl refused ↦ inr (rejected_in log d refused)
      | inr closed ↦ inl (closed_in ask settings log closed)
    ];
  }

  -- each operation that is asked was answered
  pub complete_whole : (log : Log) → IsDrivenLog ask wanted step settings log → complete_in (past settings log) ≡ true
      → IsPlanAnswered wanted step (events_of ask settings log)
  complete_whole log d e = whole_of wanted step (events_of ask settings log) (complete_by log d e)
