-- The reply to Init alone decides what is in force.
use Rattle.std.proofs.Common.{◌≡◌, ◌⊎◌, inl, inr, ℕ, Bool, true, false, cond, List, [], ◌∷◌, ◌++◌, Option, None, Some, Result, Ok, Err, refl, sym, ap, subst, ◌∙◌}
use Rattle.std.specs.Prelude.{Contains}
use Rattle.std.specs.List.{find}
use Rattle.zplan.specs.Plan as plan
use Rattle.zplan.specs.Plan.{Operation, ReplyAccepted, Reply, InitReply, same, replies_in, IsPlanned, first, search, cut, rest, IsDriven}
use Rattle.zplan.specs.Positions.{IsIn}
use Rattle.zplan.proofs.Order.{sent_asked}
use Rattle.zapdu.specs.declared.apdu.Apdu.{Apdu}
use Rattle.zapdu.specs.declared.apdu.Apdu.TheVariants as apdus
use Rattle.zorigin.specs.declared.settings.Settings.{Settings}
use Rattle.zorigin.specs.declared.settings.Ask.{Ask}
use Rattle.zorigin.specs.declared.answer.Answer.{Answer}
use Rattle.zorigin.specs.declared.answer.Taken.{Taken}
use Rattle.zorigin.specs.declared.answer.Taken.TheVariants as taken
use Rattle.zorigin.specs.declared.refusal.CallRefused.{CallRefused}
use Rattle.zorigin.specs.declared.refusal.Refused.{Refused}
use Rattle.zorigin.specs.Changes.{init_asked}
use Rattle.zorigin.specs.Standings.{Call, Init, Search, Present, Close, is_open, Standing}
use Rattle.zorigin.specs.Calls.{refusal}
use Rattle.zorigin.specs.declared.refusal.Refused.TheVariants as refused
use Rattle.zorigin.specs.Replies.{verdict, open_verdict}
use Rattle.zorigin.specs.Log.{Log, Made, Got, Past, past, standing, state_of, state_from, is_opening, force_after, asked, admit_unless, accept, after_verdict}
use Rattle.zorigin.specs.Laws.{IsOrderly}
use Rattle.zoom_pool.specs.Transcripts.{answer_in}
use Rattle.zoom_pool.specs.Driving.{plan_of, operation_for, reply_for, can_search, got_event, made_event, events_of, IsDueCall, IsDueEvent, IsDrivenLog}
use Rattle.zoom_pool.specs.Laws.{plain}
use Rattle.zorigin.proofs.Members.{among, contained}
use Rattle.zoom_pool.proofs.Drivings.{in_last, same_asked, sent_known, replies_call, driven}
use Rattle.zoom_laws.proofs.ScheduleTheory.Replies.{CameFrom}

-- ---- before the reply to Init

module _ (wanted : List ℕ) (step : ℕ) where
  -- other operations are asked only after Init was answered
  pub init_replied : (replies : plan.Replies) (a : Operation) → IsPlanned wanted step replies a
      → (a ≡ plan.Init) ⊎ ((three : Bool) × (replies plan.Init ≡ Some (InitReply true three)))
  init_replied replies plan.Init first = inl refl
  init_replied replies plan.Search (search three i h) = inr (three, h)
  init_replied replies (plan.Present l) (cut three count i m b o h lt x) = inr (three, o)
  init_replied replies (plan.Present l) (rest m k b h lo hi) =
      elim (init_replied replies (plan.Present m) b) [ inl e ↦ absurd cc | inr e ↦ inr e ]

  only_init : (replies : plan.Replies) (a : Operation) → replies plan.Init ≡ None → IsPlanned wanted step replies a
      → a ≡ plan.Init
  only_init replies a none is = elim (init_replied replies a is) [
    | inl e ↦ e
    | inr e ↦ absurd (let x : None ≡ Some (InitReply true e.0) = sym none ∙ e.1 in cc)
  ]

  -- only Init can have been called, and nothing was accepted
  pub record IsEarly (p : Past) : Type 0 where
    pub admitted : (p.admitted ≡ []) ⊎ (p.admitted ≡ Init ∷ [])
    pub accepted : p.accepted ≡ []

  module _ (ask : Ask) (settings : Settings) (orderly : (s : Settings) (l : Log) → IsOrderly (past s l)) where
    early_call : (log : Log) (call : Call) → replies_in (events_of ask settings log) plan.Init ≡ None
        → IsEarly (past settings log) → IsDueEvent ask wanted step (events_of ask settings log) (plan_of call)
        → IsEarly (admit_unless (past settings log) call None)
    early_call log Init none e due = elim e.admitted [
      | inl nothing ↦ record { admitted = inr (ap (λ l. l ++ Init ∷ []) nothing); accepted = e.accepted }
      | inr one ↦ absurd (due.1 (sent_known ask settings log init_asked
          (subst (λ l. IsIn init_asked (asked (record (past settings log) { admitted = l }))) (sym one) (inl refl))))
    ]
    early_call log (Search op set a) none e due =
        absurd (let x = only_init (replies_in (events_of ask settings log)) plan.Search none due.0 in cc)
    early_call log (Present op set ranges) none e due =
        absurd (let x = only_init (replies_in (events_of ask settings log)) _ none due.0 in cc)
    early_call log Close none e due =
        absurd (let r = due plan.Init first in let x : None ≡ Some r.0 = sym none ∙ r.1 in cc)

    pub early : (log : Log) → IsDrivenLog ask wanted step settings log
        → replies_in (events_of ask settings log) plan.Init ≡ None → IsEarly (past settings log)
    early [] d none = record { admitted = inl refl; accepted = refl }
    early (Made call ∷ log) d none = made (early log d.1) (refusal (standing (past settings log)) call) d.0 none
      where
        made : (replies_in (events_of ask settings log) plan.Init ≡ None → IsEarly (past settings log))
            → (r : Option CallRefused) → IsDueCall ask wanted step (events_of ask settings log) r call
            → replies_in (made_event r call (events_of ask settings log)) plan.Init ≡ None
            → IsEarly (admit_unless (past settings log) call r)
        made before (Some r) c n = before n
        made before None c n =
            let m = sym (replies_call plan.Init call (events_of ask settings log)) ∙ n in
            early_call log call m (before m) c.1
    early (Got reply ∷ log) d none =
        got (early log d) (verdict (standing (past settings log)) reply) (driven ask settings wanted step orderly (Got reply ∷ log) d) none
      where
        p : Past
        p = past settings log

        q : Past
        q = past settings (Got reply ∷ log)

        -- only Init can be answered
        never : (op : Operation) (r : Reply) → IsDriven wanted step (ReplyAccepted op r ∷ events_of ask settings log)
            → replies_in (ReplyAccepted op r ∷ events_of ask settings log) plan.Init ≡ None → ⊥
        never op r g n =
            elim (same op plan.Init) as
            (λ b. same op plan.Init ≡ b → cond b (Some r) (replies_in (events_of ask settings log) plan.Init) ≡ None → ⊥) [
              | true ↦ λ b k. cc
              | false ↦ λ b k.
                  let is = only_init (replies_in (events_of ask settings log)) op k
                  (sent_asked wanted step (events_of ask settings log) g.2 op g.0) in
                  let t : same op plan.Init ≡ true = ap (λ z. same z plan.Init) is in
                  let x : true ≡ false = sym t ∙ b in cc
            ] refl n

        got : (replies_in (events_of ask settings log) plan.Init ≡ None → IsEarly (past settings log))
            → (v : Result Taken Refused) → IsDriven wanted step (got_event ask q v (events_of ask settings log))
            → replies_in (got_event ask q v (events_of ask settings log)) plan.Init ≡ None → IsEarly (after_verdict p v)
        got before (Ok (taken.Opened x)) g n = absurd (never (operation_for x.asked.what) (reply_for ask q x.reply) g n)
        got before (Ok (taken.Rejected x)) g n = absurd (never (operation_for x.asked.what) (reply_for ask q x.reply) g n)
        got before (Ok (taken.Answered x)) g n = absurd (never (operation_for x.asked.what) (reply_for ask q x.reply) g n)
        got before (Ok taken.Closed) g n = let e = before n in record { admitted = e.admitted; accepted = e.accepted }
        got before (Err reason) g n =
            let e = before n in
            elim (is_open (state_of p)) as (λ b. IsEarly (cond b (record p { fault = Some reason }) p)) [
              | true ↦ record { admitted = e.admitted; accepted = e.accepted }
              | false ↦ e
            ]

-- ---- after it was accepted

-- a log with nothing admitted or accepted but Init and its reply
abbrev pub opened_past : Settings → List Apdu → Apdu → Past
opened_past settings sent reply = record {
  settings = settings;
  admitted = Init ∷ [];
  sent = sent;
  accepted = record { asked = init_asked; reply = reply } ∷ [];
  closed = false;
  fault = None;
}

-- the search can be sent, and records can be asked for, or not, whatever the reference id
search_plain : (ask : Ask) (settings : Settings) (sent : List Apdu) (x : Apdu)
    → can_search ask (opened_past settings sent x) ≡ can_search ask (opened_past settings sent (plain x))
search_plain ask settings sent (apdus.InitRequest v) = refl
search_plain ask settings sent (apdus.InitResponse v) = refl
search_plain ask settings sent (apdus.SearchRequest v) = refl
search_plain ask settings sent (apdus.SearchResponse v) = refl
search_plain ask settings sent (apdus.PresentRequest v) = refl
search_plain ask settings sent (apdus.PresentResponse v) = refl
search_plain ask settings sent (apdus.Close v) = refl

-- and whatever was sent, by whatever name
search_alike : (ask : Ask) (one other : Settings) (sent more : List Apdu) (x : Apdu)
    → can_search ask (opened_past one sent x) ≡ can_search ask (opened_past other more x)
unfolding refusal
search_alike ask one other sent more x = refl

pub search_same : (ask : Ask) (one other : Settings) (sent more : List Apdu) (x y : Apdu) → plain x ≡ plain y
    → can_search ask (opened_past one sent x) ≡ can_search ask (opened_past other more y)
search_same ask one other sent more x y e =
    search_alike ask one other sent more x ∙ search_plain ask other more x
    ∙ ap (λ z. can_search ask (opened_past other more z)) e ∙ sym (search_plain ask other more y)

-- what is in force after an answer
abbrev pub shows_after : Apdu → Bool
shows_after reply = (force_after (Some (record { asked = init_asked; reply = reply }))).present

shows_plain : (x : Apdu) → shows_after x ≡ shows_after (plain x)
shows_plain (apdus.InitRequest v) = refl
shows_plain (apdus.InitResponse v) = refl
shows_plain (apdus.SearchRequest v) = refl
shows_plain (apdus.SearchResponse v) = refl
shows_plain (apdus.PresentRequest v) = refl
shows_plain (apdus.PresentResponse v) = refl
shows_plain (apdus.Close v) = refl

pub shows_same : (x y : Apdu) → plain x ≡ plain y → shows_after x ≡ shows_after y
shows_same x y e = shows_plain x ∙ ap shows_after e ∙ sym (shows_plain y)

-- ---- at the reply to Init

pub was_open : (s : Standing) (reply : Apdu) (t : Taken) → verdict s reply ≡ Ok t → is_open s.state ≡ true
unfolding verdict
was_open s reply t e =
    elim (is_open s.state) as (λ b. cond b (open_verdict s reply) (Err refused.WrongState) ≡ Ok t → b ≡ true) [
      | true ↦ λ k. refl
      | false ↦ λ k. absurd cc
    ] e

-- if only Init was called, and replies are taken, the connection was neither closed nor failed
sound : (fault : Option Refused) (closed : Bool) → is_open (state_from fault closed false true None) ≡ true
    → (fault ≡ None) × (closed ≡ false)
sound None true e = absurd cc
sound None false e = (refl, refl)
sound (Some r) true e = absurd cc
sound (Some r) false e = absurd cc

module _ (ask : Ask) (wanted : List ℕ) (step : ℕ) (settings : Settings)
    (orderly : (s : Settings) (l : Log) → IsOrderly (past s l)) where
  accepted_past : (p : Past) (t : Taken) (x : Answer) → answer_in t ≡ Some x → after_verdict p (Ok t) ≡ accept p x
  accepted_past p (taken.Opened y) x e = ap (accept p) (let is : y ≡ x = cc in is)
  accepted_past p (taken.Rejected y) x e = ap (accept p) (let is : y ≡ x = cc in is)
  accepted_past p (taken.Answered y) x e = ap (accept p) (let is : y ≡ x = cc in is)
  accepted_past p taken.Closed x e = absurd cc

  -- the log has nothing admitted or accepted but Init and its reply
  pub at_opening : (log : Log) (r : Reply) (c : CameFrom ask wanted step settings log plan.Init r)
      → past settings (Got c.reply ∷ c.earlier)
      ≡ opened_past (past settings c.earlier).settings (past settings c.earlier).sent c.answer.reply
  at_opening log r c = to
    where
      p : Past
      p = past settings c.earlier

      after : past settings (Got c.reply ∷ c.earlier) ≡ accept p c.answer
      after = ap (after_verdict p) c.judged ∙ accepted_past p c.taken c.answer c.brings

      e : IsEarly wanted step p
      e = early wanted step ask settings orderly c.earlier c.driven c.none

      there : Contains (asked p) c.answer.asked
      there = subst (λ l. Contains l c.answer.asked) (same_asked p (verdict (standing p) c.reply))
          ((orderly settings (Got c.reply ∷ c.earlier)).known c.answer
          (subst (λ z. Contains z.accepted c.answer) (sym after)
          (contained c.answer (p.accepted ++ c.answer ∷ []) (in_last c.answer p.accepted))))

      called : p.admitted ≡ Init ∷ []
      called = elim e.admitted [
        | inl nothing ↦ absurd (among c.answer.asked []
            (subst (λ l. Contains (asked (record p { admitted = l })) c.answer.asked) nothing there))
        | inr one ↦ one
      ]

      is_init : c.answer.asked ≡ init_asked
      is_init = from (among c.answer.asked (init_asked ∷ [])
          (subst (λ l. Contains (asked (record p { admitted = l })) c.answer.asked) called there))
        where
          from : IsIn c.answer.asked (init_asked ∷ []) → c.answer.asked ≡ init_asked
          from (inl is) = is
          from (inr is) = absurd is

      stands : is_open (state_from p.fault p.closed false true None) ≡ true
      stands =
          subst (λ l. is_open (state_from p.fault p.closed false true (find is_opening l)) ≡ true) e.accepted
          (subst (λ l. is_open (state_of (record p { admitted = l })) ≡ true) called
          (was_open (standing p) c.reply c.taken c.judged))

      to : past settings (Got c.reply ∷ c.earlier) ≡ opened_past p.settings p.sent c.answer.reply
      to =
          let s = sound p.fault p.closed stands in
          after ∙ (λ i. record {
            settings = p.settings;
            admitted = called i;
            sent = p.sent;
            accepted = e.accepted i ++ record { asked = is_init i; reply = c.answer.reply } ∷ [];
            closed = s.1 i;
            fault = s.0 i;
          })
