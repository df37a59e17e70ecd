-- The search is skipped exactly on a connection whose target accepts associations, if the search cannot be sent to it.
use Rattle.std.proofs.Common.{◌≡◌, ◌⊎◌, inl, inr, ℕ, Bool, true, false, List, [], ◌∷◌, Option, None, Some, refl, sym, ap, ◌∙◌, true≢false}
use Rattle.std.specs.Prelude.{◌≢◌, not, ◌||◌, Contains}
use Rattle.std.specs.List.{flat_map}
use Rattle.zplan.specs.Plan as plan
use Rattle.zplan.specs.Plan.{InitReply, replies_in}
use Rattle.zplan.specs.Positions.{IsIn}
use Rattle.zplan.specs.Laws.{ShownLaws}
use Rattle.zplan.proofs.Order.{sent_asked}
use Rattle.zorigin.specs.declared.settings.Settings.{Settings}
use Rattle.zorigin.specs.declared.settings.Ask.{Ask}
use Rattle.zplan.specs.declared.range.Range.{Range}
use Rattle.zplan.specs.Ranges.{positions}
use Rattle.zorigin.specs.declared.answer.Answer.{Answer}
use Rattle.zorigin.specs.declared.refusal.CallRefused.{CallRefused}
use Rattle.zorigin.specs.declared.refusal.CallRefused.TheVariants as refused
use Rattle.zorigin.specs.declared.state.InForce.{InForce}
use Rattle.zorigin.specs.Changes.{search_asked}
use Rattle.zorigin.specs.Fitting.{first_row}
use Rattle.zorigin.specs.Standings.{Call, Init, Search, Present, Close, Standing, is_ready}
use Rattle.zorigin.specs.Sending.{search_request, is_unsendable}
use Rattle.zorigin.specs.Calls.{refusal, or_unsendable, unsendable, not_offered, op_used, set_used, set_unknown, set_not_ready, set_replaced, out_of_range, busy}
use Rattle.zorigin.specs.Replies.{verdict}
use Rattle.zorigin.specs.Log.{Log, Made, Got, past, standing, state_of, opening, is_opening, operation_of, search_in}
use Rattle.zorigin.specs.Accepts.{IsAccepted}
use Rattle.zorigin.specs.Laws.{IsOrderly}
use Rattle.ztarget.specs.declared.database.Database.{Database}
use Rattle.ztarget.specs.declared.settings.TargetSettings.{TargetSettings}
use Rattle.ztarget.specs.Replies.{replies}
use Rattle.ztarget.specs.Laws.{KeptSets, LargestResponses}
use Rattle.zoom_questions.specs.declared.question.Question.{Question}
use Rattle.zoom_questions.specs.declared.question.MetaSettings.{MetaSettings}
use Rattle.zoom_pool.specs.Driving.{events_of, IsNumbered}
use Rattle.zoom_pool.specs.Steering.{Errand, ask_of, errand_of, complete_in, is_skip, skipped_in, is_rejection, is_rejected, IsCallOf, IsSteered, IsSteeredCall, IsTried}
use Rattle.zoom_pool.specs.Drivers.{DriverState, IsDriver}
use Rattle.zoom_pool.proofs.Drivings.{sent_known}
use Rattle.zoom_pool.proofs.MetaLaws.{driver_of}
use Rattle.zoom_laws.specs.Accord.{requests}
use Rattle.zoom_laws.specs.Catalogue.{CanAsk, SkippedLaw}
use Rattle.zoom_laws.proofs.ExchangeTheory.Tried.{tried}
use Rattle.zoom_laws.proofs.ScheduleTheory.Openings.{init_replied}
use Rattle.zoom_laws.proofs.ScheduleTheory.Replies.{kept_call, kept_reply}
use Rattle.zoom_laws.proofs.CatalogueTheory.Standings.{accepts, find_in, OpenedSo, ready}
use Rattle.zoom_laws.proofs.CatalogueTheory.OperationReplies.{opened}
use Rattle.zoom_laws.proofs.CatalogueTheory.CompleteFacts.{init_accepted, plan_driven, talked}

-- ---- a search that is refused

-- the rows of a search that is offered
abbrev search_rows : Bool → Bool → Bool → Bool → Bool → Bool → Bool → Bool → List (Bool × CallRefused)
search_rows a b c d e f g h =
    (a, refused.WrongState)
    ∷ (false, refused.NotOffered)
    ∷ (b, refused.OpUsed)
    ∷ (c, refused.SetUsed)
    ∷ (d, refused.SetUnknown)
    ∷ (e, refused.SetNotReady)
    ∷ (f, refused.SetReplaced)
    ∷ (g, refused.OutOfRange)
    ∷ (h, refused.Busy)
    ∷ []

-- a search that is offered and can be sent is not skipped
no_skip : (call : Call) (a b c d e f g h : Bool)
    → is_skip (or_unsendable false (first_row (search_rows a b c d e f g h))) call ≡ false
no_skip call true b c d e f g h = refl
no_skip call false true c d e f g h = refl
no_skip call false false true d e f g h = refl
no_skip call false false false true e f g h = refl
no_skip call false false false false true f g h = refl
no_skip call false false false false false true g h = refl
no_skip call false false false false false false true h = refl
no_skip call false false false false false false false true = refl
no_skip call false false false false false false false false = refl

offered_sent : (s : Standing) (op set : ℕ) (ask : Ask) → s.force.search ≡ true
    → is_unsendable (search_request s.force.named op set ask) ≡ false
    → is_skip (refusal s (Search op set ask)) (Search op set ask) ≡ false
unfolding refusal
offered_sent s op set ask offered sendable =
    let call = Search op set ask in
    ap (λ u. is_skip (or_unsendable u (first_row (
    (not (is_ready s.state), refused.WrongState)
    ∷ (not s.force.search, refused.NotOffered)
    ∷ (op_used s call, refused.OpUsed)
    ∷ (set_used s call, refused.SetUsed)
    ∷ (set_unknown s call, refused.SetUnknown)
    ∷ (set_not_ready s call, refused.SetNotReady)
    ∷ (set_replaced s call, refused.SetReplaced)
    ∷ (out_of_range s call, refused.OutOfRange)
    ∷ (busy s call, refused.Busy)
    ∷ []))) call) sendable
    ∙ ap (λ (z : Bool). is_skip (or_unsendable false (first_row (
    (not (is_ready s.state), refused.WrongState)
    ∷ (not z, refused.NotOffered)
    ∷ (op_used s call, refused.OpUsed)
    ∷ (set_used s call, refused.SetUsed)
    ∷ (set_unknown s call, refused.SetUnknown)
    ∷ (set_not_ready s call, refused.SetNotReady)
    ∷ (set_replaced s call, refused.SetReplaced)
    ∷ (out_of_range s call, refused.OutOfRange)
    ∷ (busy s call, refused.Busy)
    ∷ []))) call) offered
    ∙ no_skip call (not (is_ready s.state)) (op_used s call) (set_used s call) (set_unknown s call)
    (set_not_ready s call) (set_replaced s call) (out_of_range s call) (busy s call)

-- nothing is skipped before the association was accepted
unready : (s : Standing) (op set : ℕ) (ask : Ask) → is_ready s.state ≡ false
    → is_skip (refusal s (Search op set ask)) (Search op set ask) ≡ false
unfolding refusal
unready s op set ask e =
    let call = Search op set ask in
    ap (λ (z : Bool). is_skip (or_unsendable (unsendable s call) (first_row (
    (not z, refused.WrongState)
    ∷ (not_offered s call, refused.NotOffered)
    ∷ (op_used s call, refused.OpUsed)
    ∷ (set_used s call, refused.SetUsed)
    ∷ (set_unknown s call, refused.SetUnknown)
    ∷ (set_not_ready s call, refused.SetNotReady)
    ∷ (set_replaced s call, refused.SetReplaced)
    ∷ (out_of_range s call, refused.OutOfRange)
    ∷ (busy s call, refused.Busy)
    ∷ []))) call) e

-- ---- only a search is skipped

kept_init : (reason : CallRefused) → is_skip (Some reason) Init ≡ false
kept_init refused.WrongState = refl
kept_init refused.NotOffered = refl
kept_init refused.OpUsed = refl
kept_init refused.SetUsed = refl
kept_init refused.SetUnknown = refl
kept_init refused.SetNotReady = refl
kept_init refused.SetReplaced = refl
kept_init refused.OutOfRange = refl
kept_init refused.Busy = refl
kept_init refused.Unsendable = refl
kept_init refused.Memory = refl

kept_present : (reason : CallRefused) (op set : ℕ) (ranges : List Range)
    → is_skip (Some reason) (Present op set ranges) ≡ false
kept_present refused.WrongState op set ranges = refl
kept_present refused.NotOffered op set ranges = refl
kept_present refused.OpUsed op set ranges = refl
kept_present refused.SetUsed op set ranges = refl
kept_present refused.SetUnknown op set ranges = refl
kept_present refused.SetNotReady op set ranges = refl
kept_present refused.SetReplaced op set ranges = refl
kept_present refused.OutOfRange op set ranges = refl
kept_present refused.Busy op set ranges = refl
kept_present refused.Unsendable op set ranges = refl
kept_present refused.Memory op set ranges = refl

kept_close : (reason : CallRefused) → is_skip (Some reason) Close ≡ false
kept_close refused.WrongState = refl
kept_close refused.NotOffered = refl
kept_close refused.OpUsed = refl
kept_close refused.SetUsed = refl
kept_close refused.SetUnknown = refl
kept_close refused.SetNotReady = refl
kept_close refused.SetReplaced = refl
kept_close refused.OutOfRange = refl
kept_close refused.Busy = refl
kept_close refused.Unsendable = refl
kept_close refused.Memory = refl

-- ---- a log whose search can be asked

module _ (databases : List Database) (offers : TargetSettings) (settings : Settings) (e : Errand)
    (orderly : (s : Settings) (l : Log) → IsOrderly (past s l))
    (can : offers.refuse ≡ false → is_unsendable (search_request offers.named 1 1 e.ask) ≡ false) where
  -- a search that was refused for another reason
  search_kept : (log : Log) → OpenedSo databases offers settings e.ask log → (op set : ℕ) (ask : Ask)
      → IsCallOf e (Search op set ask) → op ≡ 1
      → is_skip (refusal (standing (past settings log)) (Search op set ask)) (Search op set ask) ≡ false
  search_kept log opened op set ask of number = by (is_ready (state_of (past settings log))) refl
    where
      by : (b : Bool) → is_ready (state_of (past settings log)) ≡ b
          → is_skip (refusal (standing (past settings log)) (Search op set ask)) (Search op set ask) ≡ false
      by true is =
          let k = ready databases offers settings e.ask orderly log opened is in
          offered_sent (standing (past settings log)) op set ask (ap (λ (z : InForce). z.search) k.force)
          ((λ i. is_unsendable (search_request (k.force i).named (number i) (of.0 i) (of.1 i))) ∙ can k.accepts)
      by false is = unready (standing (past settings log)) op set ask is

  call_kept : (log : Log) → OpenedSo databases offers settings e.ask log → (call : Call)
      → IsSteeredCall e settings log (refusal (standing (past settings log)) call) call
      → is_skip (refusal (standing (past settings log)) call) call ≡ false
  call_kept log opened call steering = by (refusal (standing (past settings log)) call) refl steering
    where
      refuses_for : (reason : CallRefused) (x : Call) → call ≡ x → IsCallOf e x × IsNumbered x
          → is_skip (Some reason) x ≡ false ⊎ (is_skip (refusal (standing (past settings log)) x) x ≡ false)
      refuses_for reason Init is c = inl (kept_init reason)
      refuses_for reason (Search op set ask) is c = inr (search_kept log opened op set ask c.0 c.1)
      refuses_for reason (Present op set ranges) is c = inl (kept_present reason op set ranges)
      refuses_for reason Close is c = inl (kept_close reason)

      by : (r : Option CallRefused) → refusal (standing (past settings log)) call ≡ r
          → IsSteeredCall e settings log r call
          → is_skip (refusal (standing (past settings log)) call) call ≡ false
      by None is c = ap (λ o. is_skip o call) is
      by (Some reason) is c = elim (refuses_for reason call refl (c.1, c.2)) [
        | inl kept ↦ ap (λ o. is_skip o call) is ∙ kept
        | inr kept ↦ kept
      ]

  pub none_skipped : (log : Log) → IsSteered e settings log → OpenedSo databases offers settings e.ask log
      → skipped_in settings log ≡ false
  none_skipped [] s opened = refl
  none_skipped (Made call ∷ log) s opened =
      let p = past settings log in
      let old : OpenedSo databases offers settings e.ask log =
      λ x i is. opened x (kept_call p call (refusal (standing p) call) x i) is in
      ap (λ b. b || skipped_in settings log) (call_kept log old call s.0) ∙ none_skipped log s.1 old
  none_skipped (Got reply ∷ log) s opened =
      let p = past settings log in
      none_skipped log s (λ x i is. opened x (kept_reply p (verdict (standing p) reply) x i) is)

-- ---- a search that was admitted

search_called : (calls : List Call) → flat_map search_in calls ≢ []
    → (op : ℕ) × (set : ℕ) × IsIn (search_asked op set) (flat_map operation_of calls)
search_called [] none = absurd (none refl)
search_called (Init ∷ calls) none = let r = search_called calls none in (r.0, r.1, inr r.2)
search_called (Search op set ask ∷ calls) none = (op, set, inl refl)
search_called (Present op set ranges ∷ calls) none = let r = search_called calls none in (r.0, r.1, inr r.2)
search_called (Close ∷ calls) none = search_called calls none

-- ---- the law

module _ (orderly : (s : Settings) (l : Log) → IsOrderly (past s l))
    (accepting : (s : Settings) (l : Log) (x : Answer) → Contains (past s l).accepted x → IsAccepted s l x)
    (sets_kept : KeptSets) (shows_laws : ShownLaws) (fits : LargestResponses) where
  module _ (databases : List Database) (offers : TargetSettings) (q : Question) (s : MetaSettings)
      (settings : Settings) (log : Log) (d : DriverState) (k : IsDriver (errand_of s q) settings log d)
      (talks : (x : Answer) → IsIn x (past settings log).accepted
      → IsIn x.reply (replies databases offers (requests settings log)))
      (complete : complete_in (past settings log) ≡ true) (c : ℕ) where
    opened_all : OpenedSo databases offers settings (ask_of q) log
    opened_all x i is = opened orderly accepting sets_kept databases offers q s settings log d k talks x i is

    not_rejected : offers.refuse ≡ false → is_rejected (opening (past settings log)) ≡ false
    not_rejected takes = by (opening (past settings log)) refl
      where
        by : (o : Option Answer) → opening (past settings log) ≡ o → is_rejected o ≡ false
        by None is = refl
        by (Some x) is =
            let at = find_in is_opening (past settings log).accepted x is in
            ap is_rejection (opened_all x at.0 at.1) ∙ ap not (accepts offers settings takes)

    -- a search that was tried can be sent
    tried_sends : offers.refuse ≡ false → IsTried settings log → skipped_in settings log ≡ false
        → (b : Bool) → is_unsendable (search_request offers.named 1 1 (ask_of q)) ≡ b → b ≡ false
    tried_sends takes tries kept false is = refl
    tried_sends takes (inr skipped) kept true is = absurd (true≢false (sym skipped ∙ kept))
    tried_sends takes (inl some) kept true is =
        let i = search_called (past settings log).admitted some in
        let known = sent_known (ask_of q) settings log (search_asked i.0 i.1) i.2 in
        let asks = sent_asked (positions q.wanted) s.step (events_of (ask_of q) settings log)
        (plan_driven orderly accepting sets_kept databases offers q s settings log d k talks shows_laws fits complete c)
        plan.Search known in
        elim (init_replied (positions q.wanted) s.step (replies_in (events_of (ask_of q) settings log)) plan.Search asks) [
          | inl op ↦ absurd (let z : plan.Search ≡ plan.Init = op in cc)
          | inr other ↦ absurd (let z : Some (InitReply false true) ≡ Some (InitReply true other.0) =
              sym (init_accepted orderly accepting sets_kept databases offers q s settings log d k talks shows_laws fits
              complete c takes true is) ∙ other.1 in cc)
        ]

    asks : (offers.refuse ≡ false → IsTried settings log) → skipped_in settings log ≡ false → CanAsk q offers
    asks tries kept = by offers.refuse refl
      where
        by : (b : Bool) → offers.refuse ≡ b → CanAsk q offers
        by true is = inl is
        by false is = inr (let b = is_unsendable (search_request offers.named 1 1 (ask_of q)) in
            tried_sends is (tries is) kept b refl)

    keeps : CanAsk q offers → skipped_in settings log ≡ false
    keeps able =
        none_skipped databases offers settings (errand_of s q) orderly (can able) log k.steered opened_all
      where
        can : CanAsk q offers → offers.refuse ≡ false
            → is_unsendable (search_request offers.named 1 1 (ask_of q)) ≡ false
        can (inl refuses_it) takes = absurd (true≢false (sym refuses_it ∙ takes))
        can (inr sendable) takes = sendable

  pub skipped_law : SkippedLaw
  skipped_law questions s h meta c q p databases offers after at transcript complete owed =
      let driver = driver_of questions meta.drivers c q after.driven.size at in
      let k = after.driven.each c q driver.0 p at driver.1 transcript in
      let talks = talked orderly accepting sets_kept shows_laws fits databases offers p owed in (
        asks databases offers q s p.settings p.log driver.0 k talks complete c
            (λ takes. tried questions s h meta c q p after at transcript complete
            (not_rejected databases offers q s p.settings p.log driver.0 k talks complete c takes)),
        keeps databases offers q s p.settings p.log driver.0 k talks complete c,
      )
