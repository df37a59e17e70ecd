-- On a connection that is Closing, each reply that was not sent is the target's Close, which is short.
use Rattle.std.proofs.Common.{◌≡◌, ◌⊎◌, inl, inr, ℕ, Bool, true, false, List, ◌++◌, slice_get, Some, refl, sym, ap, subst, ◌∙◌, true≢false}
use Rattle.std.specs.Prelude.{◌||◌, Contains}
use Rattle.std.specs.List.{list_any}
use Rattle.std.proofs.lemmas.List.Elements.{Contains-append_left, Contains-append_cases}
use Rattle.std.proofs.lemmas.List.Sorted.{Contains-permutation}
use Rattle.zplan.specs.Plan.{number}
use Rattle.zplan.specs.Positions.{IsIn}
use Rattle.zplan.specs.Ranges.{positions}
use Rattle.zplan.proofs.Order.{sent_asked}
use Rattle.zapdu.specs.declared.apdu.Apdu.{Apdu}
use Rattle.zapdu.specs.declared.apdu.Apdu.TheVariants as apdus
use Rattle.zorigin.specs.declared.settings.Settings.{Settings}
use Rattle.zorigin.specs.declared.answer.Asked.{Asked}
use Rattle.zorigin.specs.declared.answer.Answer.{Answer as Accepted}
use Rattle.zorigin.specs.References.{reference_id}
use Rattle.zorigin.specs.Standings.{Close}
use Rattle.zorigin.specs.Sending.{close_value}
use Rattle.zorigin.specs.Accepts.{id_of}
use Rattle.zorigin.specs.Laws.{IsOrderly}
use Rattle.zorigin.specs.Log.{Log, past, state_of, opening, asked, operation_of, is_close_call, is_init_call}
use Rattle.zorigin.proofs.Accepting.{accepted_so}
use Rattle.zorigin.proofs.Members.{among, contained}
use Rattle.ztarget.specs.Replies.{close_reply}
use Rattle.zoom_questions.specs.declared.question.Question.{Question}
use Rattle.zoom_questions.specs.declared.question.MetaSettings.{MetaSettings}
use Rattle.zoom_pool.specs.declared.state.State.{State}
use Rattle.zoom_pool.specs.declared.state.State.TheVariants as states
use Rattle.zoom_pool.specs.States.{is_closing}
use Rattle.zoom_pool.specs.Transcripts.{Event, Transcript, past_of, state_at}
use Rattle.zoom_pool.specs.History.{History, events_on}
use Rattle.zoom_pool.specs.Hosts.{HostState, Holdings, HostEvent, IsLong, replies_to}
use Rattle.zoom_pool.specs.Driving.{operation_for, events_of}
use Rattle.zoom_pool.specs.Drivers.{DriverState, IsDriver}
use Rattle.zoom_pool.specs.Steering.{ask_of, errand_of, complete_in, is_rejected}
use Rattle.zoom_pool.specs.Metas.{MetaLinks, MetaAfter, settings_of}
use Rattle.zoom_pool.proofs.Drivings.{replied, driven, sent_known, numbered}
use Rattle.zoom_pool.proofs.MetaLaws.{driver_of}
use Rattle.zoom_laws.specs.Accord.{requests, AccordLaws}
use Rattle.zoom_laws.specs.Exchange.{IsSoundExchange, got_in}
use Rattle.zoom_laws.proofs.AccordTheory.Calls.{call_kind, call_id, operation_id}
use Rattle.zoom_laws.proofs.AccordTheory.Conversing.{close_sent, IsReplyDue, due, due_id, accepted_id}
use Rattle.zoom_laws.proofs.AccordTheory.Members.{flat_in}
use Rattle.zoom_laws.proofs.AccordTheory.Owing.{Replies}
use Rattle.zoom_laws.proofs.ExchangeTheory.Endings.{stands}
use Rattle.zoom_laws.proofs.ExchangeTheory.Logs.{accepted_got}
use Rattle.zoom_laws.proofs.ExchangeTheory.Sounds as sounds
use Rattle.zoom_laws.proofs.ExchangeTheory.States.{as_closing, closing_so}
use Rattle.zoom_laws.proofs.LengthTheory.Replies.{close_short}
use Rattle.zoom_laws.proofs.ScheduleTheory.Answered.{complete_whole}

closing_is : (state : State) → is_closing state ≡ true → state ≡ states.Closing
closing_is states.Fresh e = absurd (true≢false (sym e))
closing_is states.Initialising e = absurd (true≢false (sym e))
closing_is (states.Ready v3 concurrent named) e = absurd (true≢false (sym e))
closing_is states.Closing e = refl
closing_is states.Closed e = absurd (true≢false (sym e))
closing_is (states.Failed reason) e = absurd (true≢false (sym e))

or_true : (b : Bool) → b || true ≡ true
or_true true = refl
or_true false = refl

module _ (laws : AccordLaws) (orderly : (s : Settings) (l : Log) → IsOrderly (past s l)) (q : Question)
    (s : MetaSettings) (holdings : Holdings) (settings : Settings) (p : Transcript) (d : DriverState)
    (k : IsDriver (errand_of s q) p.settings p.log d) (host_events : List HostEvent) (host : HostState) where
  -- each operation was answered
  answered_all : complete_in (past_of p) ≡ true → (a : Asked) → IsIn a (asked (past_of p))
      → (x : Accepted) × IsIn x (past_of p).accepted × (x.asked.op ≡ a.op)
  answered_all complete a i =
      let ask = ask_of q in
      let wanted = positions q.wanted in
      let events = events_of ask p.settings p.log in
      let op = operation_for a.what in
      let plan = driven ask p.settings wanted s.step orderly p.log k.driven in
      let planned = sent_asked wanted s.step events plan op (sent_known ask p.settings p.log a i) in
      let r = complete_whole ask wanted s.step p.settings orderly p.log k.driven complete op planned in
      let x = replied ask p.settings p.log op r.0 r.1 in
      let known = (orderly p.settings p.log).known x.0 (contained x.0 (past_of p).accepted x.1) in
      let there : IsIn x.0.asked (asked (past_of p)) = among x.0.asked (asked (past_of p)) known in (
        x.0,
        x.1,
        numbered ask p.settings wanted s.step p.log k.driven x.0.asked there ∙ ap number x.2
            ∙ sym (numbered ask p.settings wanted s.step p.log k.driven a i),
      )

  module _ {events : List Event} (sound : IsSoundExchange holdings settings events p host_events host) where
    closes : is_closing (state_at p) ≡ true → list_any is_close_call (past_of p).admitted ≡ true
    closes e =
        let r = past_of p in
        let is = as_closing (state_of r)
        (sym (stands holdings settings events p host_events host sound) ∙ closing_is (state_at p) e) in
        (closing_so r.fault r.closed (list_any is_close_call r.admitted) (list_any is_init_call r.admitted) (opening r)
        is).1

    pub none_long : is_closing (state_at p) ≡ true → (v : Apdu)
        → Contains (replies_to holdings (requests p.settings p.log)) v
        → (Contains sound.served.served.sent v → ⊥) → IsLong v → ⊥
    none_long e v owed unsent long = by (call_kind m.call)
      where
        m : IsReplyDue holdings.databases holdings.settings p.settings p.log v
        m = due holdings.databases holdings.settings p.settings p.log v owed

        all : List Apdu
        all = replies_to holdings (requests p.settings p.log)

        by : (m.call ≡ Close) ⊎ ((a : Asked) × IsIn a (operation_of m.call)) → ⊥
        by (inl is) =
            let sent = close_sent m.call m.request m.of_call (ap call_id is) in
            let reply : v ≡ apdus.Close (close_reply close_value) =
            subst (λ z. Replies holdings.settings z v) sent m.replies in
            close_short close_value tt (subst IsLong reply long)
        by (inr a) =
            let complete : complete_in (past_of p) ≡ true =
            ap (λ b. is_rejected (opening (past_of p)) || b) (closes e) ∙ or_true (is_rejected (opening (past_of p))) in
            let x = answered_all complete a.0
            (flat_in operation_of (past_of p).admitted m.call a.0 m.among a.1) in
            let there = contained x.0 (past_of p).accepted x.1 in
            let talk = sounds.conversation holdings settings events p host_events host sound in
            let one : id_of x.0.reply ≡ Some (reference_id a.0.op) =
            accepted_id holdings.databases holdings.settings p.settings p.log talk x.0 there
            ∙ ap (λ n. Some (reference_id n)) x.2 in
            let other : id_of v ≡ Some (reference_id a.0.op) =
            due_id holdings.databases holdings.settings p.settings p.log v m ∙ operation_id m.call a.0 a.1 in
            let got = accepted_got p.settings p.log x.0 (accepted_so p.settings p.log x.0 there) in
            let sent : Contains sound.served.served.sent x.0.reply =
            subst (λ z. Contains z x.0.reply) (sym sound.got)
            (Contains-append_left (got_in p.log) sound.coming x.0.reply got) in
            let rest = sounds.due holdings settings events p host_events host sound in
            let either = Contains-append_cases sound.served.served.sent rest.0 v
            (Contains-permutation all (sound.served.served.sent ++ rest.0) v rest.1 owed) in
            elim either [
              | inl was ↦ unsent was
              | inr left ↦ laws.apart holdings.databases holdings.settings p.settings p.log sound.served.served.sent
                  rest.0 x.0.reply v rest.1 sent left (one ∙ sym other)
            ]

-- a reply that is owed to a connection that is Closing, and that was not sent, is not too long
pub closing_short : AccordLaws → ((s : Settings) (l : Log) → IsOrderly (past s l)) → (questions : List Question)
    (s : MetaSettings) (h : History) (meta : MetaLinks) (c : ℕ) (q : Question) (p : Transcript) (holdings : Holdings)
    (host_events : List HostEvent) (host : HostState) → MetaAfter questions s h meta → slice_get questions c ≡ Some q
    → (sound : IsSoundExchange holdings (settings_of s) (events_on c h) p host_events host)
    → is_closing (state_at p) ≡ true → (v : Apdu) → Contains (replies_to holdings (requests p.settings p.log)) v
    → (Contains sound.served.served.sent v → ⊥) → IsLong v → ⊥
closing_short laws orderly questions s h meta c q p holdings host_events host after at sound =
    let d = driver_of questions meta.drivers c q after.driven.size at in
    none_long laws orderly q s holdings (settings_of s) p d.0 (after.driven.each c q d.0 p at d.1 sound.transcript)
    host_events host sound
