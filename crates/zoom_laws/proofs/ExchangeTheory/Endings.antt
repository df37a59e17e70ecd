-- What follows from soundness: how a connection is over, and what holds when nothing is left to do.
use Rattle.std.proofs.Common.{◌≡◌, ◌≢◌, ◌⊎◌, inl, inr, ℕ, nat_eq, true, false, not, List, [], ◌∷◌, ◌++◌, map, reverse, None, Some, refl, sym, ap, subst, ◌∙◌, append-nil, true≢false, arith, length, take}
use Rattle.std.specs.Prelude.{Contains, IsPermutation, ◌||◌}
use Rattle.std.specs.List.{flat_map, list_any, AllByRecursion, IsDistinct}
use Rattle.std.proofs.lemmas.Bool.{or_right}
use Rattle.std.proofs.lemmas.Bool.Decides.{nat_tests}
use Rattle.std.proofs.lemmas.List.{take_at}
use Rattle.std.proofs.lemmas.List.Elements.{Contains-push}
use Rattle.std.proofs.lemmas.List.Sorted.{Contains-permutation, IsPermutation-sym, IsPermutation-reverse}
use Rattle.zapdu.specs.declared.apdu.Apdu.{Apdu}
use Rattle.zapdu.specs.declared.apdu.Apdu.TheVariants as apdus
use Rattle.zapdu.specs.declared.productions.close.Close.{Close as CloseApdu}
use Rattle.zplan.specs.Positions.{IsIn}
use Rattle.zplan.proofs.Cuts.{in_left, in_right}
use Rattle.zorigin.specs.declared.settings.Settings.{Settings}
use Rattle.zorigin.specs.declared.answer.Answer.{Answer}
use Rattle.zorigin.specs.declared.answer.Asked.{Asked}
use Rattle.zorigin.specs.References.{reference_id, operation_number}
use Rattle.zorigin.specs.Changes.{init_asked}
use Rattle.zorigin.specs.Standings.{Call, Init, Close}
use Rattle.zorigin.specs.Accepts.{id_of, IsReferenceTo, IsAccepted}
use Rattle.zorigin.specs.Sending.{encoding_of}
use Rattle.zorigin.specs.Log.{Log, past, state_of, asked, op_of, operation_of, is_answered, outstanding, opening, is_init, is_close_call, is_init_call}
use Rattle.zorigin.proofs.Members.{contained, among}
use Rattle.zorigin.proofs.Accepting.{accepted_so}
use Rattle.zorigin.proofs.Ids.{spelled_number}
use Rattle.zorigin.proofs.Orderly.{orderly}
use Rattle.zoom_pool.specs.declared.state.State.TheVariants as states
use Rattle.zoom_pool.specs.States.{state_as, is_stopped, or_else}
use Rattle.zoom_pool.specs.Steering.{complete_in, is_rejected}
use Rattle.zoom_pool.specs.Transcripts.{Event, Transcript, past_of, state_at}
use Rattle.zoom_pool.specs.Hosts.{HostState, Holdings, HostEvent, handed_out, replies_to}
use Rattle.zoom_laws.specs.Accord.{requests, AccordLaws}
use Rattle.zoom_laws.specs.Exchange.{IsSoundExchange, got_in, TakenRepliesLaw, ConversationLaw, PendingLaw, CompletenessLaw, SettledLaw, HasTakenAll}
use Rattle.zoom_laws.proofs.ExchangeTheory.Logs.{Became, got_became, closed_got, close_sent, close_admitted, close_called_in}
use Rattle.zoom_laws.proofs.ExchangeTheory.Replies.{close_owed}
use Rattle.zoom_laws.proofs.ExchangeTheory.States.{Rejects, stopped_so, rejected, fits_no_close, as_initialising, as_closing, initialising, closing_so, found_in, opened_by, begun_by, filter_none, answered_in}
use Rattle.zoom_laws.proofs.ExchangeTheory.Framing.{all_taken, reversed_cut}
use Rattle.zoom_laws.proofs.ExchangeTheory.Transcripts.{took_all}
use Rattle.zoom_laws.proofs.ExchangeTheory.Sounds.{whole, received_is, permuted, pending_owed, got_owed, conversation, coming_is}

no_some : {A : Type 0} {x : A} → Some x ≡ None → ⊥
no_some e = cc

-- ---- the operations

init_operation : (calls : List Call) → IsIn Init calls → IsIn init_asked (flat_map operation_of calls)
init_operation [] i = absurd i
init_operation (call ∷ calls) (inl e) =
    in_left init_asked (operation_of call) (flat_map operation_of calls)
    (subst (λ z. IsIn init_asked (operation_of z)) e (inl refl))
init_operation (call ∷ calls) (inr i) = in_right init_asked (operation_of call) (flat_map operation_of calls)
    (init_operation calls i)

other_op : (op : ℕ) (qs : List Asked) (b : Asked) → AllByRecursion (λ y. nat_eq op y ≡ false) (map op_of qs)
    → IsIn b qs → op ≡ b.op → ⊥
other_op op [] b d i e = i
other_op op (q ∷ qs) b d (inl f) e =
    let same : op ≡ q.op = e ∙ ap (λ (z : Asked). z.op) f in
    let t : nat_eq op q.op ≡ true = grind (arith, nat_tests) in
    true≢false (sym t ∙ d.0)
other_op op (q ∷ qs) b d (inr i) e = other_op op qs b d.1 i e

-- each number is of one operation
pub same_asked : (qs : List Asked) (a b : Asked) → IsDistinct nat_eq (map op_of qs) → IsIn a qs → IsIn b qs → a.op ≡ b.op
    → a ≡ b
unfolding IsDistinct
same_asked [] a b d i j e = absurd i
same_asked (q ∷ qs) a b d (inl f) (inl g) e = f ∙ sym g
same_asked (q ∷ qs) a b d (inl f) (inr j) e =
    absurd (other_op q.op qs b d.0 j (ap (λ (z : Asked). z.op) (sym f) ∙ e))
same_asked (q ∷ qs) a b d (inr i) (inl g) e =
    absurd (other_op q.op qs a d.0 i (ap (λ (z : Asked). z.op) (sym g) ∙ sym e))
same_asked (q ∷ qs) a b d (inr i) (inr j) e = same_asked qs a b d.1 i j e

same_number : (m n : ℕ) → reference_id m ≡ reference_id n → m ≡ n
same_number m n e = some_is (sym (spelled_number m) ∙ ap operation_number e ∙ spelled_number n)
  where
    some_is : {a b : ℕ} → Some a ≡ Some b → a ≡ b
    some_is f = cc

-- a reply with the reference id of an operation answers it
answers_it : (settings : Settings) (log : Log) (a : Answer) (op : ℕ) → IsAccepted settings log a
    → id_of a.reply ≡ Some (reference_id op)
    → a.asked.op ≡ op
answers_it settings log a op i e =
    let refers : IsReferenceTo (past settings i.earlier) a.asked (Some (reference_id op)) =
    subst (λ z. IsReferenceTo (past settings i.earlier) a.asked z) e i.refers in
    sym (same_number op a.asked.op refers)

module _ (holdings : Holdings) (settings : Settings) (events : List Event) (p : Transcript) (host_events : List HostEvent)
    (host : HostState)
    (s : IsSoundExchange holdings settings events p host_events host) where
  -- the state of the connection is the state of its origin
  pub stands : state_at p ≡ state_as (state_of (past_of p))
  stands = ap (λ z. or_else (state_as (state_of (past_of p))) z) s.goes

  -- a Close that is owed answers the Close that was called
  pub close_is : (c : CloseApdu) → Contains (replies_to holdings (requests p.settings p.log)) (apdus.Close c)
      → Contains (past_of p).admitted Close × (c.reference_id ≡ None)
  close_is c i =
      let o = close_owed holdings.databases holdings.settings (requests p.settings p.log) c i in
      let all = (past_of p).sent in
      let there : Contains all (apdus.Close o.0) =
      Contains-permutation (reverse all) all (apdus.Close o.0)
      (IsPermutation-sym all (reverse all) (IsPermutation-reverse all)) o.1 in
      let sent = close_sent p.settings p.log o.0 there in
      (sent.0, o.2 ∙ sent.1)

  ended : is_stopped (state_at p) ≡ true → complete_in (past_of p) ≡ true
  ended e =
      let r = past_of p in
      let stop : is_stopped (state_as (state_of r)) ≡ true = ap is_stopped (sym stands) ∙ e in
      by (stopped_so r.fault r.closed (list_any is_close_call r.admitted) (list_any is_init_call r.admitted)
      (opening r) s.sound stop)
    where
      by : ((past_of p).closed ≡ true) ⊎ ((a : Answer) × (opening (past_of p) ≡ Some a) × Rejects a.reply)
          → complete_in (past_of p) ≡ true
      by (inl c) =
          let g = closed_got p.settings p.log c in
          let i = close_is g.0 (got_owed holdings settings events p host_events host s (apdus.Close g.0) g.1) in
          ap (λ b. is_rejected (opening (past_of p)) || b) (close_admitted (past_of p) i.0) ∙ or_right
          (is_rejected (opening (past_of p))) true refl
      by (inr x) =
          let found = found_in (past_of p).accepted x.0 x.1 in
          let i = accepted_so p.settings p.log x.0 (contained x.0 (past_of p).accepted found.0) in
          let closes = list_any is_close_call (past_of p).admitted in
          ap (λ o. is_rejected o || closes) x.1 ∙ ap (λ b. b || closes)
          (rejected x.0.asked.what x.0.reply found.1 i.fits x.2)

  -- ---- settled exchanges

  module _ (laws : AccordLaws) (to : s.to ≡ []) (from : s.from ≡ []) (waiting : host.waiting ≡ [])
      (pending : host.target.pending ≡ [])
      (took : HasTakenAll p) where
    -- all requests were received
    others_none : (received_is holdings settings events p host_events host s).others ≡ []
    others_none =
        let w = whole holdings settings events p host_events host s in
        let c = received_is holdings settings events p host_events host s in
        all_taken c.others w.received.rest c.read
        (sym (append-nil w.received.rest) ∙ ap (λ z. w.received.rest ++ z) (sym to) ∙ c.rest_is)
        w.received.behind.no_message

    all_received : requests p.settings p.log ≡ s.served.served.received
    all_received =
        let w = whole holdings settings events p host_events host s in
        let c = received_is holdings settings events p host_events host s in
        reversed_cut (past_of p).sent s.served.served.received (w.received.rest ++ s.to) c
        ∙ ap (λ z. reverse z ++ s.served.served.received) others_none

    all_put : IsPermutation (replies_to holdings (requests p.settings p.log)) s.served.served.sent
    all_put =
        subst (λ z. IsPermutation (replies_to holdings z) s.served.served.sent) (sym all_received)
        (subst (λ z. IsPermutation (replies_to holdings s.served.served.received) z)
        (ap (λ z. s.served.served.sent ++ z) pending ∙ append-nil s.served.served.sent)
        (permuted holdings settings events p host_events host s))

    none_comes : s.coming ≡ []
    none_comes =
        let c = coming_is holdings settings events p host_events host s took.0 took.1 in
        let nothing : s.from ++ host.waiting ≡ [] = ap (λ z. z ++ host.waiting) from ∙ waiting in
        all_taken s.coming took.0 c.read
        (sym (append-nil took.0) ∙ ap (λ z. took.0 ++ z) (sym nothing) ∙ c.are) took.2.no_message

    all_got : s.served.served.sent ≡ got_in p.log
    all_got = s.got ∙ ap (λ z. got_in p.log ++ z) none_comes ∙ append-nil (got_in p.log)

    all_came : p.stream ≡ flat_map encoding_of s.served.served.sent
    all_came =
        sym (append-nil p.stream) ∙ ap (λ z. p.stream ++ z) (sym from) ∙ s.comes ∙ sym (append-nil (handed_out host_events))
        ∙ ap (λ z. handed_out host_events ++ z) (sym waiting) ∙ s.served.waiting

    -- each reply that is owed was taken
    became : (v : Apdu) → Contains (replies_to holdings (requests p.settings p.log)) v → Became (past_of p) v
    became v i =
        got_became p.settings p.log v (took_all settings events p s.transcript s.goes)
        (subst (λ z. Contains z v) all_got
        (Contains-permutation (replies_to holdings (requests p.settings p.log)) s.served.served.sent v all_put i))

    -- each operation was answered
    replied : (q : Asked) → Contains (asked (past_of p)) q → (a : Answer) × Contains (past_of p).accepted a ×
        (a.asked.op ≡ q.op)
    replied q i =
        let o = laws.owes holdings.databases holdings.settings p.settings p.log q
        (conversation holdings settings events p host_events host s) i in
        by o.0 o.1 o.2 (became o.0 o.1)
      where
        by : (v : Apdu) → Contains (replies_to holdings (requests p.settings p.log)) v → id_of v ≡ Some
            (reference_id q.op) → Became (past_of p) v
            → (a : Answer) × Contains (past_of p).accepted a × (a.asked.op ≡ q.op)
        by v j e (inl x) =
            (x.0, x.1, answers_it p.settings p.log x.0 q.op (accepted_so p.settings p.log x.0 x.1) (ap id_of x.2 ∙ e))
        by v j e (inr x) =
            let c = close_is x.0 (subst (λ z. Contains (replies_to holdings (requests p.settings p.log)) z) x.1 j) in
            absurd (no_some (sym e ∙ ap id_of x.1 ∙ c.1))

    waits_none : outstanding (past_of p) ≡ []
    waits_none = filter_none (λ (q : Asked). not (is_answered (past_of p) q.op)) (asked (past_of p)) (λ q i.
        let r = replied q (contained q (asked (past_of p)) i) in
        ap not (answered_in q.op (past_of p).accepted r.0 (among r.0 (past_of p).accepted r.1) r.2))

    is_begun : state_at p ≢ states.Initialising
    is_begun e =
        let r = past_of p in
        let n = initialising r.fault r.closed (list_any is_close_call r.admitted) (list_any is_init_call r.admitted)
        (opening r)
        (as_initialising (state_of r) (sym stands ∙ e)) in
        let i = init_operation r.admitted (begun_by r.admitted n.0) in
        let x = replied init_asked (contained init_asked (asked r) i) in
        let o = orderly p.settings p.log in
        let same = same_asked (asked r) x.0.asked init_asked o.operations
        (among x.0.asked (asked r) (o.known x.0 x.1)) i x.2 in
        opened_by r.accepted x.0 (among x.0 r.accepted x.1) (ap (λ (z : Asked). is_init z.what) same) n.1

    is_closed : state_at p ≢ states.Closing
    is_closed e =
        let r = past_of p in
        let n = closing_so r.fault r.closed (list_any is_close_call r.admitted) (list_any is_init_call r.admitted)
        (opening r)
        (as_closing (state_of r) (sym stands ∙ e)) in
        let o = laws.owes_close holdings.databases holdings.settings p.settings p.log
        (conversation holdings settings events p host_events host s)
        (close_called_in r.admitted n.1) in
        by o.0 n.0 (became (apdus.Close o.0)
        (subst (λ z. Contains z (apdus.Close o.0)) (sym o.2) (Contains-push o.1 (apdus.Close o.0))))
      where
        by : (c : CloseApdu) → (past_of p).closed ≡ false → Became (past_of p) (apdus.Close c) → ⊥
        by c n (inl x) = fits_no_close x.0.asked.what x.0.reply (accepted_so p.settings p.log x.0 x.1).fits c x.2
        by c n (inr x) = true≢false (sym x.2 ∙ n)

pub ends : CompletenessLaw
ends holdings settings events p host_events host s e = ended holdings settings events p host_events host s e

pub rests : AccordLaws → SettledLaw
rests laws holdings settings events p host_events host s to from waiting pending took = record {
  answered = all_put holdings settings events p host_events host s laws to from waiting pending took;
  stream = all_came holdings settings events p host_events host s laws to from waiting pending took;
  waits = waits_none holdings settings events p host_events host s laws to from waiting pending took;
  begun = is_begun holdings settings events p host_events host s laws to from waiting pending took;
  closed = is_closed holdings settings events p host_events host s laws to from waiting pending took;
}

pub took : TakenRepliesLaw
took holdings settings events p host_events host s =
    sym (ap (λ z. take z s.served.served.sent) (sym s.count) ∙ ap (λ z. take (length (got_in p.log)) z) s.got
    ∙ take_at (got_in p.log) s.coming (length (got_in p.log)) refl)

pub keeps_converse : ConversationLaw
keeps_converse holdings settings events p host_events host s = conversation holdings settings events p host_events host s

pub keeps_owed : PendingLaw
keeps_owed holdings settings events p host_events host s v i = pending_owed holdings settings events p host_events host s v i
