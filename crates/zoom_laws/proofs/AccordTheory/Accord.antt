-- The proofs of the laws.
use Rattle.std.proofs.Common.{◌≡◌, ◌⊎◌, inl, inr, Bool, true, false, cond, not, List, [], ◌∷◌, ◌++◌, reverse, map, Option, None, Some, Result, Ok, Err, refl, sym, ap, subst, ◌∙◌}
use Rattle.std.specs.List.{list_any}
use Rattle.std.specs.Prelude.{Contains}
use Rattle.zapdu.specs.declared.apdu.Apdu.{Apdu}
use Rattle.zapdu.specs.declared.apdu.Apdu.TheVariants as apdus
use Rattle.zapdu.specs.declared.productions.init_response.InitResponse.{InitResponse}
use Rattle.zapdu.specs.declared.productions.close.Close.{Close as CloseApdu}
use Rattle.zplan.specs.Positions.{IsIn}
use Rattle.zorigin.specs.declared.settings.Settings.{Settings}
use Rattle.zorigin.specs.declared.answer.What.{What}
use Rattle.zorigin.specs.declared.answer.What.TheVariants as what
use Rattle.zorigin.specs.declared.answer.Asked.{Asked}
use Rattle.zorigin.specs.declared.answer.Answer.{Answer as Accepted}
use Rattle.zorigin.specs.declared.answer.Taken.{Taken}
use Rattle.zorigin.specs.declared.answer.Taken.TheVariants as taken
use Rattle.zorigin.specs.declared.refusal.Refused.{Refused}
use Rattle.zorigin.specs.declared.refusal.Refused.TheVariants as refused
use Rattle.zorigin.specs.References.{reference_id}
use Rattle.zorigin.specs.Standings.{Close, Standing, is_open}
use Rattle.zorigin.specs.Sending.{close_request}
use Rattle.zorigin.specs.Fitting.{IsFitReply}
use Rattle.zorigin.specs.Replies.{numbered_as, named, taken_as, judged, against, open_verdict, verdict}
use Rattle.zorigin.specs.Accepts.{id_of}
use Rattle.zorigin.specs.Log.{Log, Past, past, operation_of, asked, is_answer_to, is_answered, outstanding, is_opening, opening, is_init_call, is_close_call, state_from, state_of, by_operation, standing}
use Rattle.zorigin.proofs.Members.{contained, among, find_in, in_filter}
use Rattle.zorigin.proofs.Accepting.{looked_up, accepted_so}
use Rattle.zorigin.proofs.Fittings.{fits_none}
use Rattle.zorigin.proofs.Ids.{spelled_number}
use Rattle.zorigin.proofs.Operations.{same_op, distinct_filter}
use Rattle.zorigin.proofs.Orderly.{init_what}
use Rattle.zorigin.proofs.Proper.{proper}
use Rattle.ztarget.specs.declared.database.Database.{Database}
use Rattle.ztarget.specs.declared.settings.TargetSettings.{TargetSettings}
use Rattle.ztarget.specs.Replies.{OwedReply, association_after, owed, reply_of, replies}
use Rattle.zoom_laws.specs.Accord.{AreTaken, IsConversation, requests, replies_due, IsUnanswered, IsReplyTo, IsTakenAs, TakenLaw, AcceptanceLaw, UnansweredLaw, ApartLaw, OwedReplyLaw, OwedCloseLaw, FittingLaw}
use Rattle.zoom_laws.proofs.AccordTheory.Members.{in_reverse, any_of, in_flat, flat_in, apart_moved, apart_parts}
use Rattle.zoom_laws.proofs.AccordTheory.Owing.{Replies, EndsAssociation, reply_id, reply_fits, answer_replies, replying, replies_apart, newest, refused_alone}
use Rattle.zoom_laws.proofs.AccordTheory.Calls.{request_id, request_asks, call_id, call_kind, operation_id, same_number, one_asked, some_same}
use Rattle.zoom_laws.proofs.AccordTheory.Requests.{IsAccepting, open_so, are_sent}
use Rattle.zoom_laws.proofs.AccordTheory.Conversing.{no_close, close_sent, close_replied, init_sent, IsReplyDue, due, due_id, accepted_id, are_taken}

-- ---- verdicts

-- the verdict on a reply that fits is by the operation with its reference id
weighed : (s : Standing) (q : Asked) (reply : Apdu) → named s (id_of reply) ≡ Some q → IsFitReply q.what reply
    → open_verdict s reply ≡ Ok (taken_as (record { asked = q; reply = reply }))
weighed s q reply e f = by q.what reply refl e f
  where
    so : (r : Apdu) → named s (id_of r) ≡ Some q → IsFitReply q.what r
        → against (named s (id_of r)) r ≡ Ok (taken_as (record { asked = q; reply = r }))
    so r n g =
        ap (λ o. against o r) n
        ∙ ap (judged (record { asked = q; reply = r })) (fits_none q.what r g)

    by : (w : What) (r : Apdu) → q.what ≡ w → named s (id_of r) ≡ Some q → IsFitReply q.what r
        → open_verdict s r ≡ Ok (taken_as (record { asked = q; reply = r }))
    by w (apdus.InitResponse v) is n g = so (apdus.InitResponse v) n g
    by w (apdus.SearchResponse v) is n g = so (apdus.SearchResponse v) n g
    by w (apdus.PresentResponse v) is n g = so (apdus.PresentResponse v) n g
    by what.Init (apdus.InitRequest v) is n g = absurd (subst (λ x. IsFitReply x (apdus.InitRequest v)) is g)
    by what.Search (apdus.InitRequest v) is n g = absurd (subst (λ x. IsFitReply x (apdus.InitRequest v)) is g)
    by (what.Present ranges) (apdus.InitRequest v) is n g = absurd (subst (λ x. IsFitReply x (apdus.InitRequest v)) is g)
    by what.Init (apdus.SearchRequest v) is n g = absurd (subst (λ x. IsFitReply x (apdus.SearchRequest v)) is g)
    by what.Search (apdus.SearchRequest v) is n g = absurd (subst (λ x. IsFitReply x (apdus.SearchRequest v)) is g)
    by (what.Present ranges) (apdus.SearchRequest v) is n g = absurd (subst (λ x. IsFitReply x (apdus.SearchRequest v)) is g)
    by what.Init (apdus.PresentRequest v) is n g = absurd (subst (λ x. IsFitReply x (apdus.PresentRequest v)) is g)
    by what.Search (apdus.PresentRequest v) is n g = absurd (subst (λ x. IsFitReply x (apdus.PresentRequest v)) is g)
    by (what.Present ranges) (apdus.PresentRequest v) is n g =
        absurd (subst (λ x. IsFitReply x (apdus.PresentRequest v)) is g)
    by w (apdus.Close v) is n g = absurd (no_close q.what v g)

verdict_is : (s : Standing) (reply : Apdu) (x : Result Taken Refused) → is_open s.state ≡ true → open_verdict s reply ≡ x
    → verdict s reply ≡ x
unfolding verdict
verdict_is s reply x o e = ap (λ b. cond b (open_verdict s reply) (Err refused.WrongState)) o ∙ e

named_taken : (settings : Settings) (log : Log) (reply : Apdu) (q : Asked) → IsFitReply q.what reply
    → IsReplyTo settings log reply q
    → IsTakenAs settings log reply (taken_as (record { asked = q; reply = reply }))
named_taken settings log (apdus.Close c) q f n = absurd (no_close q.what c f)
named_taken settings log (apdus.InitRequest v) q f n = (q, n, refl)
named_taken settings log (apdus.InitResponse v) q f n = (q, n, refl)
named_taken settings log (apdus.SearchRequest v) q f n = (q, n, refl)
named_taken settings log (apdus.SearchResponse v) q f n = (q, n, refl)
named_taken settings log (apdus.PresentRequest v) q f n = (q, n, refl)
named_taken settings log (apdus.PresentResponse v) q f n = (q, n, refl)

-- only a response to Init fits Init
pub init_fits : (reply : Apdu) → IsFitReply what.Init reply → (v : InitResponse) × (reply ≡ apdus.InitResponse v)
init_fits (apdus.InitResponse v) f = (v, refl)
init_fits (apdus.InitRequest v) f = absurd f
init_fits (apdus.SearchRequest v) f = absurd f
init_fits (apdus.SearchResponse v) f = absurd f
init_fits (apdus.PresentRequest v) f = absurd f
init_fits (apdus.PresentResponse v) f = absurd f
init_fits (apdus.Close v) f = absurd f

only_one : (v w r : Apdu) → IsIn v (r ∷ []) → IsIn w (r ∷ []) → v ≡ w
only_one v w r (inl e) (inl f) = e ∙ sym f
only_one v w r (inl e) (inr none) = absurd none
only_one v w r (inr none) j = absurd none

module _ (databases : List Database) (target : TargetSettings) (settings : Settings) (log : Log) where
  abbrev p : Past
  p = past settings log

  abbrev received : List Apdu
  received = requests settings log

  -- an owed reply with the reference id of an operation
  fits_named : (reply : Apdu) (d : IsReplyDue databases target settings log reply) (q : Asked)
      → IsIn q (operation_of d.call)
      → IsFitReply q.what reply × IsReplyTo settings log reply q
  fits_named reply d q i = (
    reply_fits target q.what d.request reply (request_asks d.call d.request q d.of_call i) d.replies,
    record {
      asked = contained q (asked p) (flat_in operation_of p.admitted d.call q d.among i);
      id = due_id databases target settings log reply d ∙ operation_id d.call q i;
    },
  )

  -- if a reply is owed, Init was called
  was_begun : (reply : Apdu) → IsReplyDue databases target settings log reply → list_any is_init_call p.admitted ≡ true
  was_begun reply d = by (list_any is_init_call p.admitted) refl
    where
      by : (b : Bool) → list_any is_init_call p.admitted ≡ b → list_any is_init_call p.admitted ≡ true
      by true e = e
      by false e = absurd (subst (λ l. IsIn d.request (reverse l)) ((are_sent settings log).first e) d.received)

  -- ---- replies are taken

  module _ (k : IsConversation databases target settings log) (reply : Apdu)
      (h : Contains (replies_due databases target settings log) reply)
      (u : IsUnanswered settings log reply) where
    -- a rejected association left no operation unanswered
    not_rejected : (x : Accepted) → Contains p.accepted x → (v : InitResponse) → x.reply ≡ apdus.InitResponse v
        → v.result ≡ false → ⊥
    not_rejected x c v is failed =
        let d = due databases target settings log x.reply (k.owed x c) in
        let e = due databases target settings log reply h in
        let s = init_sent target d.request v (subst (Replies target d.request) is d.replies) in
        let alone =
        refused_alone target databases received (are_taken databases target settings log k) s.0
        (subst (λ w. IsIn w received) s.1 d.received) (sym s.2 ∙ failed) in
        let same =
        only_one d.request e.request (apdus.InitRequest s.0) (subst (IsIn d.request) alone d.received)
        (subst (IsIn e.request) alone e.received) in
        u x c (reply_id target d.request x.reply d.replies ∙ ap id_of same
        ∙ sym (reply_id target e.request reply e.replies))

    accepting : (o : Option Accepted) → opening p ≡ o → (o ≡ None) ⊎ IsAccepting o
    accepting None e = inl refl
    accepting (Some x) e =
        let found = find_in is_opening p.accepted x e in
        let there = contained x p.accepted found.0 in
        let a = accepted_so settings log x there in
        let w = init_what x.asked.what found.1 in
        let v = init_fits x.reply (subst (λ y. IsFitReply y x.reply) w a.fits) in
        by x there v.0 v.1 v.0.result refl
      where
        by : (y : Accepted) → Contains p.accepted y → (v : InitResponse) → y.reply ≡ apdus.InitResponse v → (b : Bool)
            → v.result ≡ b → (Some y ≡ None) ⊎ IsAccepting (Some y)
        by y c v is true result = inr (record { answer = y; is = refl; response = v; reply = is; result = result })
        by y c v is false result = absurd (not_rejected y c v is result)

    taking : p.closed ≡ false → is_open (state_of p) ≡ true
    taking closed =
        let begun = was_begun reply (due databases target settings log reply h) in
        (λ i. is_open (state_from (k.sound i) (closed i) (list_any is_close_call p.admitted) (begun i) (opening p)))
        ∙ open_so (list_any is_close_call p.admitted) (opening p) (accepting (opening p) refl)

    -- the operation was not answered
    waiting : (q : Asked) → IsReplyTo settings log reply q → is_answered p q.op ≡ false
    waiting q n = by (is_answered p q.op) refl
      where
        by : (b : Bool) → is_answered p q.op ≡ b → is_answered p q.op ≡ false
        by false e = e
        by true e = absurd (
            let m = any_of (is_answer_to q.op) p.accepted e in
            let there = contained m.0 p.accepted m.1 in
            u m.0 there
            (accepted_id databases target settings log k m.0 there
            ∙ ap (λ op. Some (reference_id op)) (same_op m.0.asked.op q.op m.2) ∙ sym n.id)
            )

    names : (q : Asked) → IsReplyTo settings log reply q → named (standing p) (id_of reply) ≡ Some q
    names q n =
        let still = λ (x : Asked). not (is_answered p x.op) in
        ap (named (standing p)) n.id
        ∙ ap (numbered_as (map by_operation (outstanding p))) (spelled_number q.op)
        ∙ looked_up (outstanding p) q (distinct_filter still (asked p) (proper settings log).distinct)
        (in_filter still (asked p) q (among q (asked p) n.asked) (ap not (waiting q n)))

    accepts : p.closed ≡ false → (x : Taken) × (verdict (standing p) reply ≡ Ok x) × IsTakenAs settings log reply x
    accepts closed = by (call_kind d.call)
      where
        d : IsReplyDue databases target settings log reply
        d = due databases target settings log reply h

        by : (d.call ≡ Close) ⊎ ((q : Asked) × IsIn q (operation_of d.call))
            → (x : Taken) × (verdict (standing p) reply ≡ Ok x) × IsTakenAs settings log reply x
        by (inl close) =
            let c =
            close_replied target d.request reply
            (close_sent d.call d.request d.of_call (ap call_id close)) d.replies in (
              taken.Closed,
              verdict_is (standing p) reply (Ok taken.Closed) (taking closed) (ap (open_verdict (standing p)) c.1),
              subst (λ r. IsTakenAs settings log r taken.Closed) (sym c.1) refl,
            )
        by (inr m) =
            let f = fits_named reply d m.0 m.1 in
            let x = taken_as (record { asked = m.0; reply = reply }) in (
              x,
              verdict_is (standing p) reply (Ok x) (taking closed)
                  (weighed (standing p) m.0 reply (names m.0 f.1) f.0),
              named_taken settings log reply m.0 f.0 f.1,
            )

  -- ---- a Close is no reply to an operation

  unanswered : (close : CloseApdu) → IsConversation databases target settings log
      → Contains (replies_due databases target settings log) (apdus.Close close)
      → IsUnanswered settings log (apdus.Close close)
  unanswered close k h x c same = by (call_kind d.call)
    where
      d : IsReplyDue databases target settings log (apdus.Close close)
      d = due databases target settings log (apdus.Close close) h

      by : (d.call ≡ Close) ⊎ ((q : Asked) × IsIn q (operation_of d.call)) → ⊥
      by (inl is) =
          let e : Some (reference_id x.asked.op) ≡ None =
          sym (accepted_id databases target settings log k x c) ∙ same
          ∙ due_id databases target settings log (apdus.Close close) d ∙ ap call_id is in
          absurd (cc)
      by (inr m) = no_close m.0.what close (fits_named (apdus.Close close) d m.0 m.1).0

  -- ---- what is owed

  owes : (q : Asked) → IsConversation databases target settings log → Contains (asked p) q
      → (reply : Apdu) × Contains (replies_due databases target settings log) reply
      × (id_of reply ≡ Some (reference_id q.op))
  owes q k h =
      let c = in_flat operation_of p.admitted q (among q (asked p) h) in
      let v = (are_sent settings log).each c.0 c.1 in
      let x =
      replying target databases received (are_taken databases target settings log k) v.0
      (in_reverse v.0 p.sent v.1) in (
        x.0,
        contained x.0 (replies_due databases target settings log) x.1,
        reply_id target v.0 x.0 x.2 ∙ request_id c.0 v.0 v.2 ∙ operation_id c.0 q c.2,
      )

  last_close : (before : List Apdu) (v : Apdu) (a : OwedReply) → v ≡ close_request → owed databases target before v ≡ Ok a
      → (close : CloseApdu)
      × (replies databases target (v ∷ before) ≡ replies databases target before ++ apdus.Close close ∷ [])
  last_close before v a is e =
      let s = association_after databases target before in
      let c = close_replied target v a.reply is (answer_replies target databases s.state s.sets v a e) in (
        c.0,
        ap (λ r. replies databases target before ++ reply_of r) e
            ∙ ap (λ r. replies databases target before ++ r ∷ []) c.1,
      )

  owes_close : IsConversation databases target settings log → Contains p.admitted Close
      → (close : CloseApdu) × (others : List Apdu)
      × (replies_due databases target settings log ≡ others ++ apdus.Close close ∷ [])
  owes_close k h =
      let all = are_taken databases target settings log k in
      let v = (are_sent settings log).each Close (among Close p.admitted h) in
      let is = close_sent Close v.0 v.2 refl in
      let ends = subst (EndsAssociation target) (sym is) tt in
      let n = newest target databases received all v.0 (in_reverse v.0 p.sent v.1) ends in
      let t = subst (AreTaken databases target) n.1 all in
      let c = last_close n.0 v.0 t.0.0 is t.0.1 in
      let before = replies databases target n.0 in
      (c.0, before, subst (λ rs. replies databases target rs ≡ before ++ apdus.Close c.0 ∷ []) (sym n.1) c.1)

  fits : (q : Asked) (reply : Apdu) → Contains (replies_due databases target settings log) reply
      → IsReplyTo settings log reply q → IsFitReply q.what reply
  fits q reply h n = by (call_kind d.call)
    where
      d : IsReplyDue databases target settings log reply
      d = due databases target settings log reply h

      by : (d.call ≡ Close) ⊎ ((r : Asked) × IsIn r (operation_of d.call)) → IsFitReply q.what reply
      by (inl is) =
          let e : Some (reference_id q.op) ≡ None =
          sym n.id ∙ due_id databases target settings log reply d ∙ ap call_id is in
          absurd (cc)
      by (inr m) =
          let f = fits_named reply d m.0 m.1 in
          let op = same_number m.0.op q.op (some_same (reference_id m.0.op) (reference_id q.op) (sym f.1.id ∙ n.id)) in
          let same =
          one_asked (asked p) m.0 q (proper settings log).distinct (among m.0 (asked p) f.1.asked)
          (among q (asked p) n.asked) op in
          subst (λ (x : Asked). IsFitReply x.what reply) same f.0

pub taken_law : TakenLaw
taken_law databases target settings log k = are_taken databases target settings log k

pub accepts_law : AcceptanceLaw
accepts_law databases target settings log reply k closed h u = accepts databases target settings log k reply h u closed

pub unanswered_law : UnansweredLaw
unanswered_law databases target settings log close k h = unanswered databases target settings log close k h

pub apart_law : ApartLaw
apart_law databases target settings log released pending a b moved i j =
    let received = requests settings log in
    apart_parts released pending a b
    (apart_moved (replies databases target received) (released ++ pending) moved
    (replies_apart target databases received (are_sent settings log).apart))
    (among a released i) (among b pending j)

pub owes_law : OwedReplyLaw
owes_law databases target settings log q k h = owes databases target settings log q k h

pub owes_close_law : OwedCloseLaw
owes_close_law databases target settings log k h = owes_close databases target settings log k h

pub fits_law : FittingLaw
fits_law databases target settings log q reply h n = fits databases target settings log q reply h n
