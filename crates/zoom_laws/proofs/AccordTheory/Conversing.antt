-- An origin that converses with one target alone: its requests are taken, and its replies are those to its requests.
use Rattle.std.proofs.Common.{◌≡◌, ◌≢◌, ◌⊎◌, inl, inr, ℕ, Bool, true, false, cond, ◌&&◌, ◌||◌, not, List, [], ◌∷◌, ◌++◌, reverse, Option, None, Some, Result, Ok, Err, refl, sym, ap, subst, ◌∙◌}
use Rattle.std.specs.Prelude.{Contains}
use Rattle.zber.proofs.Tests.{both_true}
use Rattle.zapdu.specs.declared.apdu.Apdu.{Apdu}
use Rattle.zapdu.specs.declared.apdu.Apdu.TheVariants as apdus
use Rattle.zapdu.specs.declared.productions.init_request.InitRequest.{InitRequest}
use Rattle.zapdu.specs.declared.productions.init_response.InitResponse.{InitResponse}
use Rattle.zapdu.specs.declared.productions.close.Close.{Close as CloseApdu}
use Rattle.zplan.specs.Positions.{IsIn}
use Rattle.zplan.proofs.Cuts.{in_either}
use Rattle.zorigin.specs.declared.settings.Settings.{Settings}
use Rattle.zorigin.specs.declared.answer.What.{What}
use Rattle.zorigin.specs.declared.answer.What.TheVariants as what
use Rattle.zorigin.specs.declared.answer.Asked.{Asked}
use Rattle.zorigin.specs.declared.answer.Answer.{Answer as Accepted}
use Rattle.zorigin.specs.declared.answer.Taken.{Taken}
use Rattle.zorigin.specs.declared.answer.Taken.TheVariants as taken
use Rattle.zorigin.specs.declared.refusal.CallRefused.{CallRefused}
use Rattle.zorigin.specs.declared.refusal.Refused.{Refused}
use Rattle.zorigin.specs.References.{reference_id}
use Rattle.zorigin.specs.Standings.{Call, Init, Search, Present, Close, is_open}
use Rattle.zorigin.specs.Sending.{init_request, close_request, request_of}
use Rattle.zorigin.specs.Calls.{refusal}
use Rattle.zorigin.specs.Fitting.{IsFitReply}
use Rattle.zorigin.specs.Replies.{verdict}
use Rattle.zorigin.specs.Accepts.{id_of, IsReferenceTo}
use Rattle.zorigin.specs.Log.{Log, Made, Got, Past, past, operation_of, asked, is_opening, opening, is_init_call, state_of, standing, request_list, admit_unless, after_verdict}
use Rattle.zorigin.proofs.Members.{contained, among, find_in}
use Rattle.zorigin.proofs.Accepting.{same_call, stays, accepted_so}
use Rattle.zorigin.proofs.Orderly.{orderly, sent_request}
use Rattle.zorigin.proofs.Proper.{not_false}
use Rattle.ztarget.specs.declared.database.Database.{Database}
use Rattle.ztarget.specs.declared.settings.TargetSettings.{TargetSettings}
use Rattle.ztarget.specs.declared.error.TargetError.{TargetError}
use Rattle.ztarget.specs.Standing.{Terms, Open, Ended, Association as TargetStanding}
use Rattle.ztarget.specs.Initialising.{bit, init_response, is_accepted, terms}
use Rattle.ztarget.specs.Replies.{OwedReply, owed_in_state, owed_in_association, next_association, association_after, owed, reply_of, replies}
use Rattle.zoom_laws.specs.Accord.{AreTaken, IsConversation, requests, replies_due}
use Rattle.zoom_laws.proofs.AccordTheory.Members.{reverse_push, of_reverse, in_flat}
use Rattle.zoom_laws.proofs.AccordTheory.Owing.{Replies, reply_id, search_state, answer_replies, replied}
use Rattle.zoom_laws.proofs.AccordTheory.Calls.{IsRequestOf, request_id, call_id, operation_id, some_same}
use Rattle.zoom_laws.proofs.AccordTheory.Requests.{IsAccepting, ready_past, call_ready, new_id, ComesBetween, Runs, search_between, present_between, are_sent, init_in, same_verdict, fresh_past}

-- a Close answers no operation
pub no_close : (w : What) (c : CloseApdu) → IsFitReply w (apdus.Close c) → ⊥
no_close what.Init c h = h
no_close what.Search c h = h
no_close (what.Present ranges) c h = h

-- only a call of Close has a request without an id
pub close_sent : (c : Call) (v : Apdu) → IsRequestOf c v → call_id c ≡ None → v ≡ close_request
close_sent Init v h e = absurd (cc)
close_sent (Search op set ask) v h e = absurd (cc)
close_sent (Present op set ranges) v h e = absurd (cc)
close_sent Close v h e = let same : close_request ≡ v = (let f = h.1 in cc) in sym same

-- an accepted reply that has a reference id has that of its operation
id_so : (p : Past) (q : Asked) (o : Option (List ℕ)) → IsReferenceTo p q o → o ≢ None → o ≡ Some (reference_id q.op)
id_so p q None r n = absurd (n refl)
id_so p q (Some id) r n = ap (λ i. Some i) r

-- the reply to a request of a call that has no id
pub close_replied : (target : TargetSettings) (v x : Apdu) → v ≡ close_request → Replies target v x
    → (c : CloseApdu) × (x ≡ apdus.Close c)
close_replied target v x e h = (_, subst (λ w. Replies target w x) e h)

-- only a request of Init has a response to Init as its reply
pub init_sent : (target : TargetSettings) (v : Apdu) (w : InitResponse) → Replies target v (apdus.InitResponse w)
    → (r : InitRequest) × (v ≡ apdus.InitRequest r) × (w.result ≡ is_accepted target r.protocol_version)
init_sent target (apdus.InitRequest r) w h =
    (r, refl, (let same : w ≡ init_response target r = cc in ap (λ (x : InitResponse). x.result) same))
init_sent target (apdus.SearchRequest r) w h = absurd (let e = h.1 in cc)
init_sent target (apdus.PresentRequest r) w h = absurd (let e = h.1 in cc)
init_sent target (apdus.Close c) w h = absurd (cc)
init_sent target (apdus.InitResponse r) w h = absurd h
init_sent target (apdus.SearchResponse r) w h = absurd h
init_sent target (apdus.PresentResponse r) w h = absurd h

not_refused : (target : TargetSettings) (asked : List Bool) → is_accepted target asked ≡ true → target.refuse ≡ false
not_refused target asked h =
    not_false target.refuse (both_true (not target.refuse) (bit asked 0 || (bit asked 1 || bit asked 2)) h).0

module _ (databases : List Database) (target : TargetSettings) (settings : Settings) where
  -- ---- a reply that is owed

  pub record IsReplyDue (log : Log) (x : Apdu) : Type 0 where
    pub call : Call
    pub among : IsIn call (past settings log).admitted
    pub request : Apdu
    pub received : IsIn request (requests settings log)
    pub of_call : IsRequestOf call request
    pub replies : Replies target request x

  pub due : (log : Log) (x : Apdu) → Contains (replies_due databases target settings log) x → IsReplyDue log x
  due log x h =
      let r =
      replied target databases (requests settings log) x (among x (replies_due databases target settings log) h) in
      let c = (are_sent settings log).made r.0 (of_reverse r.0 (past settings log).sent r.1) in
      record { call = c.0; among = c.1; request = r.0; received = r.1; of_call = c.2; replies = r.2 }

  pub due_id : (log : Log) (x : Apdu) (d : IsReplyDue log x) → id_of x ≡ call_id d.call
  due_id log x d = reply_id target d.request x d.replies ∙ request_id d.call d.request d.of_call

  -- ---- what was accepted

  pub accepted_id : (log : Log) → IsConversation databases target settings log → (x : Accepted)
      → Contains (past settings log).accepted x
      → id_of x.reply ≡ Some (reference_id x.asked.op)
  accepted_id log k x h =
      let a = accepted_so settings log x h in
      let d = due log x.reply (k.owed x h) in
      id_so (past settings a.earlier) x.asked (id_of x.reply) a.refers (λ none.
      let sent = close_sent d.call d.request d.of_call (sym (due_id log x.reply d) ∙ none) in
      let c = close_replied target d.request x.reply sent d.replies in
      no_close x.asked.what c.0 (subst (IsFitReply x.asked.what) c.1 a.fits))

  -- ---- before the last call or reply

  fault_before : (p : Past) (v : Result Taken Refused) → (after_verdict p v).fault ≡ None → p.fault ≡ None
  fault_before p (Ok (taken.Opened a)) h = h
  fault_before p (Ok (taken.Rejected a)) h = h
  fault_before p (Ok (taken.Answered a)) h = h
  fault_before p (Ok taken.Closed) h = h
  fault_before p (Err r) h =
      elim (is_open (state_of p)) as (λ b. (cond b (record p { fault = Some r }) p).fault ≡ None → p.fault ≡ None)
      [ true ↦ λ e. absurd (cc) | false ↦ λ e. e ] h

  same_fault : (p : Past) (c : Call) (r : Option CallRefused) → (admit_unless p c r).fault ≡ p.fault
  same_fault p c None = refl
  same_fault p c (Some r) = refl

  -- a call that is admitted sends the newest request
  pub newest_request : (log : Log) (c : Call) (v : Apdu) → refusal (standing (past settings log)) c ≡ None
      → request_of (standing (past settings log)) c ≡ Some v
      → requests settings (Made c ∷ log) ≡ v ∷ requests settings log
  newest_request log c v h m =
      let p = past settings log in
      ap (λ r. reverse (admit_unless p c r).sent) h ∙ ap (λ o. reverse (p.sent ++ request_list o)) m
      ∙ reverse_push p.sent v

  same_requests : (log : Log) (c : Call) (reason : CallRefused) → refusal (standing (past settings log)) c ≡ Some reason
      → requests settings (Made c ∷ log) ≡ requests settings log
  same_requests log c reason h = ap (λ r. reverse (admit_unless (past settings log) c r).sent) h

  got_requests : (log : Log) (reply : Apdu) → requests settings (Got reply ∷ log) ≡ requests settings log
  got_requests log reply =
      let p = past settings log in ap (λ l. reverse l) (same_verdict p (verdict (standing p) reply)).1

  -- a reply that was accepted before the call is no reply to it
  module _ (log : Log) (c : Call) (k : IsConversation databases target settings (Made c ∷ log)) (x : Accepted)
      (h : Contains (past settings log).accepted x) where
    then : Contains (past settings (Made c ∷ log)).accepted x
    then = let p = past settings log in subst (λ l. Contains l x) (sym (same_call p c (refusal (standing p) c))) h

    not_to : (v : Apdu) → refusal (standing (past settings log)) c ≡ None
        → request_of (standing (past settings log)) c ≡ Some v
        → Replies target v x.reply → ⊥
    not_to v e m r =
        let p = past settings log in
        let mine : call_id c ≡ Some (reference_id x.asked.op) =
        sym (request_id c v (standing p, m)) ∙ sym (reply_id target v x.reply r)
        ∙ accepted_id (Made c ∷ log) k x then in
        let there = among x.asked (asked p) ((orderly settings log).known x h) in
        let d = in_flat operation_of p.admitted x.asked there in
        new_id p c d.0 e d.1 (mine ∙ sym (operation_id d.0 x.asked d.2))

    owed_before : (r : Option CallRefused) → refusal (standing (past settings log)) c ≡ r
        → Contains (replies_due databases target settings log) x.reply
    owed_before (Some reason) e =
        subst (λ rs. Contains (replies databases target rs) x.reply) (same_requests log c reason e) (k.owed x then)
    owed_before None e =
        let p = past settings log in
        let s = sent_request (standing p) c e in
        let all = subst (λ rs. IsIn x.reply (replies databases target rs)) (newest_request log c s.request e s.made)
        (among x.reply (replies_due databases target settings (Made c ∷ log)) (k.owed x then)) in
        let earlier = replies_due databases target settings log in
        contained x.reply earlier
        (elim (in_either x.reply earlier (reply_of (owed databases target (requests settings log) s.request)) all) [
          | inl i ↦ i
          | inr i ↦ absurd (not_to s.request e s.made
              (last s.request (owed databases target (requests settings log) s.request) refl i))
        ])
      where
        last : (v : Apdu) (a : Result OwedReply TargetError) → owed databases target (requests settings log) v ≡ a
            → IsIn x.reply (reply_of a)
            → Replies target v x.reply
        last v (Ok a) e (inl is) =
            let s = association_after databases target (requests settings log) in
            subst (Replies target v) (sym is) (answer_replies target databases s.state s.sets v a e)
        last v (Ok a) e (inr none) = absurd none
        last v (Err reason) e none = absurd none

  pub before_call : (log : Log) (c : Call) → IsConversation databases target settings (Made c ∷ log)
      → IsConversation databases target settings log
  before_call log c k =
      let p = past settings log in
      record {
        owed = λ x h. owed_before log c k x h (refusal (standing p) c) refl;
        sound = sym (same_fault p c (refusal (standing p) c)) ∙ k.sound;
      }

  pub before_reply : (log : Log) (reply : Apdu) → IsConversation databases target settings (Got reply ∷ log)
      → IsConversation databases target settings log
  before_reply log reply k =
      let p = past settings log in
      let v = verdict (standing p) reply in
      record {
        owed = λ x h.
            subst (λ rs. Contains (replies databases target rs) x.reply) (got_requests log reply)
            (k.owed x (contained x (after_verdict p v).accepted (stays p v x (among x p.accepted h))));
        sound = fault_before p v k.sound;
      }

  -- ---- the state of the target

  init_state : (r : InitRequest) → is_accepted target r.protocol_version ≡ true
      → (association_after databases target (apdus.InitRequest r ∷ [])).state ≡ Open (terms target r)
  init_state r h = ap (λ b. cond b (Open (terms target r)) Ended) h

  init_accepted : (s : Settings) → target.refuse ≡ false
      → (r : InitRequest) × (init_request s ≡ apdus.InitRequest r) × (is_accepted target r.protocol_version ≡ true)
  init_accepted s f = (_, refl, ap (λ b. not b && true) f)

  between_open : (v : Apdu) (s : TargetStanding) (t : Terms) → ComesBetween v → s.state ≡ Open t
      → (next_association s (owed_in_association databases target s v)).state ≡ Open t
  between_open (apdus.SearchRequest r) s t b e =
      ap (λ q. (next_association s (owed_in_state databases target q s.sets (apdus.SearchRequest r))).state) e
      ∙ search_state target databases t s.sets r
  between_open (apdus.PresentRequest r) s t b e =
      ap (λ q. (next_association s (owed_in_state databases target q s.sets (apdus.PresentRequest r))).state) e
  between_open (apdus.InitRequest r) s t b e = absurd b
  between_open (apdus.InitResponse r) s t b e = absurd b
  between_open (apdus.SearchResponse r) s t b e = absurd b
  between_open (apdus.PresentResponse r) s t b e = absurd b
  between_open (apdus.Close r) s t b e = absurd b

  -- after an accepted Init and requests before Close, the association is open
  runs_open : (received : List Apdu) → target.refuse ≡ false → Runs received
      → (t : Terms) × ((association_after databases target received).state ≡ Open t)
  runs_open [] f r = absurd r
  runs_open (v ∷ vs) f (inl init) =
      let a = init_accepted init.0.0 f in
      let only : v ∷ vs ≡ apdus.InitRequest a.0 ∷ [] = λ i. (init.0.1 ∙ a.1) i ∷ init.1 i in
      (terms target a.0, ap (λ l. (association_after databases target l).state) only ∙ init_state a.0 a.2)
  runs_open (v ∷ vs) f (inr more) =
      let m = runs_open vs f more.1 in
      (m.0, between_open v (association_after databases target vs) m.0 more.0 m.1)

  -- if the origin's association is accepted, the target accepted it
  pub accepted_open : (log : Log) → IsConversation databases target settings log → IsAccepting (opening (past settings log))
      → target.refuse ≡ false
  accepted_open log k a =
      let p = past settings log in
      let found = find_in is_opening p.accepted a.answer a.is in
      let d = due log a.answer.reply (k.owed a.answer (contained a.answer p.accepted found.0)) in
      let s = init_sent target d.request a.response (subst (Replies target d.request) a.reply d.replies) in
      not_refused target s.0.protocol_version (sym s.2 ∙ a.result)

  open_for : (log : Log) (c : Call) → is_init_call c ≡ false → refusal (standing (past settings log)) c ≡ None
      → IsConversation databases target settings log
      → (t : Terms) × ((association_after databases target (requests settings log)).state ≡ Open t)
  open_for log c n h k =
      let p = past settings log in
      let r = ready_past p (call_ready p c n h) in
      runs_open (requests settings log) (accepted_open log k r.0)
      ((are_sent settings log).runs (init_in p (orderly settings log) r.0.answer r.0.is) r.1)

  -- ---- each request is taken

  owed_open : (received : List Apdu) (v : Apdu) (t : Terms) (a : OwedReply)
      → (association_after databases target received).state ≡ Open t
      → owed_in_state databases target (Open t) (association_after databases target received).sets v ≡ Ok a
      → (b : OwedReply) × (owed databases target received v ≡ Ok b)
  owed_open received v t a e h =
      (a, ap (λ q. owed_in_state databases target q (association_after databases target received).sets v) e ∙ h)

  -- in an open association a search, a request for records or a Close is taken
  open_takes : (received : List Apdu) (v : Apdu) (t : Terms) → (association_after databases target received).state ≡ Open t
      → ComesBetween v ⊎ (v ≡ close_request) → (a : OwedReply) × (owed databases target received v ≡ Ok a)
  open_takes received (apdus.SearchRequest r) t e (inl b) = owed_open received (apdus.SearchRequest r) t _ e refl
  open_takes received (apdus.PresentRequest r) t e (inl b) = owed_open received (apdus.PresentRequest r) t _ e refl
  open_takes received (apdus.InitRequest r) t e (inl b) = absurd b
  open_takes received (apdus.InitResponse r) t e (inl b) = absurd b
  open_takes received (apdus.SearchResponse r) t e (inl b) = absurd b
  open_takes received (apdus.PresentResponse r) t e (inl b) = absurd b
  open_takes received (apdus.Close r) t e (inl b) = absurd b
  open_takes received v t e (inr close) =
      subst (λ w. (a : OwedReply) × (owed databases target received w ≡ Ok a)) (sym close)
      (owed_open received close_request t _ e refl)

  first_takes : (v : Apdu) (s : Settings) → v ≡ init_request s → (a : OwedReply) × (owed databases target [] v ≡ Ok a)
  first_takes v s e = subst (λ w. (a : OwedReply) × (owed databases target [] w ≡ Ok a)) (sym e) (_, refl)

  module _ (log : Log) (k : IsConversation databases target settings log) where
    call_taken : (c : Call) (v : Apdu) → refusal (standing (past settings log)) c ≡ None
        → request_of (standing (past settings log)) c ≡ Some v
        → (a : OwedReply) × (owed databases target (requests settings log) v ≡ Ok a)
    call_taken Init v h m =
        let p = past settings log in
        let none = (are_sent settings log).first (fresh_past p h) in
        subst (λ rs. (a : OwedReply) × (owed databases target rs v ≡ Ok a)) (sym (ap (λ l. reverse l) none))
        (first_takes v p.settings (sym (some_same (init_request p.settings) v m)))
    call_taken (Search op set ask) v h m =
        let o = open_for log (Search op set ask) refl h k in
        open_takes (requests settings log) v o.0 o.1
        (inl (search_between (standing (past settings log)) op set ask v m))
    call_taken (Present op set ranges) v h m =
        let o = open_for log (Present op set ranges) refl h k in
        open_takes (requests settings log) v o.0 o.1
        (inl (present_between (standing (past settings log)) op set ranges v m))
    call_taken Close v h m =
        let o = open_for log Close refl h k in
        open_takes (requests settings log) v o.0 o.1 (inr (sym (some_same close_request v m)))

    taken_call : (c : Call) (r : Option CallRefused) → refusal (standing (past settings log)) c ≡ r
        → AreTaken databases target (requests settings log)
        → AreTaken databases target (requests settings (Made c ∷ log))
    taken_call c (Some reason) e t = subst (AreTaken databases target) (sym (same_requests log c reason e)) t
    taken_call c None e t =
        let s = sent_request (standing (past settings log)) c e in
        subst (AreTaken databases target) (sym (newest_request log c s.request e s.made))
        (call_taken c s.request e s.made, t)

  pub are_taken : (log : Log) → IsConversation databases target settings log
      → AreTaken databases target (requests settings log)
  are_taken [] k = tt
  are_taken (Made c ∷ log) k =
      let before = before_call log c k in
      taken_call log before c (refusal (standing (past settings log)) c) refl (are_taken log before)
  are_taken (Got reply ∷ log) k =
      subst (AreTaken databases target) (sym (got_requests log reply)) (are_taken log (before_reply log reply k))
