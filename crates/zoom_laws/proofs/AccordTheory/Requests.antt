-- The requests of the calls of a log.
use Rattle.std.proofs.Common.{◌≡◌, ◌≢◌, ◌⊎◌, inl, inr, ℕ, Bool, true, false, cond, ◌==◌, List, [], ◌∷◌, ◌++◌, reverse, Option, None, Some, Result, Ok, Err, refl, sym, ap, subst, ◌∙◌, true≢false}
use Rattle.std.specs.List.{list_any}
use Rattle.zapdu.specs.declared.apdu.Apdu.{Apdu}
use Rattle.zapdu.specs.declared.apdu.Apdu.TheVariants as apdus
use Rattle.zapdu.specs.declared.productions.init_response.InitResponse.{InitResponse}
use Rattle.zplan.specs.Positions.{IsIn}
use Rattle.zplan.proofs.Cuts.{in_left, in_right, in_either}
use Rattle.zorigin.specs.declared.settings.Settings.{Settings}
use Rattle.zplan.specs.declared.range.Range.{Range}
use Rattle.zorigin.specs.declared.settings.Ask.{Ask}
use Rattle.zorigin.specs.declared.answer.Asked.{Asked}
use Rattle.zorigin.specs.declared.answer.Answer.{Answer}
use Rattle.zorigin.specs.declared.answer.Taken.{Taken}
use Rattle.zorigin.specs.declared.answer.Taken.TheVariants as taken
use Rattle.zorigin.specs.declared.refusal.CallRefused.{CallRefused}
use Rattle.zorigin.specs.declared.refusal.Refused.{Refused}
use Rattle.zorigin.specs.declared.state.State.TheVariants as states
use Rattle.zorigin.specs.References.{reference_id}
use Rattle.zorigin.specs.Standings.{Call, Init, Search, Present, Close, Standing, is_fresh, is_ready, is_open, ready}
use Rattle.zorigin.specs.Sending.{init_request, search_request, request_of}
use Rattle.zorigin.specs.Calls.{refusal}
use Rattle.zorigin.specs.Replies.{verdict}
use Rattle.zorigin.specs.Changes.{options_in_force}
use Rattle.zorigin.specs.Laws.{IsOrderly}
use Rattle.zorigin.specs.Log.{Log, Made, Got, Past, past, operation_of, asked, is_init, is_opening, opening, is_init_call, is_close_call, state_by, closing_state, state_from, state_of, standing, request_list, admit_unless, after_verdict}
use Rattle.zorigin.proofs.Members.{contained, among, any_in, find_in}
use Rattle.zorigin.proofs.Operations.{has}
use Rattle.zorigin.proofs.Orderly.{orderly, sent_request}
use Rattle.zorigin.proofs.Proper.{free, fresh_op, ready_if}
use Rattle.zoom_laws.proofs.AccordTheory.Members.{reverse_push, of_reverse, in_flat, flat_in, AreApart, apart_none, apart_cons}
use Rattle.zoom_laws.proofs.AccordTheory.Calls.{IsRequestOf, call_id, some_same, present_so, request_id, operation_id, call_kind, same_number, has_self}

-- ---- what follows from the states

pub record IsAccepting (o : Option Answer) : Type 0 where
  pub answer : Answer
  pub is : o ≡ Some answer
  pub response : InitResponse
  pub reply : answer.reply ≡ apdus.InitResponse response
  pub result : response.result ≡ true

pub ready_so : (f : Option Refused) (closed closing begun : Bool) (o : Option Answer)
    → is_ready (state_from f closed closing begun o) ≡ true → IsAccepting o × (closing ≡ false)
ready_so (Some r) closed closing begun o h = absurd (true≢false (sym h))
ready_so None true closing begun o h = absurd (true≢false (sym h))
ready_so None false closing true None h = absurd (true≢false (sym h))
ready_so None false closing false None h = absurd (true≢false (sym h))
ready_so None false closing begun (Some x) h = by x.reply refl h
  where
    either : (b c v3 concurrent named : Bool)
        → is_ready (closing_state c (cond b (states.Ready v3 concurrent named) states.Closed)) ≡ true
        → (b ≡ true) × (c ≡ false)
    either true false v3 concurrent named e = (refl, refl)
    either true true v3 concurrent named e = absurd (true≢false (sym e))
    either false c v3 concurrent named e = absurd (true≢false (sym e))

    by : (reply : Apdu) → x.reply ≡ reply → is_ready (closing_state closing (state_by reply)) ≡ true
        → IsAccepting (Some x) × (closing ≡ false)
    by (apdus.InitResponse v) e g =
        let t = either v.result closing (options_in_force v).v3 (options_in_force v).concurrent (options_in_force v).named g in
        (record { answer = x; is = refl; response = v; reply = e; result = t.0 }, t.1)
    by (apdus.InitRequest v) e g = absurd (true≢false (sym g))
    by (apdus.SearchRequest v) e g = absurd (true≢false (sym g))
    by (apdus.SearchResponse v) e g = absurd (true≢false (sym g))
    by (apdus.PresentRequest v) e g = absurd (true≢false (sym g))
    by (apdus.PresentResponse v) e g = absurd (true≢false (sym g))
    by (apdus.Close v) e g = absurd (true≢false (sym g))

pub fresh_so : (f : Option Refused) (closed closing begun : Bool) (o : Option Answer)
    → is_fresh (state_from f closed closing begun o) ≡ true → begun ≡ false
fresh_so (Some r) closed closing begun o h = absurd (true≢false (sym h))
fresh_so None true closing begun o h = absurd (true≢false (sym h))
fresh_so None false closing true None h = absurd (true≢false (sym h))
fresh_so None false closing false None h = refl
fresh_so None false closing begun (Some x) h = absurd (never x.reply h)
  where
    opened : (b c v3 concurrent named : Bool)
        → is_fresh (closing_state c (cond b (states.Ready v3 concurrent named) states.Closed)) ≡ true → ⊥
    opened true true v3 concurrent named e = cc
    opened true false v3 concurrent named e = cc
    opened false c v3 concurrent named e = cc

    never : (reply : Apdu) → is_fresh (closing_state closing (state_by reply)) ≡ true → ⊥
    never (apdus.InitRequest v) e = cc
    never (apdus.InitResponse v) e =
        opened v.result closing (options_in_force v).v3 (options_in_force v).concurrent (options_in_force v).named e
    never (apdus.SearchRequest v) e = cc
    never (apdus.SearchResponse v) e = cc
    never (apdus.PresentRequest v) e = cc
    never (apdus.PresentResponse v) e = cc
    never (apdus.Close v) e = cc

-- replies are taken once Init was called, until a Close is taken, unless the association was rejected
pub open_so : (closing : Bool) (o : Option Answer) → (o ≡ None) ⊎ IsAccepting o
    → is_open (state_from None false closing true o) ≡ true
open_so closing o (inl e) = ap (λ x. is_open (state_from None false closing true x)) e
open_so closing o (inr a) =
    ap (λ x. is_open (state_from None false closing true x)) a.is
    ∙ ap (λ r. is_open (closing_state closing (state_by r))) a.reply
    ∙ ap (λ b. is_open (closing_state closing (cond b (ready (options_in_force a.response)) states.Closed))) a.result
    ∙ elim closing as (λ c. is_open (closing_state c (ready (options_in_force a.response))) ≡ true)
    [ true ↦ refl | false ↦ refl ]

-- the Init operation is that of the call of Init
init_call : (c : Call) (q : Asked) → IsIn q (operation_of c) → is_init q.what ≡ true → c ≡ Init
init_call Init q i h = refl
init_call (Search op set ask) q (inl e) h = absurd (true≢false (sym (ap (λ (x : Asked). is_init x.what) (sym e) ∙ h)))
init_call (Search op set ask) q (inr none) h = absurd none
init_call (Present op set ranges) q (inl e) h =
    absurd (true≢false (sym (ap (λ (x : Asked). is_init x.what) (sym e) ∙ h)))
init_call (Present op set ranges) q (inr none) h = absurd none
init_call Close q none h = absurd none

-- if the association was accepted, Init was called
pub init_in : (p : Past) → IsOrderly p → (x : Answer) → opening p ≡ Some x → IsIn Init p.admitted
init_in p ok x e =
    let found = find_in is_opening p.accepted x e in
    let there =
    in_flat operation_of p.admitted x.asked
    (among x.asked (asked p) (ok.known x (contained x p.accepted found.0))) in
    subst (λ c. IsIn c p.admitted) (init_call there.0 x.asked there.2 found.1) there.1

-- ---- all requests

-- it is between Init and Close
abbrev pub ComesBetween : Apdu → Type 0
ComesBetween (apdus.SearchRequest r) = Unit {0}
ComesBetween (apdus.PresentRequest r) = Unit {0}
ComesBetween _ = ⊥

-- Init, and behind it requests between Init and Close, the newest first
abbrev pub Runs : List Apdu → Type 0
Runs [] = ⊥
Runs (v ∷ vs) = (((s : Settings) × (v ≡ init_request s)) × (vs ≡ [])) ⊎ (ComesBetween v × Runs vs)

pub search_between : (s : Standing) (op set : ℕ) (ask : Ask) (v : Apdu) → request_of s (Search op set ask) ≡ Some v
    → ComesBetween v
search_between s op set ask v h = subst ComesBetween (some_same (search_request s.force.named op set ask) v h) tt

pub present_between : (s : Standing) (op set : ℕ) (ranges : List Range) (v : Apdu)
    → request_of s (Present op set ranges) ≡ Some v → ComesBetween v
present_between s op set ranges v h = subst ComesBetween (present_so s op set ranges v h).4 tt

pub record AreSent (calls : List Call) (sent : List Apdu) : Type 0 where
  -- each request is a call's, and each call has one
  pub made : (v : Apdu) → IsIn v sent → (c : Call) × IsIn c calls × IsRequestOf c v
  pub each : (c : Call) → IsIn c calls → (v : Apdu) × IsIn v sent × IsRequestOf c v
  pub apart : AreApart (reverse sent)
  -- Init is the first
  pub first : list_any is_init_call calls ≡ false → sent ≡ []
  pub runs : IsIn Init calls → list_any is_close_call calls ≡ false → Runs (reverse sent)

-- an unused number is that of no call
unused : (p : Past) (op : ℕ) (c : Call) (q : Asked) → list_any (has op) (asked p) ≡ false → IsIn c p.admitted
    → IsIn q (operation_of c)
    → reference_id op ≡ reference_id q.op → ⊥
unused p op c q fresh i j e =
    let same : q.op ≡ op = sym (same_number op q.op e) in
    true≢false (sym (any_in (has op) (asked p) q (flat_in operation_of p.admitted c q i j)
    (ap (λ n. n == op) same ∙ has_self op)) ∙ fresh)

operation_new : (p : Past) (op : ℕ) (c : Call) → list_any (has op) (asked p) ≡ false → IsIn c p.admitted
    → Some (reference_id op) ≡ call_id c → ⊥
operation_new p op c fresh i e = elim (call_kind c) [
  | inl close ↦ (let f : Some (reference_id op) ≡ None = e ∙ ap call_id close in absurd (cc))
  | inr m ↦ unused p op c m.0 fresh i m.1
      (some_same (reference_id op) (reference_id m.0.op) (e ∙ operation_id c m.0 m.1))
]

pub ready_past : (p : Past) → is_ready (state_of p) ≡ true
    → IsAccepting (opening p) × (list_any is_close_call p.admitted ≡ false)
ready_past p h =
    ready_so p.fault p.closed (list_any is_close_call p.admitted) (list_any is_init_call p.admitted) (opening p) h

-- if Init may be called, it was not called
pub fresh_past : (p : Past) → refusal (standing p) Init ≡ None → list_any is_init_call p.admitted ≡ false
fresh_past p h =
    fresh_so p.fault p.closed (list_any is_close_call p.admitted) (list_any is_init_call p.admitted) (opening p)
    (ready_if (is_fresh (state_of p)) (free (standing p) Init h).state)

-- the state in which a call but Init is admitted
pub call_ready : (p : Past) (c : Call) → is_init_call c ≡ false → refusal (standing p) c ≡ None
    → is_ready (state_of p) ≡ true
call_ready p Init n h = absurd (true≢false n)
call_ready p (Search op set ask) n h = ready_if (is_ready (state_of p)) (free (standing p) (Search op set ask) h).state
call_ready p (Present op set ranges) n h =
    ready_if (is_ready (state_of p)) (free (standing p) (Present op set ranges) h).state
call_ready p Close n h = ready_if (is_ready (state_of p)) (free (standing p) Close h).state

-- a call that is admitted has an id that no call before it has
pub new_id : (p : Past) (c d : Call) → refusal (standing p) c ≡ None → IsIn d p.admitted → call_id c ≢ call_id d
new_id p Init d h i e = operation_new p 0 d (fresh_op p 0 (free (standing p) Init h).op) i e
new_id p (Search op set ask) d h i e =
    operation_new p op d (fresh_op p op (free (standing p) (Search op set ask) h).op) i e
new_id p (Present op set ranges) d h i e =
    operation_new p op d (fresh_op p op (free (standing p) (Present op set ranges) h).op) i e
new_id p Close d h i e = elim (call_kind d) [
  | inl close ↦ absurd (true≢false (
      sym (any_in is_close_call p.admitted Close (subst (λ x. IsIn x p.admitted) close i) refl)
      ∙ (ready_past p (call_ready p Close refl h)).1
      ))
  | inr m ↦ (let f : None ≡ Some (reference_id m.0.op) = e ∙ operation_id d m.0 m.1 in absurd (cc))
]

module _ (p : Past) (ok : IsOrderly p) where
  init_before : (c : Call) → is_init_call c ≡ false → refusal (standing p) c ≡ None → IsIn Init p.admitted
  init_before c n h = let a = (ready_past p (call_ready p c n h)).0 in init_in p ok a.answer a.is

  init_among : (c : Call) → refusal (standing p) c ≡ None → IsIn Init (p.admitted ++ c ∷ [])
  init_among Init h = in_right Init p.admitted (Init ∷ []) (inl refl)
  init_among (Search op set ask) h =
      in_left Init p.admitted (Search op set ask ∷ []) (init_before (Search op set ask) refl h)
  init_among (Present op set ranges) h =
      in_left Init p.admitted (Present op set ranges ∷ []) (init_before (Present op set ranges) refl h)
  init_among Close h = in_left Init p.admitted (Close ∷ []) (init_before Close refl h)

  runs_on : (c : Call) (v : Apdu) → refusal (standing p) c ≡ None → request_of (standing p) c ≡ Some v
      → AreSent p.admitted p.sent
      → list_any is_close_call (p.admitted ++ c ∷ []) ≡ false → Runs (v ∷ reverse p.sent)
  runs_on Init v h m k going =
      let none = k.first (fresh_past p h) in
      inl ((p.settings, sym (some_same (init_request p.settings) v m)), ap (λ l. reverse l) none)
  runs_on (Search op set ask) v h m k going =
      inr (
        search_between (standing p) op set ask v m,
        k.runs (init_before (Search op set ask) refl h) (ready_past p (call_ready p (Search op set ask) refl h)).1,
      )
  runs_on (Present op set ranges) v h m k going =
      inr (
        present_between (standing p) op set ranges v m,
        k.runs (init_before (Present op set ranges) refl h)
            (ready_past p (call_ready p (Present op set ranges) refl h)).1,
      )
  runs_on Close v h m k going =
      absurd (true≢false (sym (any_in is_close_call (p.admitted ++ Close ∷ []) Close
      (in_right Close p.admitted (Close ∷ []) (inl refl)) refl) ∙ going))

  are_sent_more : (c : Call) (v : Apdu) → refusal (standing p) c ≡ None → request_of (standing p) c ≡ Some v
      → AreSent p.admitted p.sent
      → AreSent (p.admitted ++ c ∷ []) (p.sent ++ v ∷ [])
  are_sent_more c v h m k = record {
    made = λ w i. elim (in_either w p.sent (v ∷ []) i) [
      | inl j ↦ (let o = k.made w j in (o.0, in_left o.0 p.admitted (c ∷ []) o.1, o.2))
      | inr j ↦ elim j [
        | inl e ↦ (c, in_right c p.admitted (c ∷ []) (inl refl), (standing p, m ∙ ap (λ x. Some x) (sym e)))
        | inr none ↦ absurd none
      ]
    ];
    each = λ d i. elim (in_either d p.admitted (c ∷ []) i) [
      | inl j ↦ (let o = k.each d j in (o.0, in_left o.0 p.sent (v ∷ []) o.1, o.2))
      | inr j ↦ elim j [
        | inl e ↦ (v, in_right v p.sent (v ∷ []) (inl refl), (standing p, ap (request_of (standing p)) e ∙ m))
        | inr none ↦ absurd none
      ]
    ];
    apart = subst AreApart (sym (reverse_push p.sent v)) (apart_cons v (reverse p.sent) (λ w i e.
        let o = k.made w (of_reverse w p.sent i) in
        new_id p c o.0 h o.1 (sym (request_id c v (standing p, m)) ∙ e ∙ request_id o.0 w o.2)) k.apart);
    first = λ none.
        let begun = any_in is_init_call (p.admitted ++ c ∷ []) Init (init_among c h) refl in
        absurd (true≢false (sym begun ∙ none));
    runs = λ _ going. subst Runs (sym (reverse_push p.sent v)) (runs_on c v h m k going);
  }

  are_sent_call : (c : Call) (r : Option CallRefused) → refusal (standing p) c ≡ r → AreSent p.admitted p.sent
      → AreSent (admit_unless p c r).admitted (admit_unless p c r).sent
  are_sent_call c (Some reason) e k = k
  are_sent_call c None e k =
      let s = sent_request (standing p) c e in
      subst (λ o. AreSent (p.admitted ++ c ∷ []) (p.sent ++ request_list o)) (sym s.made)
      (are_sent_more c s.request e s.made k)

pub same_verdict : (p : Past) (v : Result Taken Refused)
    → ((after_verdict p v).admitted ≡ p.admitted) × ((after_verdict p v).sent ≡ p.sent)
same_verdict p (Ok (taken.Opened a)) = (refl, refl)
same_verdict p (Ok (taken.Rejected a)) = (refl, refl)
same_verdict p (Ok (taken.Answered a)) = (refl, refl)
same_verdict p (Ok taken.Closed) = (refl, refl)
same_verdict p (Err r) =
    elim (is_open (state_of p)) as (λ b. ((cond b (record p { fault = Some r }) p).admitted ≡ p.admitted)
    × ((cond b (record p { fault = Some r }) p).sent ≡ p.sent))
    [ true ↦ (refl, refl) | false ↦ (refl, refl) ]

pub are_sent : (settings : Settings) (log : Log) → AreSent (past settings log).admitted (past settings log).sent
are_sent settings [] = record {
  made = λ v i. absurd i;
  each = λ c i. absurd i;
  apart = apart_none;
  first = λ _. refl;
  runs = λ i _. absurd i;
}
are_sent settings (Made c ∷ log) =
    let p = past settings log in
    are_sent_call p (orderly settings log) c (refusal (standing p) c) refl (are_sent settings log)
are_sent settings (Got reply ∷ log) =
    let p = past settings log in
    let s = same_verdict p (verdict (standing p) reply) in
    subst (λ cs. AreSent cs (after_verdict p (verdict (standing p) reply)).sent) (sym s.0)
    (subst (AreSent p.admitted) (sym s.1) (are_sent settings log))
