-- The APDUs that a log got, and how each was taken.
use Rattle.std.proofs.Common.{option_map, ◌≡◌, ◌⊎◌, inl, inr, true, false, cond, List, [], ◌∷◌, ◌++◌, Option, None, Some, Result, Ok, Err, refl, sym, ap, subst, ◌∙◌, true≢false}
use Rattle.std.specs.Prelude.{Contains, ◌||◌}
use Rattle.std.specs.List.{list_any}
use Rattle.std.proofs.lemmas.Bool.{or_right}
use Rattle.std.proofs.lemmas.List.Elements.{Contains-append_left, Contains-append_cases, Contains-push, Contains-push_cases}
use Rattle.zapdu.specs.declared.apdu.Apdu.{Apdu}
use Rattle.zapdu.specs.declared.apdu.Apdu.TheVariants as apdus
use Rattle.zapdu.specs.declared.productions.close.Close.{Close as CloseApdu}
use Rattle.zplan.specs.Positions.{IsIn}
use Rattle.zorigin.specs.declared.settings.Settings.{Settings}
use Rattle.zorigin.specs.declared.answer.Answer.{Answer}
use Rattle.zorigin.specs.declared.answer.Asked.{Asked}
use Rattle.zorigin.specs.declared.answer.Taken.{Taken}
use Rattle.zorigin.specs.declared.answer.Taken.TheVariants as taken
use Rattle.zorigin.specs.declared.refusal.CallRefused.{CallRefused}
use Rattle.zorigin.specs.declared.refusal.Refused.{Refused}
use Rattle.zorigin.specs.declared.refusal.Refused.TheVariants as refused
use Rattle.zorigin.specs.declared.state.Searched.{Searched}
use Rattle.zorigin.specs.Standings.{Call, Init, Search, Present, Close, Standing, is_open, search_of}
use Rattle.zorigin.specs.Calls.{refusal}
use Rattle.zorigin.specs.Replies.{verdict, open_verdict, against, judged, named, taken_by}
use Rattle.zorigin.specs.Sending.{request_of, present_request}
use Rattle.zorigin.specs.Fitting.{fault_of}
use Rattle.zorigin.specs.Log.{Log, Made, Got, Past, past, standing, state_of, request_list, admit_unless, after_verdict, is_close_call}
use Rattle.zorigin.specs.Accepts.{IsAccepted}
use Rattle.zorigin.proofs.Members.{contained, among}
use Rattle.zorigin.proofs.Proper.{answer_in, verdict_found}
use Rattle.zoom_laws.specs.Exchange.{got_in}

-- ---- what was taken

-- each APDU that the log got was taken
abbrev pub AllTaken : Settings → Log → Type 0
AllTaken settings [] = Unit {0}
AllTaken settings (Made call ∷ log) = AllTaken settings log
AllTaken settings (Got v ∷ log) =
    ((x : Taken) × (verdict (standing (past settings log)) v ≡ Ok x)) × AllTaken settings log

abbrev okay : Taken → Result Taken Refused
okay x = Ok x

-- only a Close closes
judged_open : (answer : Answer) (o : Option Refused) → judged answer o ≡ Ok taken.Closed → ⊥
judged_open answer (Some reason) e = absurd (cc)
judged_open answer None e = by answer.reply e
  where
    by : (reply : Apdu) → okay (taken_by answer reply) ≡ Ok taken.Closed → ⊥
    by (apdus.InitRequest v) f = cc
    by (apdus.InitResponse v) f = elim v.result as
        (λ b. okay (cond b (taken.Opened answer) (taken.Rejected answer)) ≡ Ok taken.Closed → ⊥) [
          | true ↦ λ g. absurd (cc)
          | false ↦ λ g. absurd (cc)
        ] f
    by (apdus.SearchRequest v) f = cc
    by (apdus.SearchResponse v) f = cc
    by (apdus.PresentRequest v) f = cc
    by (apdus.PresentResponse v) f = cc
    by (apdus.Close v) f = cc

against_open : (o : Option Asked) (reply : Apdu) → against o reply ≡ Ok taken.Closed → ⊥
against_open None reply e = absurd (cc)
against_open (Some asked) reply e = judged_open (record { asked = asked; reply = reply }) (fault_of asked.what reply) e

answered_close : (s : Standing) (reply : Apdu) → open_verdict s reply ≡ Ok taken.Closed → (c : CloseApdu) ×
    (reply ≡ apdus.Close c)
answered_close s (apdus.InitRequest v) e = absurd (cc)
answered_close s (apdus.InitResponse v) e = absurd (against_open (named s v.reference_id) (apdus.InitResponse v) e)
answered_close s (apdus.SearchRequest v) e = absurd (cc)
answered_close s (apdus.SearchResponse v) e = absurd (against_open (named s v.reference_id) (apdus.SearchResponse v) e)
answered_close s (apdus.PresentRequest v) e = absurd (cc)
answered_close s (apdus.PresentResponse v) e = absurd
    (against_open (named s v.reference_id) (apdus.PresentResponse v) e)
answered_close s (apdus.Close v) e = (v, refl)

verdict_close : (s : Standing) (reply : Apdu) → verdict s reply ≡ Ok taken.Closed → (c : CloseApdu) ×
    (reply ≡ apdus.Close c)
unfolding verdict
verdict_close s reply e =
    elim (is_open s.state) as (λ b. cond b (open_verdict s reply) (Err refused.WrongState) ≡ Ok taken.Closed →
    (c : CloseApdu) × (reply ≡ apdus.Close c)) [
      | true ↦ answered_close s reply
      | false ↦ λ f. absurd (cc)
    ] e

-- ---- an APDU that the log got is accepted, or closed the connection

-- how an APDU that the log got was taken
abbrev pub Became : Past → Apdu → Type 0
Became p v = ((a : Answer) × Contains p.accepted a × (a.reply ≡ v)) ⊎
    ((c : CloseApdu) × (v ≡ apdus.Close c) × (p.closed ≡ true))

stays_accepted : (p : Past) (a : Answer) (v : Apdu) → Became p v → Became
    (record p { accepted = p.accepted ++ a ∷ [] }) v
stays_accepted p a v (inl x) = inl (x.0, Contains-append_left p.accepted (a ∷ []) x.0 x.1, x.2)
stays_accepted p a v (inr x) = inr x

stays_closed : (p : Past) (v : Apdu) → Became p v → Became (record p { closed = true }) v
stays_closed p v (inl x) = inl x
stays_closed p v (inr x) = inr (x.0, x.1, refl)

stays_taken : (p : Past) (x : Taken) (v : Apdu) → Became p v → Became (after_verdict p (Ok x)) v
stays_taken p (taken.Opened a) v h = stays_accepted p a v h
stays_taken p (taken.Rejected a) v h = stays_accepted p a v h
stays_taken p (taken.Answered a) v h = stays_accepted p a v h
stays_taken p taken.Closed v h = stays_closed p v h

now_taken : (p : Past) (x : Taken) (v : Apdu) → verdict (standing p) v ≡ Ok x → Became (after_verdict p (Ok x)) v
now_taken p (taken.Opened a) v e = inl (
  a,
  Contains-push p.accepted a,
  (verdict_found (standing p) v a (ap answer_in e)).1.reply,
)
now_taken p (taken.Rejected a) v e = inl
    (a, Contains-push p.accepted a, (verdict_found (standing p) v a (ap answer_in e)).1.reply)
now_taken p (taken.Answered a) v e = inl
    (a, Contains-push p.accepted a, (verdict_found (standing p) v a (ap answer_in e)).1.reply)
now_taken p taken.Closed v e = let c = verdict_close (standing p) v e in inr (c.0, c.1, refl)

stays_called : (p : Past) (call : Call) (o : Option CallRefused) (v : Apdu) → Became p v → Became
    (admit_unless p call o) v
stays_called p call None v h = h
stays_called p call (Some reason) v h = h

pub none_in : {X : Type 0} (x : X) → Contains [] x → ⊥
none_in x h = among x [] h

pub got_became : (settings : Settings) (log : Log) (v : Apdu) → AllTaken settings log → Contains (got_in log) v
    → Became (past settings log) v
got_became settings [] v t i = absurd (none_in v i)
got_became settings (Made call ∷ log) v t i =
    let p = past settings log in
    stays_called p call (refusal (standing p) call) v (got_became settings log v t i)
got_became settings (Got w ∷ log) v t i =
    let p = past settings log in
    let x = t.0.0 in
    subst (λ (r : Result Taken Refused). Became (after_verdict p r) v) (sym t.0.1)
    (elim (Contains-push_cases (got_in log) w v i) [
      | inl j ↦ stays_taken p x v (got_became settings log v t.1 j)
      | inr e ↦ now_taken p x v (subst (λ (z : Apdu). verdict (standing p) z ≡ Ok x) e t.0.1)
    ])

-- an accepted reply was got
pub got_there : (later log : Log) (v : Apdu) → Contains (got_in (later ++ Got v ∷ log)) v
got_there [] log v = Contains-push (got_in log) v
got_there (Made call ∷ later) log v = got_there later log v
got_there (Got w ∷ later) log v = Contains-append_left (got_in (later ++ Got v ∷ log)) (w ∷ []) v
    (got_there later log v)

pub accepted_got : (settings : Settings) (log : Log) (a : Answer) → IsAccepted settings log a → Contains
    (got_in log) a.reply
accepted_got settings log a i = subst (λ (l : Log). Contains (got_in l) a.reply) (sym i.cut)
    (got_there i.later i.earlier a.reply)

-- a connection that was closed got a Close
pub closed_got : (settings : Settings) (log : Log) → (past settings log).closed ≡ true → (c : CloseApdu) × Contains
    (got_in log) (apdus.Close c)
closed_got settings [] e = absurd (true≢false (sym e))
closed_got settings (Made call ∷ log) e = by (closed_got settings log) (refusal (standing (past settings log)) call) e
  where
    by : ((past settings log).closed ≡ true → (c : CloseApdu) × Contains (got_in log) (apdus.Close c))
        → (o : Option CallRefused) → (admit_unless (past settings log) call o).closed ≡ true → (c : CloseApdu)
        × Contains (got_in log) (apdus.Close c)
    by older None f = older f
    by older (Some reason) f = older f
closed_got settings (Got v ∷ log) e = by (λ f. before (closed_got settings log f))
    (verdict (standing (past settings log)) v) refl e
  where
    before : (c : CloseApdu) × Contains (got_in log) (apdus.Close c) → (c : CloseApdu) × Contains
        (got_in log ++ v ∷ []) (apdus.Close c)
    before g = (g.0, Contains-append_left (got_in log) (v ∷ []) (apdus.Close g.0) g.1)

    by : ((past settings log).closed ≡ true → (c : CloseApdu) × Contains (got_in log ++ v ∷ []) (apdus.Close c))
        → (r : Result Taken Refused) → verdict (standing (past settings log)) v ≡ r →
        (after_verdict (past settings log) r).closed ≡ true
        → (c : CloseApdu) × Contains (got_in log ++ v ∷ []) (apdus.Close c)
    by older (Ok (taken.Opened a)) q f = older f
    by older (Ok (taken.Rejected a)) q f = older f
    by older (Ok (taken.Answered a)) q f = older f
    by older (Ok taken.Closed) q f =
        let c = verdict_close (standing (past settings log)) v q in
        (c.0, subst (λ (z : Apdu). Contains (got_in log ++ v ∷ []) z) c.1 (Contains-push (got_in log) v))
    by older (Err reason) q f = older (elim (is_open (state_of (past settings log))) as
        (λ b. (cond b (record (past settings log) { fault = Some reason }) (past settings log)).closed ≡ true →
        (past settings log).closed ≡ true) [
          | true ↦ λ g. g
          | false ↦ λ g. g
        ] f)

-- ---- a Close that was sent

close_called : (s : Standing) (call : Call) (c : CloseApdu) → request_of s call ≡ Some (apdus.Close c) →
    (call ≡ Close) × (c.reference_id ≡ None)
close_called s Init c e = absurd (cc)
close_called s (Search op set ask) c e = absurd (cc)
close_called s (Present op set []) c e = absurd (cc)
close_called s (Present op set (r ∷ rs)) c e = by (search_of s.searches set) e
  where
    by : (o : Option Searched) → option_map (present_request s.force.named op r rs) o ≡ Some (apdus.Close c) →
        (Present op set (r ∷ rs) ≡ Close) × (c.reference_id ≡ None)
    by None f = absurd (cc)
    by (Some searched) f = absurd (cc)
close_called s Close c e = (refl, sym (close_is e))
  where
    close_is : {d : CloseApdu} → Some (apdus.Close d) ≡ Some (apdus.Close c) → d.reference_id ≡ c.reference_id
    close_is {d} f = let g : d ≡ c = cc in ap (λ (z : CloseApdu). z.reference_id) g

in_request : (o : Option Apdu) (v : Apdu) → Contains (request_list o) v → o ≡ Some v
in_request None v i = absurd (none_in v i)
in_request (Some w) v i = elim (among v (w ∷ []) i) [ inl e ↦ ap (λ (z : Apdu). Some z) (sym e) | inr f ↦ absurd f ]

-- it was admitted, and has no reference id
pub close_sent : (settings : Settings) (log : Log) (c : CloseApdu) → Contains (past settings log).sent (apdus.Close c)
    → Contains (past settings log).admitted Close × (c.reference_id ≡ None)
close_sent settings [] c i = absurd (none_in (apdus.Close c) i)
close_sent settings (Made call ∷ log) c i = by (close_sent settings log c)
    (refusal (standing (past settings log)) call) i
  where
    by : (Contains (past settings log).sent (apdus.Close c) → Contains (past settings log).admitted Close ×
        (c.reference_id ≡ None))
        → (o : Option CallRefused) → Contains (admit_unless (past settings log) call o).sent (apdus.Close c)
        → Contains (admit_unless (past settings log) call o).admitted Close × (c.reference_id ≡ None)
    by older (Some reason) j = older j
    by older None j = elim (Contains-append_cases (past settings log).sent
        (request_list (request_of (standing (past settings log)) call)) (apdus.Close c) j) [
          | inl k ↦ (Contains-append_left (past settings log).admitted (call ∷ []) Close (older k).0, (older k).1)
          | inr k ↦ (
              let is = close_called (standing (past settings log)) call c
              (in_request (request_of (standing (past settings log)) call) (apdus.Close c) k) in (
                subst (λ (z : Call). Contains ((past settings log).admitted ++ z ∷ []) Close) (sym is.0)
                    (Contains-push (past settings log).admitted Close),
                is.1,
              ))
        ]
close_sent settings (Got v ∷ log) c i = by (close_sent settings log c) (verdict (standing (past settings log)) v) i
  where
    by : (Contains (past settings log).sent (apdus.Close c) → Contains (past settings log).admitted Close ×
        (c.reference_id ≡ None))
        → (r : Result Taken Refused) → Contains (after_verdict (past settings log) r).sent (apdus.Close c)
        → Contains (after_verdict (past settings log) r).admitted Close × (c.reference_id ≡ None)
    by older (Ok (taken.Opened a)) j = older j
    by older (Ok (taken.Rejected a)) j = older j
    by older (Ok (taken.Answered a)) j = older j
    by older (Ok taken.Closed) j = older j
    by older (Err reason) j = elim (is_open (state_of (past settings log))) as
        (λ b. Contains (cond b (record (past settings log) { fault = Some reason }) (past settings log)).sent
        (apdus.Close c)
        → Contains (cond b (record (past settings log) { fault = Some reason }) (past settings log)).admitted Close ×
        (c.reference_id ≡ None)) [
          | true ↦ older
          | false ↦ older
        ] j

any_close : (calls : List Call) → IsIn Close calls → list_any is_close_call calls ≡ true
any_close [] i = absurd i
any_close (call ∷ calls) (inl e) = ap (λ z. is_close_call z || list_any is_close_call calls) (sym e)
any_close (call ∷ calls) (inr i) = ap (λ b. is_close_call call || b) (any_close calls i)
    ∙ or_right (is_close_call call) true refl

pub close_admitted : (p : Past) → Contains p.admitted Close → list_any is_close_call p.admitted ≡ true
close_admitted p i = any_close p.admitted (among Close p.admitted i)

-- the converse
pub close_called_in : (calls : List Call) → list_any is_close_call calls ≡ true → Contains calls Close
close_called_in calls h = contained Close calls (by calls h)
  where
    by : (xs : List Call) → list_any is_close_call xs ≡ true → IsIn Close xs
    by [] e = absurd (true≢false (sym e))
    by (Init ∷ xs) e = inr (by xs e)
    by (Search op set ask ∷ xs) e = inr (by xs e)
    by (Present op set ranges ∷ xs) e = inr (by xs e)
    by (Close ∷ xs) e = inl refl
