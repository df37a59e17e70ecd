-- The call that an owed reply replies to, and when it was made.
use Rattle.std.proofs.Common.{◌≡◌, inl, inr, List, [], ◌∷◌, ◌++◌, Option, None, Some, Result, Ok, Err, refl, sym, ap, subst, ◌∙◌}
use Rattle.std.specs.Prelude.{reverse}
use Rattle.std.specs.Option.{option_map}
use Rattle.std.proofs.lemmas.List.{reverse-append}
use Rattle.zplan.specs.Positions.{IsIn}
use Rattle.zplan.proofs.Cuts.{in_left, in_right, in_either}
use Rattle.zapdu.specs.declared.apdu.Apdu.{Apdu}
use Rattle.zorigin.specs.declared.settings.Settings.{Settings}
use Rattle.zplan.specs.declared.range.Range.{Range}
use Rattle.zorigin.specs.declared.state.Searched.{Searched}
use Rattle.zorigin.specs.declared.answer.Asked.{Asked}
use Rattle.zorigin.specs.declared.answer.Answer.{Answer}
use Rattle.zorigin.specs.declared.refusal.CallRefused.{CallRefused}
use Rattle.zorigin.specs.Standings.{Call, Init, Search, Present, Close, Standing, search_of}
use Rattle.zorigin.specs.Sending.{request_of, init_request, search_request, present_request, close_request}
use Rattle.zorigin.specs.Calls.{refusal}
use Rattle.zorigin.specs.Replies.{verdict}
use Rattle.zorigin.specs.Log.{Log, Made, Got, Past, past, standing, asked, operation_of, admit_unless, request_list}
use Rattle.zorigin.proofs.Orderly.{sent_request}
use Rattle.ztarget.specs.declared.database.Database.{Database}
use Rattle.ztarget.specs.declared.settings.TargetSettings.{TargetSettings}
use Rattle.ztarget.specs.declared.error.TargetError.{TargetError}
use Rattle.ztarget.specs.Replies.{owed, replies, reply_of}
use Rattle.ztarget.specs.Replies as target
use Rattle.zoom_pool.specs.Driving.{events_of, IsDueCall, IsDrivenLog}
use Rattle.zoom_pool.specs.Steering.{Errand, IsSteered, IsSteeredCall}
use Rattle.zoom_pool.proofs.Drivings.{asked_more, same_asked}
use Rattle.zoom_laws.proofs.ScheduleTheory.Replies.{kept_call, kept_reply}
use Rattle.zoom_laws.specs.Accord.{requests}
use Rattle.zoom_laws.proofs.AccordTheory.Requests.{same_verdict}

-- ---- one more entry

kept_asked : (p : Past) (call : Call) (r : Option CallRefused) (q : Asked) → IsIn q (asked p)
    → IsIn q (asked (admit_unless p call r))
kept_asked p call None q i =
    subst (IsIn q) (sym (asked_more p call)) (in_left q (asked p) (operation_of call) i)
kept_asked p call (Some r) q i = i

-- the request of an admitted call comes first
pub one_more : (p : Past) (call : Call) (v : Apdu) → request_of (standing p) call ≡ Some v
    → reverse (admit_unless p call None).sent ≡ v ∷ reverse p.sent
one_more p call v e =
    ap (λ o. reverse (p.sent ++ request_list o)) e ∙ reverse-append p.sent (v ∷ [])

-- ---- what a call sends

abbrev pub IsRequest : Standing → Call → Apdu → Type 0
IsRequest s Init v = v ≡ init_request s.settings
IsRequest s (Search op set ask) v = v ≡ search_request s.force.named op set ask
IsRequest s (Present op set ranges) v =
    (r : Range) × (rs : List Range) × (searched : Searched) × (ranges ≡ r ∷ rs)
    × (search_of s.searches set ≡ Some searched) × (v ≡ present_request s.force.named op r rs searched)
IsRequest s Close v = v ≡ close_request

some_is : {X : Type 0} (a b : X) → Some a ≡ Some b → b ≡ a
some_is a b h = cc

pub is_request : (s : Standing) (call : Call) (v : Apdu) → request_of s call ≡ Some v → IsRequest s call v
is_request s Init v e = some_is (init_request s.settings) v e
is_request s (Search op set ask) v e = some_is (search_request s.force.named op set ask) v e
is_request s (Present op set []) v e = absurd cc
is_request s (Present op set (r ∷ rs)) v e = by (search_of s.searches set) refl e
  where
    by : (o : Option Searched) → search_of s.searches set ≡ o
        → option_map (present_request s.force.named op r rs) o ≡ Some v
        → IsRequest s (Present op set (r ∷ rs)) v
    by None is f = absurd cc
    by (Some searched) is f = (r, rs, searched, refl, is, some_is (present_request s.force.named op r rs searched) v f)
is_request s Close v e = some_is close_request v e

-- ---- the call of a reply

module _ (databases : List Database) (offers : TargetSettings) (e : Errand) (settings : Settings) where
  -- The call was made and admitted in the log, and after the requests before it the target owed this to its request.
  pub record SentAt (log : Log) (v : Apdu) (a : target.OwedReply) : Type 0 where
    pub earlier : Log
    pub call : Call
    pub admitted : refusal (standing (past settings earlier)) call ≡ None
    pub request : request_of (standing (past settings earlier)) call ≡ Some v
    pub answer : owed databases offers (requests settings earlier) v ≡ Ok a
    pub steering : IsSteeredCall e settings earlier None call
    pub due : IsDueCall e.ask e.wanted e.step (events_of e.ask settings earlier) None call
    pub steered : IsSteered e settings earlier
    pub driven : IsDrivenLog e.ask e.wanted e.step settings earlier
    pub asks : (q : Asked) → IsIn q (operation_of call) → IsIn q (asked (past settings log))
    pub within : (x : Answer) → IsIn x (past settings earlier).accepted → IsIn x (past settings log).accepted

  abbrev pub IsOwed : Log → Apdu → Type 0
  IsOwed log r = (v : Apdu) × (a : target.OwedReply) × SentAt log v a × (r ≡ a.reply)

  later : (log more : Log) (r : Apdu)
      → ((q : Asked) → IsIn q (asked (past settings log)) → IsIn q (asked (past settings more)))
      → ((x : Answer) → IsIn x (past settings log).accepted → IsIn x (past settings more).accepted)
      → IsOwed log r → IsOwed more r
  later log more r asks keeps o = (
    o.0,
    o.1,
    record {
      earlier = o.2.earlier;
      call = o.2.call;
      admitted = o.2.admitted;
      request = o.2.request;
      answer = o.2.answer;
      steering = o.2.steering;
      due = o.2.due;
      steered = o.2.steered;
      driven = o.2.driven;
      asks = λ q i. asks q (o.2.asks q i);
      within = λ x i. keeps x (o.2.within x i);
    },
    o.3,
  )

  one_reply : (r : Apdu) (o : Result target.OwedReply TargetError) → IsIn r (reply_of o)
      → (a : target.OwedReply) × (o ≡ Ok a) × (r ≡ a.reply)
  one_reply r (Ok a) (inl is) = (a, refl, is)
  one_reply r (Ok a) (inr i) = absurd i
  one_reply r (Err error) i = absurd i

  pub owes : (log : Log) → IsSteered e settings log → IsDrivenLog e.ask e.wanted e.step settings log
      → (r : Apdu) → IsIn r (replies databases offers (requests settings log)) → IsOwed log r
  owes [] s d r i = absurd i
  owes (Made call ∷ log) s d r i =
      made (owes log s.1 d.1 r) (refusal (standing (past settings log)) call) refl s.0 d.0 i
    where
      p : Past
      p = past settings log

      more : IsOwed log r → IsOwed (Made call ∷ log) r
      more = later log (Made call ∷ log) r (kept_asked p call (refusal (standing p) call))
          (kept_call p call (refusal (standing p) call))

      made : (IsIn r (replies databases offers (requests settings log)) → IsOwed log r)
          → (o : Option CallRefused) → refusal (standing p) call ≡ o → IsSteeredCall e settings log o call
          → IsDueCall e.ask e.wanted e.step (events_of e.ask settings log) o call
          → IsIn r (replies databases offers (reverse (admit_unless p call o).sent)) → IsOwed (Made call ∷ log) r
      made before (Some o) is c due j = more (before j)
      made before None is c due j =
          let sends = sent_request (standing p) call is in
          let v = sends.request in
          let k = subst (λ l. IsIn r (replies databases offers l)) (one_more p call v sends.made) j in
          elim (in_either r (replies databases offers (requests settings log))
          (reply_of (owed databases offers (requests settings log) v)) k) [
            | inl old ↦ more (before old)
            | inr new ↦
                let one = one_reply r (owed databases offers (requests settings log) v) new in (
                  v,
                  one.0,
                  record {
                    earlier = log;
                    call = call;
                    admitted = is;
                    request = sends.made;
                    answer = one.1;
                    steering = c;
                    due = due;
                    steered = s.1;
                    driven = d.1;
                    asks = λ q at. subst (λ t. IsIn q (asked (admit_unless p call t))) (sym is)
                        (subst (IsIn q) (sym (asked_more p call)) (in_right q (asked p) (operation_of call) at));
                    within = kept_call p call (refusal (standing p) call);
                  },
                  one.2,
                )
          ]
  owes (Got reply ∷ log) s d r i =
      let p = past settings log in
      let v = verdict (standing p) reply in
      later log (Got reply ∷ log) r
      (λ q at. subst (IsIn q) (sym (same_asked p v)) at) (kept_reply p v)
      (owes log s d r (subst (λ l. IsIn r (replies databases offers (reverse l))) ((same_verdict p v).1) i))
