-- How many requests are sent, and how many replies are owed to them.
use Rattle.std.proofs.Common.{◌≡◌, ℕ, zero, suc, ◌+◌, ◌*◌, ◌≤◌, Bool, true, false, cond, List, [], ◌∷◌, ◌++◌, length, filter, Option, None, Some, Result, Ok, Err, refl, ap, subst, ◌∙◌, length-append, arith}
use Rattle.std.specs.Prelude.{◌||◌, nat_le, slice_get}
use Rattle.std.specs.List.{flat_map, list_any}
use Rattle.std.proofs.lemmas.List.{length-reverse}
use Rattle.std.proofs.lemmas.List.Sorted.{length_permutation}
use Rattle.zapdu.specs.declared.apdu.Apdu.{Apdu}
use Rattle.zorigin.specs.declared.settings.Settings.{Settings}
use Rattle.zorigin.specs.declared.refusal.CallRefused.{CallRefused}
use Rattle.zorigin.specs.Standings.{Call, Init, Search, Present, Close}
use Rattle.zplan.specs.Ranges.{positions}
use Rattle.zorigin.specs.Calls.{refusal}
use Rattle.zorigin.specs.Replies.{verdict}
use Rattle.zorigin.specs.Sending.{encoding_of, request_of, sent_of, IsReadBack}
use Rattle.zorigin.specs.Log.{Log, Made, Got, Past, past, standing, asked, operation_of, request_list, admit_unless, after_verdict, is_close_call}
use Rattle.ztarget.specs.declared.database.Database.{Database}
use Rattle.ztarget.specs.declared.settings.TargetSettings.{TargetSettings}
use Rattle.ztarget.specs.declared.error.TargetError.{TargetError}
use Rattle.ztarget.specs.Replies.{OwedReply, owed, reply_of, replies}
use Rattle.zoom_questions.specs.declared.question.Question.{Question}
use Rattle.zoom_pool.specs.Transcripts.{past_of}
use Rattle.zoom_pool.specs.Hosts.{replies_to}
use Rattle.zoom_pool.specs.Laws.{OneTranscript}
use Rattle.zoom_pool.specs.Connections.{AreReadBack}
use Rattle.zoom_pool.specs.History.{events_on}
use Rattle.zoom_pool.specs.MetaLaws.{MetaLaws, found_for}
use Rattle.zoom_questions.specs.Askable.{AreAskable, IsAskable}
use Rattle.zoom_pool.specs.Metas.{settings_of}
use Rattle.zoom_pool.proofs.Drivings.{asked_more, same_asked}
use Rattle.zoom_pool.proofs.Phases.{any_last}
use Rattle.zplan.specs.Positions.{up_to}
use Rattle.zoom_laws.specs.Accord.{requests}
use Rattle.zoom_laws.proofs.AccordTheory.Requests.{same_verdict, call_ready, ready_past}
use Rattle.zoom_laws.specs.Exchange.{got_in, CountLaw, FewLaw}
use Rattle.zoom_laws.proofs.ExchangeTheory.Sounds.{due}

-- ---- replies

few_of : (r : Result OwedReply TargetError) → length (reply_of r) ≤ 1
few_of (Ok a) = omega arith
few_of (Err e) = omega arith

-- at most one reply is owed to each request
pub few_replies : (databases : List Database) (target : TargetSettings) (received : List Apdu)
    → length (replies databases target received) ≤ length received
few_replies databases target [] = omega arith
few_replies databases target (v ∷ received) =
    let older = few_replies databases target received in
    let one = few_of (owed databases target received v) in
    let all = length-append (replies databases target received) (reply_of (owed databases target received v)) in
    omega (arith, older, one, all)

pub count : CountLaw
count holdings settings events p host_events host s =
    let asks = requests p.settings p.log in
    let put = s.served.served.sent in
    let d = due holdings settings events p host_events host s in
    let few = few_replies holdings.databases holdings.settings asks in
    let reversed : length asks ≡ length (past_of p).sent = length-reverse (past_of p).sent in
    let moved : length (put ++ d.0) ≡ length (replies_to holdings asks) =
    length_permutation (replies_to holdings asks) (put ++ d.0) d.1 in
    let parts = length-append put d.0 in
    let got : length put ≡ length (got_in p.log) + length s.coming =
    ap length s.got ∙ length-append (got_in p.log) s.coming in
    let taken = s.count in
    (omega (arith, few, reversed, moved, parts, got, taken), omega (arith, few, reversed, moved, parts))

-- ---- requests

one_request : (o : Option Apdu) → length (request_list o) ≤ 1
one_request None = omega arith
one_request (Some v) = omega arith

abbrev closes : Bool → ℕ
closes b = cond b 1 0

-- one request for each operation, and one for Close
abbrev IsFew : Past → Type 0
IsFew p = length p.sent ≤ length (asked p) + closes (list_any is_close_call p.admitted)

operation_more : (p : Past) (call : Call) → length (operation_of call) ≡ 1 → is_close_call call ≡ false → IsFew p
    → IsFew (admit_unless p call None)
operation_more p call one other h =
    let now = request_list (request_of (standing p) call) in
    let b = list_any is_close_call p.admitted in
    let c : closes (list_any is_close_call (p.admitted ++ call ∷ [])) ≡ closes b =
    ap closes (any_last p.admitted call ∙ ap (λ z. b || z) other ∙ or_false b) in
    let most = one_request (request_of (standing p) call) in
    let all = length-append p.sent now in
    let more : length (asked (admit_unless p call None)) ≡ length (asked p) + length (operation_of call) =
    ap length (asked_more p call) ∙ length-append (asked p) (operation_of call) in
    omega (arith, h, c, most, all, more, one)
  where
    or_false : (b : Bool) → (b || false) ≡ b
    or_false true = refl
    or_false false = refl

close_more : (p : Past) → list_any is_close_call p.admitted ≡ false → IsFew p → IsFew (admit_unless p Close None)
close_more p none h =
    let now = request_list (request_of (standing p) Close) in
    let b = list_any is_close_call p.admitted in
    let c : closes (list_any is_close_call (p.admitted ++ Close ∷ [])) ≡ 1 =
    ap closes (any_last p.admitted Close ∙ ap (λ z. z || true) none) in
    let before : closes b ≡ 0 = ap closes none in
    let most = one_request (request_of (standing p) Close) in
    let all = length-append p.sent now in
    let more : length (asked (admit_unless p Close None)) ≡ length (asked p) + 0 =
    ap length (asked_more p Close) ∙ length-append (asked p) [] in
    omega (arith, h, c, before, most, all, more)

call_more : (p : Past) (call : Call) (r : Option CallRefused) → refusal (standing p) call ≡ r → IsFew p
    → IsFew (admit_unless p call r)
call_more p call (Some reason) e h = h
call_more p Init None e h = operation_more p Init refl refl h
call_more p (Search op set ask) None e h = operation_more p (Search op set ask) refl refl h
call_more p (Present op set ranges) None e h = operation_more p (Present op set ranges) refl refl h
call_more p Close None e h = close_more p (ready_past p (call_ready p Close refl e)).1 h

few_sent : (settings : Settings) (log : Log) → IsFew (past settings log)
few_sent settings [] = omega arith
few_sent settings (Made call ∷ log) =
    let p = past settings log in
    call_more p call (refusal (standing p) call) refl (few_sent settings log)
few_sent settings (Got reply ∷ log) =
    let p = past settings log in
    let v = verdict (standing p) reply in
    let same = same_verdict p v in
    let older = few_sent settings log in
    let sent : length (after_verdict p v).sent ≡ length p.sent = ap length same.1 in
    let ops : length (asked (after_verdict p v)) ≡ length (asked p) = ap length (same_asked p v) in
    let c : closes (list_any is_close_call (after_verdict p v).admitted) ≡ closes (list_any is_close_call p.admitted) =
    ap (λ z. closes (list_any is_close_call z)) same.0 in
    omega (arith, older, sent, ops, c)

closes_one : (b : Bool) → closes b ≤ 1
closes_one true = omega arith
closes_one false = omega arith

filter_few : {X : Type 0} (t : X → Bool) (xs : List X) → length (filter t xs) ≤ length xs
filter_few t [] = omega arith
filter_few t (x ∷ xs) =
    let later = filter_few t xs in
    elim (t x) as (λ b. length (cond b (x ∷ filter t xs) (filter t xs)) ≤ suc (length xs)) [
      | true ↦ omega (arith, later)
      | false ↦ omega (arith, later)
    ]

-- ---- octets

-- the encoding of an APDU that is read back fits one message
one_read : (v : Apdu) → IsReadBack (sent_of v) → length (encoding_of v) ≤ 2097152
one_read v r =
    let b = r.framed [] in
    let whole : length (encoding_of v ++ []) ≡ length (b.message ++ []) = ap length b.cut in
    let left = length-append (encoding_of v) [] in
    let right = length-append b.message [] in
    let within = b.is.within in
    omega (arith, whole, left, right, within)

all_read : (vs : List Apdu) → AreReadBack vs → length (flat_map encoding_of vs) ≤ length vs * 2097152
all_read [] r = omega arith
all_read (v ∷ vs) r =
    let one = one_read v r.0 in
    let later = all_read vs r.1 in
    let parts = length-append (encoding_of v) (flat_map encoding_of vs) in
    omega (arith, one, later, parts)

-- ---- connections that are driven

askable_at : (qs : List Question) (c : ℕ) (q : Question) → AreAskable qs → slice_get qs c ≡ Some q → IsAskable q
askable_at [] c q a e = absurd (cc)
askable_at (x ∷ qs) zero q a e = subst IsAskable (cc) a.0
askable_at (x ∷ qs) (suc c) q a e = askable_at qs c q a.1 e

-- lists that are equally long have elements at the same places
there_too : {X Y : Type 0} (xs : List X) (ys : List Y) (c : ℕ) (x : X) → length ys ≡ length xs
    → slice_get xs c ≡ Some x
    → (y : Y) × (slice_get ys c ≡ Some y)
there_too [] ys c x n e = absurd (cc)
there_too (x' ∷ xs) [] c x n e = absurd (omega (arith, n))
there_too (x' ∷ xs) (y ∷ ys) zero x n e = (y, refl)
there_too (x' ∷ xs) (y ∷ ys) (suc c) x n e = there_too xs ys c x (omega (arith, n)) e

pub few : MetaLaws → OneTranscript → FewLaw
few laws uniqueness questions s h meta c q p a at transcript =
    let asks = (past_of p).sent in
    let k = there_too questions meta.pool.connections c q a.size at in
    let l = a.pool.stands.each c k.0 k.1 in
    let same = uniqueness (settings_of s) (events_on c h) (a.pool.transcript c) p l.transcript transcript in
    let octets = all_read asks (subst (λ z. AreReadBack (past_of z).sent) same l.reads) in
    let operations = laws.few questions s h meta c q p a at transcript in
    let up : length (up_to (found_for q p) (positions q.wanted)) ≤ length (positions q.wanted) =
    filter_few (λ n. nat_le n (found_for q p)) (positions q.wanted) in
    let most = (askable_at questions c q a.askable at).some in
    let requests = few_sent p.settings p.log in
    let last = closes_one (list_any is_close_call (past_of p).admitted) in
    let n : length asks ≤ 1000003 = omega (arith, operations, up, most, requests, last) in
    (n, omega (arith, n, octets))
