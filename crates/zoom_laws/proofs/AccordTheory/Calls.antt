-- The request of a call, and the operation that it begins.
use Rattle.std.proofs.Common.{◌≡◌, ◌⊎◌, inl, inr, ℕ, true, ◌==◌, List, [], ◌∷◌, map, Option, None, Some, refl, sym, ap, subst, ◌∙◌, true≢false, arith}
use Rattle.std.proofs.lemmas.Bool.Decides.{nat_tests}
use Rattle.std.specs.Option.{option_map}
use Rattle.zapdu.specs.declared.apdu.Apdu.{Apdu}
use Rattle.zplan.specs.Positions.{IsIn}
use Rattle.zplan.specs.declared.range.Range.{Range}
use Rattle.zorigin.specs.declared.answer.What.TheVariants as what
use Rattle.zorigin.specs.declared.answer.Asked.{Asked}
use Rattle.zorigin.specs.declared.state.Searched.{Searched}
use Rattle.zorigin.specs.References.{reference_id, operation_number}
use Rattle.zorigin.specs.Standings.{Call, Init, Search, Present, Close, Standing, search_of}
use Rattle.zorigin.specs.Sending.{init_request, search_request, present_request, close_request, sent_range, additional, request_of}
use Rattle.zorigin.specs.Changes.{init_asked}
use Rattle.zorigin.specs.Accepts.{id_of}
use Rattle.zorigin.specs.Log.{operation_of}
use Rattle.zorigin.proofs.Members.{any_in}
use Rattle.zorigin.proofs.Ids.{spelled_number}
use Rattle.zorigin.proofs.Operations.{has, AreDistinct}
use Rattle.zplan.specs.Ranges.{positions}
use Rattle.ztarget.specs.Positions as received
use Rattle.ztarget.specs.Positions.{received_range}
use Rattle.zoom_laws.proofs.AccordTheory.Owing.{Asks}

-- ---- the request of a call

abbrev pub IsRequestOf : Call → Apdu → Type 0
IsRequestOf c v = (s : Standing) × (request_of s c ≡ Some v)

abbrev pub call_id : Call → Option (List ℕ)
call_id Init = Some (reference_id 0)
call_id (Search op set ask) = Some (reference_id op)
call_id (Present op set ranges) = Some (reference_id op)
call_id Close = None

pub some_same : {X : Type 0} (x y : X) → Some x ≡ Some y → x ≡ y
some_same x y e = cc

-- a Present has a range and a search
pub present_so : (s : Standing) (op set : ℕ) (ranges : List Range) (v : Apdu)
    → request_of s (Present op set ranges) ≡ Some v
    → (r : Range) × (rs : List Range) × (x : Searched) × (ranges ≡ r ∷ rs)
    × (present_request s.force.named op r rs x ≡ v)
present_so s op set [] v h = absurd (cc)
present_so s op set (r ∷ rs) v h = by (search_of s.searches set) h
  where
    by : (o : Option Searched) → option_map (present_request s.force.named op r rs) o ≡ Some v
        → (q : Range) × (qs : List Range) × (x : Searched) × (r ∷ rs ≡ q ∷ qs)
        × (present_request s.force.named op q qs x ≡ v)
    by None e = absurd (cc)
    by (Some x) e = (r, rs, x, refl, some_same (present_request s.force.named op r rs x) v e)

pub request_id : (c : Call) (v : Apdu) → IsRequestOf c v → id_of v ≡ call_id c
request_id Init v h = sym (ap id_of (some_same (init_request h.0.settings) v h.1))
request_id (Search op set ask) v h = sym (ap id_of (some_same (search_request h.0.force.named op set ask) v h.1))
request_id (Present op set ranges) v h = let p = present_so h.0 op set ranges v h.1 in sym (ap id_of p.4)
request_id Close v h = sym (ap id_of (some_same close_request v h.1))

-- ranges that are sent are received
pub sent_received : (rs : List Range) → map received_range (map sent_range rs) ≡ rs
sent_received [] = refl
sent_received (r ∷ rs) = ap (λ l. r ∷ l) (sent_received rs)

pub others_received : (rs : List Range) → received.received_additional (additional rs) ≡ rs
others_received [] = refl
others_received (r ∷ rs) = sent_received (r ∷ rs)

pub request_asks : (c : Call) (v : Apdu) (q : Asked) → IsRequestOf c v → IsIn q (operation_of c) → Asks q.what v
request_asks Init v q h (inl e) =
    subst (λ (x : Asked). Asks x.what v) (sym e)
    (subst (Asks what.Init) (some_same (init_request h.0.settings) v h.1) tt)
request_asks Init v q h (inr none) = absurd none
request_asks (Search op set ask) v q h (inl e) =
    subst (λ (x : Asked). Asks x.what v) (sym e)
    (subst (Asks what.Search) (some_same (search_request h.0.force.named op set ask) v h.1) tt)
request_asks (Search op set ask) v q h (inr none) = absurd none
request_asks (Present op set ranges) v q h (inl e) =
    let p = present_so h.0 op set ranges v h.1 in
    let same : positions (p.0 ∷ p.1) ≡ positions (p.0 ∷ received.received_additional (additional p.1)) =
    ap (λ l. positions (p.0 ∷ l)) (sym (others_received p.1)) in
    subst (λ (x : Asked). Asks x.what v) (sym e)
    (subst (λ l. Asks (what.Present l) v) (sym p.3) (subst (Asks (what.Present (p.0 ∷ p.1))) p.4 same))
request_asks (Present op set ranges) v q h (inr none) = absurd none
request_asks Close v q h none = absurd none

-- ---- the operation of a call

pub operation_id : (c : Call) (q : Asked) → IsIn q (operation_of c) → call_id c ≡ Some (reference_id q.op)
operation_id Init q (inl e) = ap (λ (x : Asked). Some (reference_id x.op)) (sym e)
operation_id Init q (inr none) = absurd none
operation_id (Search op set ask) q (inl e) = ap (λ (x : Asked). Some (reference_id x.op)) (sym e)
operation_id (Search op set ask) q (inr none) = absurd none
operation_id (Present op set ranges) q (inl e) = ap (λ (x : Asked). Some (reference_id x.op)) (sym e)
operation_id (Present op set ranges) q (inr none) = absurd none
operation_id Close q none = absurd none

-- a call is Close or has an operation
pub call_kind : (c : Call) → (c ≡ Close) ⊎ ((q : Asked) × IsIn q (operation_of c))
call_kind Init = inr (init_asked, inl refl)
call_kind (Search op set ask) = inr (_, inl refl)
call_kind (Present op set ranges) = inr (_, inl refl)
call_kind Close = inl refl

pub same_number : (m n : ℕ) → reference_id m ≡ reference_id n → m ≡ n
same_number m n e = some_same m n (sym (spelled_number m) ∙ ap operation_number e ∙ spelled_number n)

pub has_self : (n : ℕ) → (n == n) ≡ true
has_self n = grind (arith, nat_tests)

pub one_asked : (qs : List Asked) (q r : Asked) → AreDistinct qs → IsIn q qs → IsIn r qs → q.op ≡ r.op → q ≡ r
one_asked [] q r d i j e = absurd i
one_asked (x ∷ qs) q r d (inl i) (inl j) e = i ∙ sym j
one_asked (x ∷ qs) q r d (inr i) (inr j) e = one_asked qs q r d.1 i j e
one_asked (x ∷ qs) q r d (inl i) (inr j) e =
    let same : r.op ≡ x.op = sym e ∙ ap (λ (y : Asked). y.op) i in
    absurd (true≢false (sym (any_in (has x.op) qs r j (ap (λ n. n == x.op) same ∙ has_self x.op)) ∙ d.0))
one_asked (x ∷ qs) q r d (inr i) (inl j) e =
    let same : q.op ≡ x.op = e ∙ ap (λ (y : Asked). y.op) j in
    absurd (true≢false (sym (any_in (has x.op) qs q i (ap (λ n. n == x.op) same ∙ has_self x.op)) ∙ d.0))
