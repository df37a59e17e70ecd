-- The rows of the table of calls: none of them refuses a call that is due.
use Rattle.std.proofs.Common.{◌≡◌, inl, inr, ℕ, ◌≤◌, Bool, true, false, cond, not, List, [], ◌∷◌, map, None, Some, refl, sym, ap, subst, ◌∙◌, arith, true≢false}
use Rattle.std.proofs.lemmas.Bool.Decides.{nat_tests}
use Rattle.std.proofs.lemmas.Int.{ints}
use Rattle.std.specs.Prelude.{ℤ, pos, negsuc, ◌||◌, ◌&&◌, nat_eq, int_lt, filter}
use Rattle.std.specs.List.{list_any}
use Rattle.std.specs.Option.{option_map}
use Rattle.zplan.specs.Plan as plan
use Rattle.zplan.specs.Plan.{Operation, number}
use Rattle.zplan.specs.Positions.{IsIn}
use Rattle.zorigin.specs.declared.settings.Ask.{Ask}
use Rattle.zplan.specs.declared.range.Range.{Range}
use Rattle.zorigin.specs.declared.answer.Asked.{Asked}
use Rattle.zorigin.specs.declared.refusal.CallRefused.{CallRefused}
use Rattle.zorigin.specs.declared.refusal.CallRefused.TheVariants as reasons
use Rattle.zorigin.specs.declared.state.Searched.{Searched}
use Rattle.zorigin.specs.Standings.{Init, Search, Present, Close, Standing, search_of}
use Rattle.zorigin.specs.Ranges.{is_past}
use Rattle.zplan.specs.Ranges.{natural}
use Rattle.zorigin.specs.Sending.{is_unsendable, init_request, present_request}
use Rattle.zorigin.specs.Calls.{refusal, early_refusal, or_unsendable, unsendable, is_unsendable_request}
use Rattle.zorigin.specs.Log.{Past, is_answered, op_of}
use Rattle.zoom_pool.specs.Steering.{is_skip}

no_some : {A : Type 0} {x : A} → Some x ≡ None → ⊥
no_some e = cc

-- ---- tests

pub and_false : (b : Bool) → (b && false) ≡ false
and_false true = refl
and_false false = refl

pub or_first : (a b : Bool) → (a || b) ≡ true → b ≡ false → a ≡ true
or_first true b h f = refl
or_first false b h f = absurd (true≢false (sym h ∙ f))

pub any_in : {X : Type 0} (f : X → Bool) (xs : List X) (x : X) → IsIn x xs → f x ≡ true → list_any f xs ≡ true
any_in f [] x i t = absurd i
any_in f (y ∷ xs) x (inl e) t = ap (λ b. b || list_any f xs) (ap f (sym e) ∙ t)
any_in f (y ∷ xs) x (inr i) t =
    let later = any_in f xs x i t in
    elim (f y) as (λ b. (b || list_any f xs) ≡ true) [ true ↦ refl | false ↦ later ]

-- ---- all rows but that of the request

pub init_rows : (ready used : Bool) → ready ≡ true → used ≡ false
    → cond (not ready) (Some reasons.WrongState) (cond used (Some reasons.OpUsed) None) ≡ None
init_rows ready used r u = rw (r, u) refl

-- for a search, the row of the option may hold
pub search_rows : (ready offered used set beyond busy : Bool)
    → ready ≡ true → used ≡ false → set ≡ false → beyond ≡ false → busy ≡ false
    → cond (not ready) (Some reasons.WrongState) (cond (not offered) (Some reasons.NotOffered)
    (cond used (Some reasons.OpUsed) (cond set (Some reasons.SetUsed) (cond beyond (Some reasons.OutOfRange)
    (cond busy (Some reasons.Busy) None))))) ≡ cond (not offered) (Some reasons.NotOffered) None
search_rows ready offered used set beyond busy r u s b z = rw (r, u, s, b, z) refl

pub present_rows : (ready unoffered used unknown unready replaced beyond busy : Bool)
    → ready ≡ true → unoffered ≡ false → used ≡ false → unknown ≡ false → unready ≡ false → replaced ≡ false
    → beyond ≡ false → busy ≡ false
    → cond (not ready) (Some reasons.WrongState) (cond unoffered (Some reasons.NotOffered)
    (cond used (Some reasons.OpUsed) (cond unknown (Some reasons.SetUnknown) (cond unready (Some reasons.SetNotReady)
    (cond replaced (Some reasons.SetReplaced) (cond beyond (Some reasons.OutOfRange)
    (cond busy (Some reasons.Busy) None))))))) ≡ None
present_rows ready unoffered used unknown unready replaced beyond busy r o u k n p b z =
    rw (r, o, u, k, n, p, b, z) refl

-- ---- the request

pub admits_init : (s : Standing) → early_refusal s Init ≡ None → is_unsendable (init_request s.settings) ≡ false
    → refusal s Init ≡ None
unfolding refusal
admits_init s early sends =
    ap (or_unsendable (is_unsendable (init_request s.settings))) early
    ∙ ap (λ b. cond b (Some reasons.Unsendable) None) sends

pub admits_close : (s : Standing) → early_refusal s Close ≡ None → refusal s Close ≡ None
unfolding refusal
admits_close s early = ap (or_unsendable false) early

pub admits_present : (s : Standing) (op set : ℕ) (r : Range) (rs : List Range) (found : Searched)
    → search_of s.searches set ≡ Some found → early_refusal s (Present op set (r ∷ rs)) ≡ None
    → is_unsendable (present_request s.force.named op r rs found) ≡ false → refusal s (Present op set (r ∷ rs)) ≡ None
unfolding refusal
admits_present s op set r rs found known early sends =
    ap (or_unsendable (unsendable s (Present op set (r ∷ rs)))) early
    ∙ ap (λ o. cond (is_unsendable_request (option_map (present_request s.force.named op r rs) o))
    (Some reasons.Unsendable) None) known
    ∙ ap (λ b. cond b (Some reasons.Unsendable) None) sends

-- a search is refused because it is not offered or because it cannot be sent
pub refuses_search : (s : Standing) (op set : ℕ) (ask : Ask) (reason : CallRefused)
    → early_refusal s (Search op set ask) ≡ cond (not s.force.search) (Some reasons.NotOffered) None
    → refusal s (Search op set ask) ≡ Some reason → is_skip (Some reason) (Search op set ask) ≡ true
unfolding refusal
refuses_search s op set ask reason early q =
    by (unsendable s (Search op set ask)) s.force.search
    (sym (ap (or_unsendable (unsendable s (Search op set ask))) early) ∙ q)
  where
    by : (unsent offered : Bool)
        → or_unsendable unsent (cond (not offered) (Some reasons.NotOffered) None) ≡ Some reason
        → is_skip (Some reason) (Search op set ask) ≡ true
    by unsent false q = subst (λ o. is_skip o (Search op set ask) ≡ true) q refl
    by true true q = subst (λ o. is_skip o (Search op set ask) ≡ true) q refl
    by false true q = absurd (no_some (sym q))

-- ---- numbers

-- no operation with this number was admitted
pub unused : (k : ℕ) (qs : List Asked) → ((q : Asked) → IsIn q qs → q.op ≡ k → ⊥)
    → list_any (nat_eq k) (map op_of qs) ≡ false
unused k [] h = refl
unused k (q ∷ qs) h =
    let later = unused k qs (λ r i. h r (inr i)) in
    elim (nat_eq k q.op) as (λ b. nat_eq k q.op ≡ b → (b || list_any (nat_eq k) (map op_of qs)) ≡ false) [
      | true ↦ λ t. absurd (h q (inl refl) (let e : q.op ≡ k = grind (arith, nat_tests, t) in e))
      | false ↦ λ t. later
    ] refl

pub number_init : (a : Operation) → number a ≡ 0 → a ≡ plan.Init
number_init plan.Init e = refl
number_init plan.Search e = absurd (omega (arith, e))
number_init (plan.Present l) e = absurd (omega (arith, e))

-- ---- the count

-- positions that the search found are not above its count
pub none_past : (n : ℤ) (count : ℕ) (ps : List ℕ) → natural n ≡ count
    → ((p : ℕ) → IsIn p ps → (1 ≤ p) × (p ≤ count)) → is_past n ps ≡ false
none_past n count [] e h = refl
none_past n count (p ∷ ps) e h =
    let b = h p (inl refl) in
    ap (λ t. t || is_past n ps) (here n e b.0 b.1) ∙ none_past n count ps e (λ q i. h q (inr i))
  where
    here : (n : ℤ) → natural n ≡ count → 1 ≤ p → p ≤ count → int_lt n (pos p) ≡ false
    here (pos m) e lo hi = let le : p ≤ m = omega (arith, e, hi) in grind (arith, ints, le)
    here (negsuc m) e lo hi = absurd (omega (arith, e, lo, hi))

-- ---- outstanding operations

pub none_left : (p : Past) (qs : List Asked) → ((q : Asked) → IsIn q qs → is_answered p q.op ≡ true)
    → filter (λ (q : Asked). not (is_answered p q.op)) qs ≡ []
none_left p [] h = refl
none_left p (q ∷ qs) h =
    let rest : List Asked = filter (λ (r : Asked). not (is_answered p r.op)) qs in
    ap (λ b. cond (not b) (q ∷ rest) rest) (h q (inl refl)) ∙ none_left p qs (λ r i. h r (inr i))
