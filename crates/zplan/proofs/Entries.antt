-- Lists that were cut off: those that are due and those that wait.
use Rattle.std.proofs.Common.{◌≡◌, inl, inr, ℕ, zero, suc, ◌+◌, ◌-◌, ◌<◌, ◌≤◌, Bool, true, false, cond, not, ◌==◌, List, [], ◌∷◌, ◌++◌, length, take, drop, refl, sym, ap, subst, ◌∙◌, arith, length-append, length-drop, true≢false}
use Rattle.std.proofs.lemmas.Bool.Decides.{nat_tests}
use Rattle.std.specs.Prelude.{◌&&◌, ◌||◌, slice_index_or, slice_set, nat_lt}
use Rattle.std.specs.List.{range_with_len}
use Rattle.std.proofs.lemmas.List.FromFn.{length-range_with_len}
use Rattle.zplan.specs.declared.entry.Entry.{Entry}
use Rattle.zplan.specs.Positions.{IsIn, first_of}
use Rattle.zplan.specs.declared.span.Span.{Span}
use Rattle.zplan.specs.Ranges.{places, AreNonempty, IsNonemptyList}
use Rattle.zplan.specs.Schedules.{lists_of, due_of, waiting_of, has_due, IsAskableList, AreAskableLists, IsDueAt, IsWaitingAt, HasNoneWaiting}
use Rattle.zplan.proofs.Cuts.{in_either, AllSome}

abbrev pub AllSent : List Entry → Type 0
AllSent [] = Unit {0}
AllSent (e ∷ es) = (e.sent ≡ true) × AllSent es

-- ---- an entry among others

pub split_at : {X : Type 0} (es : List X) (at : ℕ) (x : X) → at < length es → x ≡ slice_index_or es at x → es ≡ take at es ++ x ∷ drop (suc at) es
split_at [] at x lt e = absurd (omega arith)
split_at (y ∷ es) zero x lt e = ap (λ z. z ∷ es) (sym e)
split_at (y ∷ es) (suc at) x lt e = ap (λ l. y ∷ l) (split_at es at x (omega arith) e)

pub set_at : {X : Type 0} (es : List X) (at : ℕ) (x : X) → at < length es → slice_set es at x ≡ take at es ++ x ∷ drop (suc at) es
set_at [] at x lt = absurd (omega arith)
set_at (y ∷ es) zero x lt = refl
set_at (y ∷ es) (suc at) x lt = ap (λ l. y ∷ l) (set_at es at x (omega arith))

-- ---- what is due and what waits, part by part

pub lists_append : (xs ys : List Entry) → lists_of (xs ++ ys) ≡ lists_of xs ++ lists_of ys
lists_append [] ys = refl
lists_append (x ∷ xs) ys = ap (λ l. places x.list.items ∷ l) (lists_append xs ys)

pub due_append : (xs ys : List Entry) → due_of (xs ++ ys) ≡ due_of xs ++ due_of ys
due_append [] ys = refl
due_append (x ∷ xs) ys =
    let l : List ℕ = places x.list.items in
    let later = due_append xs ys in
    elim x.sent as (λ b. cond b (due_of (xs ++ ys)) (l ∷ due_of (xs ++ ys)) ≡ cond b (due_of xs) (l ∷ due_of xs) ++ due_of ys) [
      | true ↦ later
      | false ↦ ap (λ z. l ∷ z) later
    ]

pub waiting_append : (xs ys : List Entry) → waiting_of (xs ++ ys) ≡ waiting_of xs ++ waiting_of ys
waiting_append [] ys = refl
waiting_append (x ∷ xs) ys =
    let l : List ℕ = places x.list.items in
    let later = waiting_append xs ys in
    elim x.sent as (λ b. cond b (l ∷ waiting_of (xs ++ ys)) (waiting_of (xs ++ ys)) ≡ cond b (l ∷ waiting_of xs) (waiting_of xs) ++ waiting_of ys) [
      | true ↦ ap (λ z. l ∷ z) later
      | false ↦ later
    ]

pub due_one : (x : Entry) (ys : List Entry) → x.sent ≡ false → due_of (x ∷ ys) ≡ places x.list.items ∷ due_of ys
due_one x ys h = ap (λ b. cond b (due_of ys) (places x.list.items ∷ due_of ys)) h

pub due_none : (x : Entry) (ys : List Entry) → x.sent ≡ true → due_of (x ∷ ys) ≡ due_of ys
due_none x ys h = ap (λ b. cond b (due_of ys) (places x.list.items ∷ due_of ys)) h

pub waiting_one : (x : Entry) (ys : List Entry) → x.sent ≡ true → waiting_of (x ∷ ys) ≡ places x.list.items ∷ waiting_of ys
waiting_one x ys h = ap (λ b. cond b (places x.list.items ∷ waiting_of ys) (waiting_of ys)) h

pub waiting_none : (x : Entry) (ys : List Entry) → x.sent ≡ false → waiting_of (x ∷ ys) ≡ waiting_of ys
waiting_none x ys h = ap (λ b. cond b (places x.list.items ∷ waiting_of ys) (waiting_of ys)) h

pub sent_none : (xs : List Entry) → AllSent xs → due_of xs ≡ []
sent_none [] h = refl
sent_none (x ∷ xs) h = due_none x xs h.0 ∙ sent_none xs h.1

pub none_due : (xs : List Entry) → has_due xs ≡ false → due_of xs ≡ []
none_due [] h = refl
none_due (x ∷ xs) h =
    let sent : x.sent ≡ true = grind (arith, nat_tests) in
    let none : has_due xs ≡ false = grind (arith, nat_tests) in
    due_none x xs sent ∙ none_due xs none

pub sent_has : (xs : List Entry) → AllSent xs → has_due xs ≡ false
sent_has [] h = refl
sent_has (x ∷ xs) h = ap (λ b. not b || has_due xs) h.0 ∙ sent_has xs h.1

pub has_append : (xs : List Entry) (x : Entry) → x.sent ≡ false → has_due (xs ++ x ∷ []) ≡ true
has_append [] x h = ap (λ b. not b || false) h
has_append (y ∷ xs) x h =
    let later = has_append xs x h in
    elim y.sent as (λ b. (not b || has_due (xs ++ x ∷ [])) ≡ true) [ true ↦ later | false ↦ refl ]

-- one that waits takes nothing with it that is due
pub still_has : (xs ys : List Entry) (x : Entry) → x.sent ≡ true → has_due (xs ++ x ∷ ys) ≡ true → has_due (xs ++ ys) ≡ true
still_has [] ys x t h = sym (ap (λ b. not b || has_due ys) t) ∙ h
still_has (y ∷ xs) ys x t h =
    let later = still_has xs ys x t in
    elim y.sent as (λ b. (not b || has_due (xs ++ x ∷ ys)) ≡ true → (not b || has_due (xs ++ ys)) ≡ true) [ true ↦ later | false ↦ λ _. refl ] h

pub has_one : (xs ys : List Entry) (x : Entry) → x.sent ≡ false → has_due (xs ++ x ∷ ys) ≡ true
has_one [] ys x f = ap (λ b. not b || has_due ys) f
has_one (y ∷ xs) ys x f =
    let later = has_one xs ys x f in
    elim y.sent as (λ b. (not b || has_due (xs ++ x ∷ ys)) ≡ true) [ true ↦ later | false ↦ refl ]

pub all_listed : (three : Bool) (xs ys : List Entry) → AreAskableLists three (xs ++ ys) → AreAskableLists three xs × AreAskableLists three ys
all_listed three [] ys h = (tt, h)
all_listed three (x ∷ xs) ys h = let r = all_listed three xs ys h.1 in ((h.0, r.0), r.1)

pub listed_all : (three : Bool) (xs ys : List Entry) → AreAskableLists three xs → AreAskableLists three ys → AreAskableLists three (xs ++ ys)
listed_all three [] ys h g = g
listed_all three (x ∷ xs) ys h g = (h.0, listed_all three xs ys h.1 g)

-- ---- the places that are found

pub due_split : (es : List Entry) (at : ℕ) (x : Entry) → IsDueAt es at → x ≡ slice_index_or es at x → (at < length es) × AllSent (take at es) × (x.sent ≡ false)
due_split [] at x h e = absurd h
due_split (y ∷ es) zero x h e = (omega arith, tt, ap (λ z. z.sent) e ∙ h)
due_split (y ∷ es) (suc at) x h e = let r = due_split es at x h.1 e in let lt = r.0 in (omega (arith, lt), (h.0, r.1), r.2)

pub due_here : (es : List Entry) (at : ℕ) (x : Entry) → AllSent (take at es) → at < length es → x ≡ slice_index_or es at x → x.sent ≡ false → IsDueAt es at
due_here [] at x h lt e f = absurd (omega arith)
due_here (y ∷ es) zero x h lt e f = ap (λ z. z.sent) (sym e) ∙ f
due_here (y ∷ es) (suc at) x h lt e f = (h.0, due_here es at x h.1 (omega arith) e f)

pub sent_more : (es : List Entry) (at : ℕ) (x : Entry) → AllSent (take at es) → at < length es → x ≡ slice_index_or es at x → x.sent ≡ true → AllSent (take (suc at) es)
sent_more [] at x h lt e f = absurd (omega arith)
sent_more (y ∷ es) zero x h lt e f = (ap (λ z. z.sent) (sym e) ∙ f, tt)
sent_more (y ∷ es) (suc at) x h lt e f = (h.0, sent_more es at x h.1 (omega arith) e f)

pub waiting_split : (es : List Entry) (first at : ℕ) (x : Entry) → IsWaitingAt first es at → x ≡ slice_index_or es at x → (at < length es) × (x.sent ≡ true) × (first_of (places x.list.items) ≡ first)
waiting_split [] first at x h e = absurd h
waiting_split (y ∷ es) first zero x h e = (omega arith, ap (λ z. z.sent) e ∙ h.0, ap (λ z. first_of (places z.list.items)) e ∙ h.1)
waiting_split (y ∷ es) first (suc at) x h e = let r = waiting_split es first at x h e in let lt = r.0 in (omega (arith, lt), r.1, r.2)

pub waiting_here : (es : List Entry) (first at : ℕ) (x : Entry) → at < length es → x ≡ slice_index_or es at x → x.sent ≡ true → first_of (places x.list.items) ≡ first → IsWaitingAt first es at
waiting_here [] first at x lt e f g = absurd (omega arith)
waiting_here (y ∷ es) first zero x lt e f g = (ap (λ z. z.sent) (sym e) ∙ f, ap (λ z. first_of (places z.list.items)) (sym e) ∙ g)
waiting_here (y ∷ es) first (suc at) x lt e f g = waiting_here es first at x (omega arith) e f g

pub take_more : {X : Type 0} (es : List X) (at : ℕ) (x : X) → at < length es → x ≡ slice_index_or es at x → take (suc at) es ≡ take at es ++ x ∷ []
take_more [] at x lt e = absurd (omega arith)
take_more (y ∷ es) zero x lt e = ap (λ z. z ∷ []) (sym e)
take_more (y ∷ es) (suc at) x lt e = ap (λ l. y ∷ l) (take_more es at x (omega arith) e)

pub none_more : (es : List Entry) (first at : ℕ) (x : Entry) → HasNoneWaiting first (take at es) → at < length es → x ≡ slice_index_or es at x
    → (x.sent && first_of (places x.list.items) == first) ≡ false → HasNoneWaiting first (take (suc at) es)
none_more es first at x h lt e f = λ l i g.
    let j : IsIn l (waiting_of (take at es) ++ waiting_of (x ∷ [])) = subst (IsIn l) (ap waiting_of (take_more es at x lt e) ∙ waiting_append (take at es) (x ∷ [])) i in
    elim (in_either l (waiting_of (take at es)) (waiting_of (x ∷ [])) j) [
      | inl k ↦ h l k g
      | inr k ↦ other l k g
    ]
  where
    other : (l : List ℕ) → IsIn l (waiting_of (x ∷ [])) → first_of l ≡ first → ⊥
    other l k g =
        elim x.sent as (λ b. (b && first_of (places x.list.items) == first) ≡ false → IsIn l (cond b (places x.list.items ∷ []) []) → ⊥) [
          | true ↦ λ t i. elim i [
            | inl q ↦ let s : first_of (places x.list.items) ≡ first = ap first_of (sym q) ∙ g in
                let r : (first_of (places x.list.items) == first) ≡ true = grind (arith, nat_tests) in true≢false (sym r ∙ t)
            | inr q ↦ q
          ]
          | false ↦ λ t i. i
        ] f k

pub take_all : {X : Type 0} (es : List X) (at : ℕ) → length es ≤ at → take at es ≡ es
take_all [] zero h = refl
take_all [] (suc at) h = refl
take_all (y ∷ es) zero h = absurd (omega (arith, h))
take_all (y ∷ es) (suc at) h = ap (λ l. y ∷ l) (take_all es at (omega arith))

pub listed_at : (three : Bool) (es : List Entry) (at : ℕ) (x : Entry) → AreAskableLists three es → at < length es → x ≡ slice_index_or es at x → IsAskableList three x.list.items
listed_at three [] at x h lt e = absurd (omega arith)
listed_at three (y ∷ es) zero x h lt e = subst (λ z. IsAskableList three z.list.items) (sym e) h.0
listed_at three (y ∷ es) (suc at) x h lt e = listed_at three es at x h.1 (omega arith) e

pub begin_is : (list : List Span) (f : Span) → IsNonemptyList list → f ≡ slice_index_or list 0 f → f.start ≡ first_of (places list)
begin_is [] f h e = absurd h
begin_is (r ∷ rs) f h e =
    let b = h.0 in
    ap (λ z. z.start) e ∙ ap (λ n. first_of (range_with_len r.start n ++ places rs)) (let q : suc (r.n - 1) ≡ r.n = omega (arith, b) in q)

pub begun_some : (list : List Span) → IsNonemptyList list → 0 < length (places list)
begun_some [] h = absurd h
begun_some (r ∷ rs) h =
    let b = h.0 in
    let n : length (places (r ∷ rs)) ≡ r.n + length (places rs) =
    length-append (range_with_len r.start r.n) (places rs) ∙ ap (λ k. k + length (places rs)) (length-range_with_len r.start r.n) in
    omega (arith, n, b)

pub begun_have : (list : List Span) → 0 < length list → AreNonempty list → IsNonemptyList list
begun_have [] lt h = absurd (omega (arith, lt))
begun_have (r ∷ rs) lt h = h

pub some_listed : (three : Bool) (es : List Entry) → AreAskableLists three es → AllSome (lists_of es)
some_listed three [] h = tt
some_listed three (e ∷ es) h = (begun_some e.list.items h.0.begun, some_listed three es h.1)

pub due_among : (es : List Entry) (l : List ℕ) → IsIn l (due_of es) → IsIn l (lists_of es)
due_among [] l i = i
due_among (e ∷ es) l i =
    let later = due_among es l in
    elim e.sent as (λ b. IsIn l (cond b (due_of es) (places e.list.items ∷ due_of es)) → IsIn l (places e.list.items ∷ lists_of es)) [
      | true ↦ λ j. inr (later j)
      | false ↦ λ j. elim j [ inl q ↦ inl q | inr k ↦ inr (later k) ]
    ] i

pub waiting_among : (es : List Entry) (l : List ℕ) → IsIn l (waiting_of es) → IsIn l (lists_of es)
waiting_among [] l i = i
waiting_among (e ∷ es) l i =
    let later = waiting_among es l in
    elim e.sent as (λ b. IsIn l (cond b (places e.list.items ∷ waiting_of es) (waiting_of es)) → IsIn l (places e.list.items ∷ lists_of es)) [
      | true ↦ λ j. elim j [ inl q ↦ inl q | inr k ↦ inr (later k) ]
      | false ↦ λ j. inr (later j)
    ] i

-- an answer leaves a part of a list, or nothing of it
pub left_is : (old : List ℕ) (new : List Span) (k : ℕ) (b : Bool) → AreNonempty new → places new ≡ drop k old → 0 < k → (b ≡ true → length new ≡ 0) → (b ≡ false → 0 < length new)
    → not b ≡ (nat_lt 0 k && nat_lt k (length old))
left_is old new k true have e pos none some =
    let z : length (places new) ≡ 0 = nothing new (none refl) in
    let d : length (drop k old) ≡ length old - k = length-drop k old in
    let n : length (places new) ≡ length (drop k old) = ap length e in
    let le : length old ≤ k = omega (arith, z, d, n) in
    let f : nat_lt k (length old) ≡ false = grind (arith, nat_tests, le) in
    let g : nat_lt 0 k ≡ true = grind (arith, nat_tests, pos) in
    sym (ap (λ t. t && nat_lt k (length old)) g ∙ f)
  where
    nothing : (l : List Span) → length l ≡ 0 → length (places l) ≡ 0
    nothing [] h = refl
    nothing (x ∷ l) h = absurd (omega (arith, h))
left_is old new k false have e pos none some =
    let z : 0 < length (places new) = begun_some new (begun_have new (some refl) have) in
    let d : length (drop k old) ≡ length old - k = length-drop k old in
    let n : length (places new) ≡ length (drop k old) = ap length e in
    let lt : k < length old = omega (arith, z, d, n) in
    let f : nat_lt k (length old) ≡ true = grind (arith, nat_tests, lt) in
    let g : nat_lt 0 k ≡ true = grind (arith, nat_tests, pos) in
    sym (ap (λ t. t && nat_lt k (length old)) g ∙ f)

-- what waits at a place waits
pub waiting_there : (first : ℕ) (es : List Entry) (at : ℕ) → IsWaitingAt first es at → (l : List ℕ) × IsIn l (waiting_of es) × (first_of l ≡ first)
waiting_there first [] at w = absurd w
waiting_there first (e ∷ es) zero w = (
  places e.list.items,
  subst (λ b. IsIn (places e.list.items) (cond b (places e.list.items ∷ waiting_of es) (waiting_of es))) (sym w.0) (inl refl),
  w.1,
)
waiting_there first (e ∷ es) (suc at) w =
    let r = waiting_there first es at w in
    (r.0, elim e.sent as (λ b. IsIn r.0 (cond b (places e.list.items ∷ waiting_of es) (waiting_of es))) [ true ↦ inr r.1 | false ↦ r.1 ], r.2)

-- where one is due, one is
pub due_there : (es : List Entry) (at : ℕ) → IsDueAt es at → has_due es ≡ true
due_there [] at w = absurd w
due_there (e ∷ es) zero w = ap (λ b. not b || has_due es) w
due_there (e ∷ es) (suc at) w = ap (λ b. not b || has_due es) w.0 ∙ due_there es at w.1
