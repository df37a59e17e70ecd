-- Lists of operations, answers and searches.
use Rattle.std.proofs.Common.{◌≡◌, ℕ, Bool, true, false, cond, not, ◌||◌, ◌==◌, nat_eq, List, [], ◌∷◌, ◌++◌, map, filter, None, Some, refl, sym, ap, subst, ◌∙◌, arith}
use Rattle.std.specs.List.{list_any, find, AllByRecursion}
use Rattle.std.specs.Map.{lookup}
use Rattle.indexmap.specs.IndexMap.{insert_entry, shift_remove_entry}
use Rattle.std.proofs.lemmas.List.Folds.{list_any-append}
use Rattle.std.proofs.lemmas.Bool.Decides.{nat_tests}
use Rattle.zorigin.specs.declared.answer.Asked.{Asked}
use Rattle.zorigin.specs.declared.answer.Answer.{Answer}
use Rattle.zorigin.specs.Log.{is_answer_to, by_operation, op_of}
use Rattle.zorigin.specs.Replies.{only_of}

abbrev pub has : ℕ → Asked → Bool
has op q = q.op == op

-- no two operations have one number
abbrev pub AreDistinct : List Asked → Type 0
AreDistinct [] = Unit {0}
AreDistinct (q ∷ qs) = (list_any (has q.op) qs ≡ false) × AreDistinct qs

pub same_op : (m n : ℕ) → (m == n) ≡ true → m ≡ n
same_op m n h = grind (arith, nat_tests)

pub op_same : (m : ℕ) → (m == m) ≡ true
op_same m = grind (arith, nat_tests)

pub or_none : (b : Bool) → (b || (false || false)) ≡ b
or_none true = refl
or_none false = refl

pub or_last : (b : Bool) → (b || (true || false)) ≡ true
or_last true = refl
or_last false = refl

-- ---- tests

pub any_ops : (op : ℕ) (qs : List Asked) → list_any (nat_eq op) (map op_of qs) ≡ list_any (has op) qs
any_ops op [] = refl
any_ops op (q ∷ qs) =
    let symmetric : nat_eq op q.op ≡ (q.op == op) = grind (arith, nat_tests) in
    λ i. symmetric i || any_ops op qs i

pub any_filter : (t u : Asked → Bool) (qs : List Asked) → list_any t qs ≡ false → list_any t (filter u qs) ≡ false
any_filter t u [] h = refl
any_filter t u (q ∷ qs) h = let more = any_filter t u qs in grind arith

pub find_push_first : (t : Answer → Bool) (xs : List Answer) (a : Answer) → list_any t xs ≡ false → t a ≡ true → find t (xs ++ a ∷ []) ≡ Some a
find_push_first t [] a h e = rw e refl
find_push_first t (x ∷ xs) a h e = let more = find_push_first t xs a in grind arith

pub find_push_other : (t : Answer → Bool) (xs : List Answer) (a : Answer) → t a ≡ false → find t (xs ++ a ∷ []) ≡ find t xs
find_push_other t [] a e = rw e refl
find_push_other t (x ∷ xs) a e = let more = find_push_other t xs a e in grind arith

pub find_none : (t : Answer → Bool) (xs : List Answer) → list_any t xs ≡ false → find t xs ≡ None
find_none t [] h = refl
find_none t (x ∷ xs) h = let more = find_none t xs in grind arith

pub find_some : (t : Answer → Bool) (xs : List Answer) (a : Answer) → find t xs ≡ Some a → list_any t xs ≡ true
find_some t [] a h = absurd (cc)
find_some t (x ∷ xs) a h = let more = find_some t xs a in grind arith

-- ---- what holds of each

module _ {X : Type 0} where
  pub all_filter : (P : X → Type 0) (u : X → Bool) (qs : List X) → AllByRecursion P qs → AllByRecursion P (filter u qs)
  all_filter P u [] h = tt
  all_filter P u (q ∷ qs) h =
      let more = all_filter P u qs h.1 in
      elim (u q) as (λ b. AllByRecursion P (cond b (q ∷ filter u qs) (filter u qs))) [ true ↦ (h.0, more) | false ↦ more ]

  -- what passed the test
  pub all_passed : (u : X → Bool) (qs : List X) → AllByRecursion (λ q. u q ≡ true) (filter u qs)
  all_passed u [] = tt
  all_passed u (q ∷ qs) =
      let more = all_passed u qs in
      elim (u q) as (λ b. u q ≡ b → AllByRecursion (λ x. u x ≡ true) (cond b (q ∷ filter u qs) (filter u qs))) [ true ↦ λ e. (e, more) | false ↦ λ e. more ] refl

  pub all_weaker : (P Q : X → Type 0) → ((q : X) → P q → Q q) → (qs : List X) → AllByRecursion P qs → AllByRecursion Q qs
  all_weaker P Q w [] h = tt
  all_weaker P Q w (q ∷ qs) h = (w q h.0, all_weaker P Q w qs h.1)

  pub all_push : (P : X → Type 0) (qs : List X) (a : X) → AllByRecursion P qs → P a → AllByRecursion P (qs ++ a ∷ [])
  all_push P [] a h x = (x, tt)
  all_push P (q ∷ qs) a h x = (h.0, all_push P qs a h.1 x)

  pub any_none : (P : X → Type 0) (t : X → Bool) (xs : List X) → ((x : X) → P x → t x ≡ true → ⊥) → AllByRecursion P xs → list_any t xs ≡ false
  any_none P t [] w h = refl
  any_none P t (x ∷ xs) w h =
      let more = any_none P t xs w h.1 in
      elim (t x) as (λ b. t x ≡ b → (b || list_any t xs) ≡ false) [ true ↦ λ e. absurd (w x h.0 e) | false ↦ λ e. more ] refl

pub all_looked : (P : Asked → Type 0) (op : ℕ) (qs : List Asked) (q : Asked) → AllByRecursion P qs → lookup (nat_eq op) (map by_operation qs) ≡ Some q → P q
all_looked P op [] q h e = absurd (cc)
all_looked P op (x ∷ xs) q h e =
    let more = all_looked P op xs q h.1 in
    elim (nat_eq op x.op) as (λ b. cond b (Some x) (lookup (nat_eq op) (map by_operation xs)) ≡ Some q → P q) [ true ↦ λ e. (let same : x ≡ q = cc in subst P same h.0) | false ↦ more ] e

pub all_only : (P : Asked → Type 0) (qs : List Asked) (q : Asked) → AllByRecursion P qs → only_of (map by_operation qs) ≡ Some q → P q
all_only P [] q h e = absurd (cc)
all_only P (x ∷ []) q h e = let same : x ≡ q = cc in subst P same h.0
all_only P (x ∷ y ∷ xs) q h e = absurd (cc)

-- each is among them
pub all_has : (qs : List Asked) → AllByRecursion (λ (q : Asked). list_any (has q.op) qs ≡ true) qs
all_has [] = tt
all_has (x ∷ xs) = (
  rw (op_same x.op) refl,
  all_weaker (λ (q : Asked). list_any (has q.op) xs ≡ true) (λ (q : Asked). list_any (has q.op) (x ∷ xs) ≡ true) (λ q h. rw h (or_true (x.op == q.op))) xs (all_has xs),
)
  where
    or_true : (b : Bool) → (b || true) ≡ true
    or_true true = refl
    or_true false = refl

-- ---- distinct numbers

pub distinct_push : (qs : List Asked) (a : Asked) → AreDistinct qs → list_any (has a.op) qs ≡ false → AreDistinct (qs ++ a ∷ [])
distinct_push [] a d h = (refl, tt)
distinct_push (q ∷ qs) a d h =
    let other : (q.op == a.op) ≡ false = grind arith in
    let rest : list_any (has a.op) qs ≡ false = grind arith in
    let back : (a.op == q.op) ≡ false = grind (arith, nat_tests) in
    (list_any-append (has q.op) qs (a ∷ []) ∙ rw (d.0, back) refl, distinct_push qs a d.1 rest)

pub distinct_filter : (u : Asked → Bool) (qs : List Asked) → AreDistinct qs → AreDistinct (filter u qs)
distinct_filter u [] d = tt
distinct_filter u (q ∷ qs) d =
    let more = distinct_filter u qs d.1 in
    elim (u q) as (λ b. AreDistinct (cond b (q ∷ filter u qs) (filter u qs))) [ true ↦ (any_filter (has q.op) u qs d.0, more) | false ↦ more ]

pub insert_absent : (a : Asked) (qs : List Asked) → list_any (has a.op) qs ≡ false → insert_entry nat_eq (map by_operation qs) a.op a ≡ map by_operation (qs ++ a ∷ [])
insert_absent a [] h = refl
insert_absent a (q ∷ qs) h = let more = insert_absent a qs in grind (arith, nat_tests)

others_pass : (op : ℕ) (qs : List Asked) → list_any (has op) qs ≡ false → filter (λ (q : Asked). not (q.op == op)) qs ≡ qs
others_pass op [] h = refl
others_pass op (q ∷ qs) h =
    let e : (q.op == op) ≡ false = grind arith in
    let rest : list_any (has op) qs ≡ false = grind arith in
    rw e (ap (λ l. q ∷ l) (others_pass op qs rest))

pub removed : (op : ℕ) (qs : List Asked) → AreDistinct qs → shift_remove_entry (nat_eq op) (map by_operation qs) ≡ map by_operation (filter (λ (q : Asked). not (q.op == op)) qs)
removed op [] d = refl
removed op (q ∷ qs) d =
    let more = removed op qs d.1 in
    let symmetric : (q.op == op) ≡ nat_eq op q.op = grind (arith, nat_tests) in
    elim (nat_eq op q.op) as (λ b. nat_eq op q.op ≡ b → cond b (map by_operation qs) (by_operation q ∷ shift_remove_entry (nat_eq op) (map by_operation qs)) ≡ map by_operation (cond (not b) (q ∷ filter (λ (x : Asked). not (x.op == op)) qs) (filter (λ (x : Asked). not (x.op == op)) qs))) [
      | true ↦ λ e. let same : q.op ≡ op = grind (arith, nat_tests) in ap (map by_operation) (sym (others_pass op qs (ap (λ n. list_any (has n) qs) (sym same) ∙ d.0)))
      | false ↦ λ e. ap (λ l. by_operation q ∷ l) more
    ] refl ∙ ap (λ b. map by_operation (cond (not b) (q ∷ filter (λ (x : Asked). not (x.op == op)) qs) (filter (λ (x : Asked). not (x.op == op)) qs))) (sym symmetric)

-- what is still unanswered after one answer more
pub still_open : (acc : List Answer) (a : Answer) (qs : List Asked)
    → filter (λ (q : Asked). not (list_any (is_answer_to q.op) (acc ++ a ∷ []))) qs
    ≡ filter (λ (q : Asked). not (q.op == a.asked.op)) (filter (λ (q : Asked). not (list_any (is_answer_to q.op) acc)) qs)
still_open acc a [] = refl
still_open acc a (q ∷ qs) =
    let more = still_open acc a qs in
    let e = list_any-append (is_answer_to q.op) acc (a ∷ []) in
    let symmetric : (q.op == a.asked.op) ≡ (a.asked.op == q.op) = grind (arith, nat_tests) in
    grind arith
