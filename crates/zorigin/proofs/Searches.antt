-- Searches by their sets.
use Rattle.std.proofs.Common.{◌≡◌, ℕ, Bool, true, false, cond, ◌||◌, ◌==◌, nat_eq, is_some, List, [], ◌∷◌, ◌++◌, map, Option, None, Some, refl, sym, ap, ◌∙◌, true≢false, arith}
use Rattle.std.specs.List.{list_any, flat_map, AllByRecursion}
use Rattle.std.specs.Map.{set_value}
use Rattle.std.proofs.lemmas.List.Folds.{list_any-append}
use Rattle.std.proofs.lemmas.Bool.Decides.{nat_tests}
use Rattle.indexmap.specs.IndexMap.{insert_entry}
use Rattle.zorigin.specs.declared.answer.Asked.{Asked}
use Rattle.zorigin.specs.declared.answer.Answer.{Answer}
use Rattle.zorigin.specs.declared.state.Outcome.{Outcome}
use Rattle.zorigin.specs.declared.state.Searched.{Searched}
use Rattle.zorigin.specs.Standings.{Call, Init, Search, Present, Close, search_of}
use Rattle.zorigin.specs.Changes.{noted_if, noted_at, noted}
use Rattle.zorigin.specs.Log.{operation_of, search_in, with_outcome, by_set}
use Rattle.zorigin.proofs.Operations.{has, same_op, op_same, all_push}

abbrev pub of_set : ℕ → Searched → Bool
of_set set s = nat_eq set s.set

-- no two searches have one set
abbrev pub AreSetsDistinct : List Searched → Type 0
AreSetsDistinct [] = Unit {0}
AreSetsDistinct (s ∷ ss) = (list_any (of_set s.set) ss ≡ false) × AreSetsDistinct ss

-- a search with the operation's number has its set
abbrev pub Agrees : Asked → Searched → Type 0
Agrees q s = (s.op == q.op) ≡ true → s.set ≡ q.set

abbrev pub AreAgreed : List Searched → List Asked → Type 0
AreAgreed ss qs = AllByRecursion (λ (q : Asked). AllByRecursion (Agrees q) ss) qs

different : (m n : ℕ) → (m == n) ≡ false → (n == m) ≡ false
different m n h = grind (arith, nat_tests)

-- ---- a search more

pub sets_push : (ss : List Searched) (s : Searched) → AreSetsDistinct ss → list_any (of_set s.set) ss ≡ false → AreSetsDistinct (ss ++ s ∷ [])
sets_push [] s d h = (refl, tt)
sets_push (x ∷ xs) s d h =
    let other : nat_eq s.set x.set ≡ false = grind arith in
    let rest : list_any (of_set s.set) xs ≡ false = grind arith in
    let back : nat_eq x.set s.set ≡ false = different s.set x.set other in
    (list_any-append (of_set x.set) xs (s ∷ []) ∙ rw (d.0, back) refl, sets_push xs s d.1 rest)

-- a search of a new operation agrees with the earlier operations
pub agreed_more : (s : Searched) (qs : List Asked) (ss : List Searched) → list_any (has s.op) qs ≡ false → AreAgreed ss qs → AreAgreed (ss ++ s ∷ []) qs
agreed_more s [] ss h g = tt
agreed_more s (q ∷ qs) ss h g =
    let other : (q.op == s.op) ≡ false = grind arith in
    let rest : list_any (has s.op) qs ≡ false = grind arith in
    (all_push (Agrees q) ss s g.0 (λ e. absurd (true≢false (sym e ∙ different q.op s.op other))), agreed_more s qs ss rest g.1)

-- a new operation agrees with the earlier searches
pub agreed_new : (q : Asked) (cs : List Call) → list_any (has q.op) (flat_map operation_of cs) ≡ false → AllByRecursion (Agrees q) (flat_map search_in cs)
agreed_new q [] h = tt
agreed_new q (Init ∷ cs) h = let rest : list_any (has q.op) (flat_map operation_of cs) ≡ false = grind arith in agreed_new q cs rest
agreed_new q (Search op set ask ∷ cs) h =
    let other : (op == q.op) ≡ false = grind arith in
    let rest : list_any (has q.op) (flat_map operation_of cs) ≡ false = grind arith in
    (λ e. absurd (true≢false (sym e ∙ other)), agreed_new q cs rest)
agreed_new q (Present op set ranges ∷ cs) h = let rest : list_any (has q.op) (flat_map operation_of cs) ≡ false = grind arith in agreed_new q cs rest
agreed_new q (Close ∷ cs) h = agreed_new q cs h

-- ---- with what came of them

same_sets : (acc : List Answer) (set : ℕ) (ss : List Searched) → list_any (of_set set) (map (with_outcome acc) ss) ≡ list_any (of_set set) ss
same_sets acc set [] = refl
same_sets acc set (s ∷ ss) = ap (λ b. nat_eq set s.set || b) (same_sets acc set ss)

pub sets_with : (acc : List Answer) (ss : List Searched) → AreSetsDistinct ss → AreSetsDistinct (map (with_outcome acc) ss)
sets_with acc [] d = tt
sets_with acc (s ∷ ss) d = (same_sets acc s.set ss ∙ d.0, sets_with acc ss d.1)

pub agreed_with : (acc : List Answer) (q : Asked) (ss : List Searched) → AllByRecursion (Agrees q) ss → AllByRecursion (Agrees q) (map (with_outcome acc) ss)
agreed_with acc q [] g = tt
agreed_with acc q (s ∷ ss) g = (g.0, agreed_with acc q ss g.1)

-- ---- filed under their sets

pub none_filed : (acc : List Answer) (set : ℕ) (ss : List Searched) → is_some (search_of (map by_set (map (with_outcome acc) ss)) set) ≡ false → list_any (of_set set) ss ≡ false
none_filed acc set [] h = refl
none_filed acc set (s ∷ ss) h =
    elim (nat_eq set s.set) as (λ b. is_some (cond b (Some (with_outcome acc s)) (search_of (map by_set (map (with_outcome acc) ss)) set)) ≡ false → (b || list_any (of_set set) ss) ≡ false) [
      | true ↦ λ g. absurd (true≢false g)
      | false ↦ λ g. none_filed acc set ss g
    ] h

pub file_absent : (s : Searched) (ss : List Searched) → is_some (search_of (map by_set ss) s.set) ≡ false → insert_entry nat_eq (map by_set ss) s.set s ≡ map by_set (ss ++ s ∷ [])
file_absent s [] h = refl
file_absent s (x ∷ xs) h =
    elim (nat_eq s.set x.set) as (λ b. is_some (cond b (Some x) (search_of (map by_set xs) s.set)) ≡ false → cond b ((x.set, s) ∷ map by_set xs) (by_set x ∷ insert_entry nat_eq (map by_set xs) s.set s) ≡ map by_set ((x ∷ xs) ++ s ∷ [])) [
      | true ↦ λ g. absurd (true≢false g)
      | false ↦ λ g. ap (λ l. by_set x ∷ l) (file_absent s xs g)
    ] h

-- ---- an outcome

-- the outcome at each search with the number
abbrev pub each_noted : ℕ → Option Outcome → List Searched → List Searched
each_noted op outcome searches = map (λ (s : Searched). noted_if (s.op == op) outcome s) searches

-- a search of another set is another operation
other_op : (q : Asked) (s : Searched) → Agrees q s → nat_eq q.set s.set ≡ false → (s.op == q.op) ≡ false
other_op q s g h = by (s.op == q.op) refl
  where
    by : (b : Bool) → (s.op == q.op) ≡ b → (s.op == q.op) ≡ false
    by false e = e
    by true e = absurd (true≢false (sym (op_same q.set) ∙ ap (nat_eq q.set) (sym (g e)) ∙ h))

none_noted : (q : Asked) (o : Option Outcome) (ss : List Searched) → list_any (of_set q.set) ss ≡ false → AllByRecursion (Agrees q) ss → ss ≡ each_noted q.op o ss
none_noted q o [] h g = refl
none_noted q o (s ∷ ss) h g =
    let other : nat_eq q.set s.set ≡ false = grind arith in
    let rest : list_any (of_set q.set) ss ≡ false = grind arith in
    let plain = other_op q s g.0 other in
    λ i. noted_if (sym plain i) o s ∷ none_noted q o ss rest g.1 i

kept_set : (b : Bool) (o : Option Outcome) (s : Searched) → s.set ≡ (noted_if b o s).set
kept_set true o s = refl
kept_set false o s = refl

-- that at the operation's set is that at each with its number
pub filed_noted : (q : Asked) (o : Option Outcome) (ss : List Searched) → AreSetsDistinct ss → AllByRecursion (Agrees q) ss → noted q o (map by_set ss) ≡ map by_set (each_noted q.op o ss)
filed_noted q o [] d g = refl
filed_noted q o (s ∷ ss) d g = by (nat_eq q.set s.set) refl (filed_noted q o ss d.1 g.1)
  where
    by : (b : Bool) → nat_eq q.set s.set ≡ b → noted q o (map by_set ss) ≡ map by_set (each_noted q.op o ss)
        → noted q o (map by_set (s ∷ ss)) ≡ map by_set (each_noted q.op o (s ∷ ss))
    by true e more =
        let w = noted_if (s.op == q.op) o s in
        let none : list_any (of_set q.set) ss ≡ false = ap (λ n. list_any (of_set n) ss) (same_op q.set s.set e) ∙ d.0 in
        ap (λ b. noted_at q o (by_set s ∷ map by_set ss) (cond b (Some s) (search_of (map by_set ss) q.set))) e
        ∙ ap (λ b. cond b ((s.set, w) ∷ map by_set ss) (by_set s ∷ set_value (nat_eq q.set) (map by_set ss) w)) e
        ∙ (λ i. (kept_set (s.op == q.op) o s i, w) ∷ map by_set (none_noted q o ss none g.1 i))
    by false e more =
        ap (λ b. noted_at q o (by_set s ∷ map by_set ss) (cond b (Some s) (search_of (map by_set ss) q.set))) e
        ∙ beyond (search_of (map by_set ss) q.set)
        ∙ (λ i. by_set (noted_if (sym (other_op q s g.0 e) i) o s) ∷ more i)
      where
        beyond : (x : Option Searched) → noted_at q o (by_set s ∷ map by_set ss) x ≡ by_set s ∷ noted_at q o (map by_set ss) x
        beyond None = refl
        beyond (Some x) =
            let w = noted_if (x.op == q.op) o x in
            ap (λ b. cond b ((s.set, w) ∷ map by_set ss) (by_set s ∷ set_value (nat_eq q.set) (map by_set ss) w)) e
