-- Records at one position after another.
use Rattle.std.proofs.Common.{◌≡◌, ℕ, ℤ, pos, ◌+ℤ◌, ◌≤ℤ◌, ◌+◌, ◌<◌, zero, suc, List, [], ◌∷◌, ◌++◌, map, take, drop, length, get_or, refl, sym, ap, ◌∙◌, arith, add-zero, append_assoc}
use Rattle.std.proofs.lemmas.List.{map-append, take_more, length-take-le}
use Rattle.std.specs.Prelude.{zip}
use Rattle.std.specs.List.{enumerate_from, range_with_len}
use Rattle.zapdu.specs.declared.productions.record.Record.{Record}
use Rattle.zknow.specs.declared.fact.Fact.{Fact}
use Rattle.zknow.specs.declared.fact.Fact.TheVariants.{Seen}
use Rattle.zplan.specs.declared.range.Range.{Range}
use Rattle.zplan.specs.Ranges.{natural, positions}
use Rattle.zorigin_facts.specs.Facts.{seen_from, seen_at}
use Rattle.zorigin.proofs.Ranges.{natural_so, left_more}

enumerated_push : {X : Type 0} (n : ℕ) (xs : List X) (x : X) → enumerate_from n (xs ++ x ∷ []) ≡ enumerate_from n xs ++ (n + length xs, x) ∷ []
enumerated_push n [] x = ap (λ k. (k, x) ∷ []) (sym (add-zero n))
enumerated_push n (y ∷ ys) x =
    let more = enumerated_push (n + 1) ys x in
    let same : (n + 1) + length ys ≡ n + length (y ∷ ys) = omega arith in
    ap (λ l. (n, y) ∷ l) (more ∙ ap (λ k. enumerate_from (n + 1) ys ++ (k, x) ∷ []) same)

pub seen_more : (target set : ℕ) (first : ℤ) (i : ℕ) (records : List Record) (x : Record) → i < length records → x ≡ get_or records i x
    → seen_from target set first (take (i + 1) records) ≡ seen_from target set first (take i records) ++ Seen target set (first +ℤ pos i) x ∷ []
seen_more target set first i records x h e =
    let at : length (take i records) ≡ i = length-take-le i records (omega arith) in
    let f = λ (e : ℕ × Record). Seen target set (first +ℤ pos e.0) e.1 in
    ap (λ l. seen_from target set first l) (take_more records i x h ∙ ap (λ y. take i records ++ y ∷ []) (sym e))
    ∙ ap (map f) (enumerated_push 0 (take i records) x)
    ∙ map-append f (enumerate_from 0 (take i records)) ((0 + length (take i records), x) ∷ [])
    ∙ ap (λ k. seen_from target set first (take i records) ++ Seen target set (first +ℤ pos k) x ∷ []) (let z : 0 + length (take i records) ≡ i = omega arith in z)

-- the step of a loop that appends them
pub seen_step : (target set : ℕ) (first : ℤ) (i : ℕ) (records : List Record) (out : List Fact) {x : Record} {fact : Fact} {now pushed : List Fact}
    → i < length records → x ≡ get_or records i x → fact ≡ Seen target set (first +ℤ pos i) x
    → now ≡ out ++ seen_from target set first (take i records) → pushed ≡ now ++ fact ∷ []
    → pushed ≡ out ++ seen_from target set first (take (i + 1) records)
seen_step target set first i records out {x} {fact} h e f before after =
    let done = seen_from target set first (take i records) in
    after ∙ ap (λ l. l ++ fact ∷ []) before ∙ ap (λ y. (out ++ done) ++ y ∷ []) f
    ∙ append_assoc out done (Seen target set (first +ℤ pos i) x ∷ []) ∙ ap (λ l. out ++ l) (sym (seen_more target set first i records x h e))

-- ---- at the positions of ranges

zip_none : (ps : List ℕ) → zip {X = Record} ps [] ≡ []
zip_none [] = refl
zip_none (p ∷ ps) = refl

front : (target set a i n : ℕ) (rest : List ℕ) (records : List Record)
    → seen_at target set (range_with_len (a + i) n ++ rest) records
    ≡ map (λ (e : ℕ × Record). Seen target set (pos a +ℤ pos e.0) e.1) (enumerate_from i (take n records)) ++ seen_at target set rest (drop n records)
front target set a i zero rest records = refl
front target set a i (suc n) rest [] = sym (ap (map (λ (e : ℕ × Record). Seen target set (pos e.0) e.1)) (zip_none rest))
front target set a i (suc n) rest (r ∷ rs) =
    let next : (a + i) + 1 ≡ a + (i + 1) = omega arith in
    ap (λ l. Seen target set (pos (a + i)) r ∷ l) (ap (λ k. seen_at target set (range_with_len k n ++ rest) rs) next ∙ front target set a (i + 1) n rest rs)

-- the records of the first range stand at one position after another, the others at the positions after it
pub seen_first : (target set : ℕ) (start : ℤ) (n : ℕ) (rest : List ℕ) (records : List Record) → pos 0 ≤ℤ start
    → seen_at target set (range_with_len (natural start) n ++ rest) records
    ≡ seen_from target set start (take n records) ++ seen_at target set rest (drop n records)
seen_first target set start n rest records h =
    let same : natural start ≡ natural start + 0 = omega arith in
    ap (λ k. seen_at target set (range_with_len k n ++ rest) records) same
    ∙ front target set (natural start) 0 n rest records
    ∙ ap (λ z. seen_from target set z (take n records) ++ seen_at target set rest (drop n records)) (natural_so start h)

-- the step of a loop over the ranges
pub ranges_step : (target set : ℕ) (ranges : List Range) (records left within after : List Record) (i : ℕ) (x : Range) (out done now : List Fact)
    → i < length ranges → x ≡ get_or ranges i x → pos 0 ≤ℤ x.start
    → within ≡ take (natural x.n) left → after ≡ drop (natural x.n) left
    → now ++ seen_at target set (positions (drop i ranges)) left ≡ out ++ seen_at target set (positions ranges) records
    → done ≡ now ++ seen_from target set x.start within
    → done ++ seen_at target set (positions (drop (i + 1) ranges)) after ≡ out ++ seen_at target set (positions ranges) records
ranges_step target set ranges records left within after i x out done now l e low w a before d =
    ap (λ f. f ++ seen_at target set (positions (drop (i + 1) ranges)) after) (d ∙ ap (λ rs. now ++ seen_from target set x.start rs) w)
    ∙ ap (λ rs. (now ++ seen_from target set x.start (take (natural x.n) left)) ++ seen_at target set (positions (drop (i + 1) ranges)) rs) a
    ∙ append_assoc now (seen_from target set x.start (take (natural x.n) left)) (seen_at target set (positions (drop (i + 1) ranges)) (drop (natural x.n) left))
    ∙ ap (λ f. now ++ f) (sym (seen_first target set x.start (natural x.n) (positions (drop (i + 1) ranges)) left low))
    ∙ ap (λ ps. now ++ seen_at target set ps left) (sym (left_more ranges i x l e))
    ∙ before
