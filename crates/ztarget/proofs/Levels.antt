-- How many levels the elements of a production have, place by place.
use Rattle.std.proofs.Common.{◌≡◌, ℕ, suc, ◌≤◌, List, [], ◌∷◌, ◌++◌, Option, Some, None, cond, Bool, true, arith, subst, sym}
use Rattle.std.specs.Prelude.{ℤ}
use Rattle.std.specs.List.{All, AllByRecursion}
use Rattle.std.proofs.lemmas.List.Elements.{recursion_from_All}
use Rattle.zber.specs.AsnTags.{AsnTag}
use Rattle.zber.specs.Elements.{Element, Primitive, Constructed, forest, height, height_of}
use Rattle.zasn.specs.Building.{◌>>=◌ as and_then, optional_put}
use Rattle.zasn.specs.Meanings.{is_i64}
use Rattle.zasn.specs.Reading.{option_map}
use Rattle.zasn.specs.Place.{Place}
use Rattle.zasn.specs.Table.{ComponentTable, required, optional, also, ended, Fields, put}
use Rattle.zasn.specs.Within.{around, with_head, all_spellings}
use Rattle.zber.specs.Integers.{integer_octets}
use Rattle.zber.specs.Oids.{IsOid, oid_octets}
use Rattle.zber.proofs.OidTest.{is_oid_pass}
use Rattle.zasn.specs.Places.{explicit, integer, oid}
use Rattle.ztarget.specs.Levels.{HasLevels}

abbrev pub AreWithinLevels : ℕ → List Element → Type 0
AreWithinLevels k ns = AllByRecursion (λ n. height n ≤ k) ns

abbrev pub HaveLevels : ℕ → Option (List Element) → Type 0
HaveLevels k None = ⊥
HaveLevels k (Some ns) = AreWithinLevels k ns

-- the same of a value that may be left out
abbrev pub HasLevelsIfPresent : {A : Type 0} → ℕ → (A → Option Element) → Option A → Type 0
HasLevelsIfPresent k spelt None = Unit {0}
HasLevelsIfPresent k spelt (Some x) = HasLevels k (spelt x)

-- of the values of a table's places
abbrev pub HaveFieldLevels : {V : Type 0} → ℕ → (t : ComponentTable V) → Fields t → Type 0
HaveFieldLevels k ended x = Unit {0}
HaveFieldLevels k (required p get more) x = HasLevels k (p.spelling x.0) × HaveFieldLevels k more x.1
HaveFieldLevels k (optional p get more) x = HasLevelsIfPresent k p.spelling x.0 × HaveFieldLevels k more x.1
HaveFieldLevels k (also e get) x = (out : List Element) → AreWithinLevels k out → HaveLevels k (e.spelling x out)

pushed : (k : ℕ) (out : List Element) (n : Element) → AreWithinLevels k out → height n ≤ k → AreWithinLevels k (out ++ n ∷ [])
pushed k [] n h l = (l, tt)
pushed k (m ∷ out) n h l = (h.0, pushed k out n h.1 l)

step : (k : ℕ) (o : Option Element) (out : List Element) (rest : List Element → Option (List Element)) → HasLevels k o → AreWithinLevels k out
    → ((ns : List Element) → AreWithinLevels k ns → HaveLevels k (rest ns)) → HaveLevels k (and_then (option_map (λ n. out ++ n ∷ []) o) rest)
step k None out rest l h f = absurd l
step k (Some n) out rest l h f = f (out ++ n ∷ []) (pushed k out n h l)

step-if : {A : Type 0} (k : ℕ) (spelt : A → Option Element) (o : Option A) (out : List Element) (rest : List Element → Option (List Element)) → HasLevelsIfPresent k spelt o → AreWithinLevels k out
    → ((ns : List Element) → AreWithinLevels k ns → HaveLevels k (rest ns)) → HaveLevels k (and_then (optional_put spelt o out) rest)
step-if k spelt None out rest l h f = f out h
step-if k spelt (Some x) out rest l h f = step k (spelt x) out rest l h f

pub of_table : {V : Type 0} (k : ℕ) (t : ComponentTable V) (x : Fields t) (out : List Element) → HaveFieldLevels k t x → AreWithinLevels k out → HaveLevels k (put t x out)
of_table k ended x out f h = h
of_table k (required p get more) x out f h = step k (p.spelling x.0) out (λ ns. put more x.1 ns) f.0 h (λ ns w. of_table k more x.1 ns f.1 w)
of_table k (optional p get more) x out f h = step-if k p.spelling x.0 out (λ ns. put more x.1 ns) f.0 h (λ ns w. of_table k more x.1 ns f.1 w)
of_table k (also e get) x out f h = f out h

forest_levels : (k : ℕ) (ns : List Element) → AreWithinLevels k ns → height_of (forest ns) ≤ k
forest_levels k [] h = omega arith
forest_levels k (Primitive t xs ∷ ns) h = forest_levels k ns h.1
forest_levels k (Constructed t f ∷ ns) h = omega (arith, h.0, forest_levels k ns h.1)

-- one level more
pub of_around : (k : ℕ) (tag : AsnTag) (o : Option (List Element)) → HaveLevels k o → HasLevels (suc k) (around tag o)
of_around k tag None h = absurd h
of_around k tag (Some ns) h = let inside = forest_levels k ns h in omega (arith, inside)

pub of_explicit : {A : Type 0} (k : ℕ) (tag : AsnTag) (p : Place A) (x : A) → HasLevels k (p.spelling x) → HasLevels (suc k) ((explicit tag p).spelling x)
of_explicit k tag p x h = of_around k tag (put (required p (λ y. y) ended) (x, tt) []) (of_table k (required p (λ y. y) ended) (x, tt) [] (h, tt) tt)

put_on : (k : ℕ) (o : Option Element) (os : Option (List Element)) → HasLevels k o → HaveLevels k os → HaveLevels k (with_head o os)
put_on k None os h l = absurd h
put_on k (Some n) None h l = absurd l
put_on k (Some n) (Some ns) h l = (h, l)

each_of : {A : Type 0} (k : ℕ) (spelt : A → Option Element) (xs : List A) → AllByRecursion (λ x. HasLevels k (spelt x)) xs → HaveLevels k (all_spellings spelt xs)
each_of k spelt [] h = tt
each_of k spelt (x ∷ xs) h = put_on k (spelt x) (all_spellings spelt xs) h.0 (each_of k spelt xs h.1)

pub of_list : {A : Type 0} (k : ℕ) (tag : AsnTag) (spelt : A → Option Element) (xs : List A) → All (λ x. HasLevels k (spelt x)) xs → HasLevels (suc k) (around tag (all_spellings spelt xs))
of_list k tag spelt xs h = of_around k tag (all_spellings spelt xs) (each_of k spelt xs (recursion_from_All (λ x. HasLevels k (spelt x)) xs h))

weaker : (j k : ℕ) (o : Option Element) → j ≤ k → HasLevels j o → HasLevels k o
weaker j k None l h = absurd h
weaker j k (Some n) l h = omega (arith, l, h)

pub up_to : (j k : ℕ) (o : Option Element) → j ≤ k → HasLevels j o → HasLevels k o
up_to j k o l h = weaker j k o l h

-- primitive elements have no levels
pub of_oid : (k : ℕ) (tag : AsnTag) (arcs : List ℕ) → IsOid arcs → HasLevels k ((oid tag).spelling arcs)
of_oid k tag arcs is = subst (λ (b : Bool). HasLevels k (cond b (Some (Primitive tag (oid_octets arcs))) None)) (sym (is_oid_pass arcs is)) (omega arith)

pub of_integer : (k : ℕ) (tag : AsnTag) (z : ℤ) → is_i64 z ≡ true → HasLevels k ((integer tag).spelling z)
of_integer k tag z is = subst (λ (b : Bool). HasLevels k (cond b (Some (Primitive tag (integer_octets z))) None)) (sym is) (omega arith)
