-- What the elements that are built of a table hold: the element of each place, within all of their octets.
use Rattle.std.proofs.Common.{◌≡◌, ℕ, ◌+◌, List, [], ◌∷◌, ◌++◌, length, Option, Some, None, refl, ap, subst}
use Rattle.zber.specs.Canonical.{canonical}
use Rattle.zber.specs.Elements.{Element}
use Rattle.zber.proofs.ElementSizes.{run_len}
use Rattle.zasn.specs.Building.{◌>>=◌ as and_then, optional_put}
use Rattle.zasn.specs.Reading.{option_map}
use Rattle.zasn.specs.Table.{ComponentTable, required, optional, also, ended, Fields, put}
use Rattle.zorigin.proofs.SendableSizes.{run_more}

-- the place has an element, where there is a value, and the rest holds behind its octets
abbrev pub Filled : {A : Type 0} → (A → Option Element) → Option A → (ℕ → Type 0) → ℕ → Type 0
Filled spelt None rest j = rest j
Filled spelt (Some x) rest j = (n : Element) × (spelt x ≡ Some n) × rest (j + length (canonical n))

-- the table's elements, put behind j octets, make k of them
abbrev pub Measures : {V : Type 0} (t : ComponentTable V) → Fields t → ℕ → ℕ → Type 0
Measures ended x k j = j ≡ k
Measures (required p get more) x k j = Filled p.spelling (Some x.0) (Measures more x.1 k) j
Measures (optional p get more) x k j = Filled p.spelling x.0 (Measures more x.1 k) j
Measures (also e get) x k j =
    (out : List Element) × (ns : List Element) × (e.spelling x out ≡ Some ns) × (run_len out ≡ j) × (run_len ns ≡ k)

same_run : (ns ms : List Element) → Some ns ≡ Some ms → run_len ns ≡ run_len ms
same_run ns ms e = let same : ns ≡ ms = cc in ap run_len same

module _ {A : Type 0} (spelt : A → Option Element) (ns : List Element) (next : List Element → Option (List Element))
    (rest : ℕ → Type 0) (go : (ms : List Element) → next ms ≡ Some ns → rest (run_len ms)) where
  placed : (x : A) (o : Option Element) (out : List Element) → spelt x ≡ o
      → and_then (option_map (λ n. out ++ n ∷ []) o) next ≡ Some ns → Filled spelt (Some x) rest (run_len out)
  placed x None out is e = absurd cc
  placed x (Some n) out is e = (n, is, subst rest (run_more out n) (go (out ++ n ∷ []) e))

  placed_if : (o : Option A) (out : List Element) → and_then (optional_put spelt o out) next ≡ Some ns
      → Filled spelt o rest (run_len out)
  placed_if None out e = go out e
  placed_if (Some x) out e = placed x (spelt x) out refl e

pub measured : {V : Type 0} (t : ComponentTable V) (x : Fields t) (out ns : List Element) → put t x out ≡ Some ns
    → Measures t x (run_len ns) (run_len out)
measured ended x out ns e = same_run out ns e
measured (required p get more) x out ns e =
    placed p.spelling ns (λ a. put more x.1 a) (Measures more x.1 (run_len ns)) (λ ms f. measured more x.1 ms ns f) x.0
    (p.spelling x.0) out refl e
measured (optional p get more) x out ns e =
    placed_if p.spelling ns (λ a. put more x.1 a) (Measures more x.1 (run_len ns)) (λ ms f. measured more x.1 ms ns f) x.0
    out e
measured (also e get) x out ns is = (out, ns, is, refl, refl)
