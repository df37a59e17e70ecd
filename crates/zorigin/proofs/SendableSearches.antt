-- What a search that can be sent holds: its element set's name twice, and a syntax that is an object identifier.
use Rattle.std.proofs.Common.{◌≡◌, ℕ, ◌+◌, ◌*◌, ◌≤◌, Bool, true, false, cond, ◌||◌, List, [], ◌∷◌, length, Option, Some, None, refl, ap, arith}
use Rattle.std.specs.Prelude.{nat_lt}
use Rattle.std.proofs.lemmas.Bool.{ltb-false}
use Rattle.zber.specs.AsnTags.{AsnTag, context}
use Rattle.zber.specs.Canonical.{canonical}
use Rattle.zber.specs.Elements.{Element, Primitive, Constructed, forest, height}
use Rattle.zber.specs.Oids.{oid_octets, is_oid}
use Rattle.zber.proofs.ElementSizes.{run_len}
use Rattle.zasn.specs.Meanings.{oid_spelling}
use Rattle.zasn.specs.Table.{Fields, fields}
use Rattle.zasn.specs.Within.{around}
use Rattle.zquery.specs.Trees.{RpnQuery}
use Rattle.zapdu.specs.declared.productions.search_query.SearchQuery.TheVariants.{Rpn}
use Rattle.zapdu.specs.declared.productions.search_request.SearchRequest.{SearchRequest}
use Rattle.zapdu.specs.Productions.ElementSets.{element_set_names}
use Rattle.zapdu.specs.Productions.SearchQueries.{search_query}
use Rattle.zapdu.specs.Productions.SearchDetails.{details_of, search_details_table, search_details_parts}
use Rattle.zapdu.specs.Productions.SearchRequests.{search_request_table, search_request_parts}
use Rattle.zorigin.specs.declared.settings.Ask.{Ask}
use Rattle.zorigin.specs.Sending.{too_large, is_unsendable, element_set, search_value, search_request}
use Rattle.zorigin.proofs.SendableSizes.{octets_more, run_within, run_before}
use Rattle.zorigin.proofs.SendableParts.{Filled, Measures, measured}

-- the name, if any, has at most half of k octets
abbrev pub IsHalf : ℕ → Option (List ℕ) → Type 0
IsHalf k None = Unit {0}
IsHalf k (Some xs) = 2 * length xs ≤ k

-- the arcs, if any, are those of an object identifier
abbrev pub AreArcs : Option (List ℕ) → Type 0
AreArcs None = Unit {0}
AreArcs (Some arcs) = is_oid arcs ≡ true

half_more : (k m : ℕ) (o : Option (List ℕ)) → k ≤ m → IsHalf k o → IsHalf m o
half_more k m None l h = tt
half_more k m (Some xs) l h = omega (arith, l, h)

-- ---- parts

arcs_spelt : (b : Bool) (m n : Element) → cond b (Some m) None ≡ Some n → b ≡ true
arcs_spelt true m n e = refl
arcs_spelt false m n e = absurd cc

named_spelt : (tag : ℕ) (xs : List ℕ) (n : Element)
    → Some (Constructed (context tag) (forest (Primitive (context 0) xs ∷ []))) ≡ Some n
    → length xs ≤ length (canonical n)
named_spelt tag xs n e =
    let kid : Element = Primitive (context 0) xs in
    let same : Constructed (context tag) (forest (kid ∷ [])) ≡ n = cc in
    let whole = ap (λ d. length (canonical d)) same in
    omega (arith, whole, run_within (context tag) (kid ∷ []), run_before kid [], octets_more (context 0) xs)

-- the places of the syntax and of the query, which are the last that are filled
queried : (syntax : Option (List ℕ)) (query : RpnQuery) (k j : ℕ)
    → Filled (oid_spelling (context 104)) syntax (λ i. Filled search_query.spelling (Some (Rpn query)) (λ l. l ≡ k) i) j
    → (j ≤ k) × AreArcs syntax
queried None query k j m = (omega (arith, m.2), tt)
queried (Some arcs) query k j m =
    (omega (arith, m.2.2), arcs_spelt (is_oid arcs) (Primitive (context 104) (oid_octets arcs)) m.0 m.1)

-- the last places of a search
abbrev details : Option (List ℕ) → Option (List ℕ) → RpnQuery → Fields search_details_table
details elements syntax query =
    (element_set elements, (element_set elements, (syntax, (Rpn query, (None, (None, tt))))))

detailed : (elements syntax : Option (List ℕ)) (query : RpnQuery) (k j : ℕ)
    → Measures search_details_table (details elements syntax query) k j → IsHalf k elements × AreArcs syntax
unfolding element_set_names
detailed None syntax query k j m = (tt, (queried syntax query k j m).1)
detailed (Some xs) syntax query k j m =
    let small = named_spelt 100 xs m.0 m.1 in
    let medium = named_spelt 101 xs m.2.0 m.2.1 in
    let rest = queried syntax query k (j + length (canonical m.0) + length (canonical m.2.0)) m.2.2 in
    (omega (arith, small, medium, rest.0), rest.1)

-- ---- the whole

second_false : (a b : Bool) → a || b ≡ false → b ≡ false
second_false true b e = absurd cc
second_false false b e = e

-- an element that can be encoded has elements, of no more octets than the most
built : (tag : AsnTag) (made : Option (List Element)) → too_large (around tag made) ≡ false
    → (ns : List Element) × (made ≡ Some ns) × (run_len ns ≤ 2097152)
built tag None e = absurd cc
built tag (Some ns) e =
    let whole : Element = Constructed tag (forest ns) in
    let few = ltb-false 2097152 (length (canonical whole)) (second_false (nat_lt 64 (height whole)) _ e) in
    (ns, refl, omega (arith, few, run_within tag ns))

in_details : (v : SearchRequest) (out ns : List Element) → search_details_parts.spelling (details_of v) out ≡ Some ns
    → Measures search_details_table (fields search_details_table (details_of v)) (run_len ns) (run_len out)
unfolding search_details_parts
in_details v out ns e = measured search_details_table (fields search_details_table (details_of v)) out ns e

in_search : (v : SearchRequest) (ns : List Element) → search_request_parts.spelling v [] ≡ Some ns
    → Measures search_request_table (fields search_request_table v) (run_len ns) (run_len [])
unfolding search_request_parts
in_search v ns e = measured search_request_table (fields search_request_table v) [] ns e

-- the parts of a search that can be sent
module _ (named : Bool) (op set : ℕ) (ask : Ask) where
  abbrev request : SearchRequest
  request = search_value named op set ask

  pub searched_so : is_unsendable (search_request named op set ask) ≡ false
      → IsHalf 2097152 ask.elements × AreArcs ask.syntax
  unfolding is_unsendable
  searched_so e =
      let made = built (context 22) (search_request_parts.spelling request []) e in
      let parts = in_search request made.0 made.1 in
      let last = parts.2.2.2.2.2.2.2 in
      let inner = in_details request last.0 last.1 last.2 in
      let held = detailed ask.elements ask.syntax ask.query (run_len last.1) (run_len last.0) inner in
      let few : run_len last.1 ≤ 2097152 = omega (arith, made.2, last.4) in
      (half_more (run_len last.1) 2097152 ask.elements few held.0, held.1)
