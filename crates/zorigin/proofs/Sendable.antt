-- Init, a Present of the set of a search that can be sent, and Close can be sent.
use Rattle.std.proofs.Common.{◌≡◌, ℕ, ◌+◌, ◌*◌, ◌≤◌, ℤ, pos, negsuc, ◌≤ℤ◌, ◌<◌, ◌^◌, Bool, true, false, List, [], ◌∷◌, length, map, Option, Some, None, refl, sym, subst, arith}
use Rattle.std.specs.List.{AllByRecursion}
use Rattle.std.proofs.lemmas.Bool.{le-ltb, lt-ltb}
use Rattle.std.proofs.lemmas.Int.{ints}
use Rattle.zber.specs.AsnTags.{context, universal}
use Rattle.zber.specs.Bits.{bit_octets}
use Rattle.zber.specs.Canonical.{canonical}
use Rattle.zber.specs.Elements.{Element, height}
use Rattle.zber.specs.Oids.{is_oid}
use Rattle.zasn.specs.Meanings.{is_i64, oid_spelling}
use Rattle.zasn.specs.Table.{ComponentTable, required, ended, Fields, fields, put}
use Rattle.zasn.specs.Within.{around, all_spellings}
use Rattle.zapdu.specs.declared.apdu.Apdu.{Apdu}
use Rattle.zapdu.specs.declared.productions.element_set_names.ElementSetNames.{ElementSetNames}
use Rattle.zapdu.specs.declared.productions.element_set_names.ElementSetNames.TheVariants.{Generic}
use Rattle.zapdu.specs.Productions.Deliveries.{delivery, delivery_table, delivery_parts}
use Rattle.zapdu.specs.Productions.ElementSets.{element_set_names}
use Rattle.zapdu.specs.Productions.Implementations.{implementation, implementation_table, implementation_parts}
use Rattle.zapdu.specs.Productions.InitRequests.{init_request_table, init_request_parts}
use Rattle.zapdu.specs.Productions.PresentRequests.{present_request_table, present_request_parts}
use Rattle.zapdu.specs.Productions.Ranges.{range_table, range_parts, whole_range}
use Rattle.zapdu.specs.Productions.RecordCompositions.{record_composition}
use Rattle.zapdu.specs.Writes.{tag_of_kind, kind_of, apdu_parts, apdu_spelling}
use Rattle.zplan.specs.declared.range.Range.{Range}
use Rattle.zorigin.specs.declared.settings.Ask.{Ask}
use Rattle.zorigin.specs.declared.settings.Settings.{Settings}
use Rattle.zorigin.specs.declared.state.Searched.{Searched}
use Rattle.zorigin.specs.Ranges.{are_ranges}
use Rattle.zorigin.specs.References.{reference_id}
use Rattle.zorigin.specs.Sending.{versions, options, set_name, composition, sent_range, additional, init_request, search_request, present_request, too_large, is_unsendable}
use Rattle.zorigin.specs.Sendable.{SendableLaws}
use Rattle.zorigin.proofs.Calling.{close_sendable}
use Rattle.zorigin.proofs.Ranges.{IsGood, good_each}
use Rattle.zorigin.proofs.SendableSizes.{HasRoom, AreWithin, HaveRoom, IfThere, empty_past, of_table, of_around, of_onto, of_octets, of_integer, of_oid, decimal_few}
use Rattle.zorigin.proofs.SendableSearches.{IsHalf, AreArcs, searched_so}

-- ---- an APDU of few levels and octets can be sent

can_be_sent : (o : Option Element) → HasRoom 64 2097152 o → too_large o ≡ false
can_be_sent None r = absurd r
can_be_sent (Some n) r = rw (le-ltb 64 (height n) r.0, le-ltb 2097152 (length (canonical n)) r.1) refl

few_parts : (v : Apdu) → HaveRoom 63 2097137 (apdu_parts v) → is_unsendable v ≡ false
unfolding is_unsendable
few_parts v h =
    can_be_sent (apdu_spelling v) (of_around 63 2097137 2097152 (tag_of_kind (kind_of v)) (apdu_parts v) (omega arith) h)

-- ---- Init

-- the last places, of which only the name is filled
implementation_fits : (name : List ℕ) (j m : ℕ) (out : List Element) → j + (length name + 15) ≤ m → AreWithin 63 j out
    → HaveRoom 63 m (implementation_parts.spelling (implementation None (Some name) None None None) out)
unfolding implementation_parts
implementation_fits name j m out l w =
    of_table 63 j m implementation_table
    (fields implementation_table (implementation None (Some name) None None None))
    (0 ∷ (length name + 15) ∷ 0 ∷ 0 ∷ 0 ∷ []) out (omega (arith, l))
    (tt, (of_octets 63 (length name + 15) (context 111) name (omega arith), (tt, (tt, (tt, tt))))) w

abbrev init_places : Settings → Fields init_request_table
init_places settings =
    let last = implementation None (Some settings.name) None None None in
    (Some (reference_id 0), (versions, (options, (pos 1048576, (pos 1048576, (None, last))))))

init_fits : (settings : Settings) → length settings.name ≤ 2000000
    → HaveRoom 63 2097137 (apdu_parts (init_request settings))
unfolding init_request_parts
init_fits settings l =
    of_table 63 0 2097137 init_request_table (init_places settings)
    (19 ∷ 20 ∷ 20 ∷ 23 ∷ 23 ∷ 0 ∷ (length settings.name + 15) ∷ []) [] (omega (arith, l)) (
      of_octets 63 19 (context 2) (reference_id 0) (omega arith),
      (
        of_octets 63 20 (context 3) (bit_octets versions) (omega arith),
        (
          of_octets 63 20 (context 4) (bit_octets options) (omega arith),
          (
            of_integer 63 (context 5) (pos 1048576) refl,
            (of_integer 63 (context 6) (pos 1048576) refl, (tt, implementation_fits settings.name)),
          ),
        ),
      ),
    )
    (empty_past 63)

pub init_sendable : (settings : Settings) → length settings.name ≤ 2000000
    → is_unsendable (init_request settings) ≡ false
init_sendable settings l = few_parts (init_request settings) (init_fits settings l)

-- ---- a Present

-- the numbers of a range fit 64 bits
number_fits : (z : ℤ) → pos 1 ≤ℤ z → z ≤ℤ pos 2147483647 → is_i64 z ≡ true
number_fits (pos n) l m = let below : n < 2 ^ 63 = omega (arith, ints, m) in lt-ltb n (2 ^ 63) below
number_fits (negsuc n) l m = absurd (omega (arith, ints, l))

start_fits : (r : Range) → IsGood r → is_i64 r.start ≡ true
start_fits r g = number_fits r.start g.low (omega (arith, ints, g.low, g.some, g.high))

count_fits : (r : Range) → IsGood r → is_i64 r.n ≡ true
count_fits r g = number_fits r.n g.some (omega (arith, ints, g.low, g.some, g.high))

numbers_fit : (r : Range) → IsGood r → HaveRoom 61 46 (range_parts.spelling (sent_range r) [])
unfolding range_parts
numbers_fit r g =
    of_table 61 0 46 range_table (fields range_table (sent_range r)) (23 ∷ 23 ∷ []) [] (omega arith)
    (of_integer 61 (context 1) r.start (start_fits r g), (of_integer 61 (context 2) r.n (count_fits r g), tt))
    (empty_past 61)

range_fits : (r : Range) → IsGood r → HasRoom 62 61 (whole_range.spelling (sent_range r))
range_fits r g =
    of_around 61 46 61 (universal 16) (range_parts.spelling (sent_range r) []) (omega arith) (numbers_fit r g)

ranges_fit : (rs : List Range) → AllByRecursion IsGood rs
    → HaveRoom 62 (61 * length rs) (all_spellings whole_range.spelling (map sent_range rs))
ranges_fit [] h = (omega arith, omega arith)
ranges_fit (r ∷ rs) h =
    of_onto 62 61 (61 * length rs) (61 * length (r ∷ rs)) (whole_range.spelling (sent_range r))
    (all_spellings whole_range.spelling (map sent_range rs)) (omega arith) (range_fits r h.0) (ranges_fit rs h.1)

additional_fit : (rs : List Range) → AllByRecursion IsGood rs → length rs ≤ 1000
    → IfThere 63 61015 (λ xs. around (context 212) (all_spellings whole_range.spelling xs)) (additional rs)
additional_fit [] h l = tt
additional_fit (r ∷ rs) h l =
    of_around 62 (61 * length (r ∷ rs)) 61015 (context 212)
    (all_spellings whole_range.spelling (map sent_range (r ∷ rs))) (omega (arith, l)) (ranges_fit (r ∷ rs) h)

-- the element set's name, alone in an element
abbrev one_set : ComponentTable ElementSetNames
one_set = required element_set_names (λ v. v) ended

generic_fits : (xs : List ℕ) → 2 * length xs ≤ 2097152 → HaveRoom 62 1048591 (put one_set (Generic xs, tt) [])
unfolding element_set_names
generic_fits xs h =
    of_table 62 0 1048591 one_set (Generic xs, tt) (1048591 ∷ []) [] (omega arith)
    (of_octets 62 1048591 (context 0) xs (omega (arith, h)), tt) (empty_past 62)

composition_fits : (elements : Option (List ℕ)) → IsHalf 2097152 elements
    → IfThere 63 1048606 record_composition.spelling (composition elements)
composition_fits None h = tt
composition_fits (Some xs) h =
    of_around 62 1048591 1048606 (context 19) (put one_set (Generic xs, tt) []) (omega arith) (generic_fits xs h)

-- the syntax, if any, has few arcs, and they are those of an object identifier
abbrev HasSyntax : Option (List ℕ) → Type 0
HasSyntax None = Unit {0}
HasSyntax (Some arcs) = (is_oid arcs ≡ true) × (length arcs ≤ 1000)

syntax_fits : (syntax : Option (List ℕ)) → HasSyntax syntax → IfThere 63 5015 (oid_spelling (context 104)) syntax
syntax_fits None h = tt
syntax_fits (Some arcs) h = of_oid 63 5015 (context 104) arcs h.0 (omega (arith, h.1))

delivery_fits : (syntax : Option (List ℕ)) → HasSyntax syntax → (j m : ℕ) (out : List Element) → j + 5015 ≤ m
    → AreWithin 63 j out
    → HaveRoom 63 m (delivery_parts.spelling (delivery syntax None None None None) out)
unfolding delivery_parts
delivery_fits syntax h j m out l w =
    of_table 63 j m delivery_table (fields delivery_table (delivery syntax None None None None))
    (5015 ∷ 0 ∷ 0 ∷ 0 ∷ 0 ∷ []) out (omega (arith, l))
    (syntax_fits syntax h, (tt, (tt, (tt, (tt, tt))))) w

name_few : (named : Bool) (set : ℕ) → length (set_name named set) ≤ 64
name_few true set = decimal_few set
name_few false set = omega arith

-- ---- the whole Present

abbrev present_places : Bool → ℕ → Range → List Range → Searched → Fields present_request_table
present_places named op r rs searched =
    let set = set_name named searched.set in
    let last = delivery searched.syntax None None None None in
    (Some (reference_id op), (set, (r.start, (r.n, (additional rs, (composition searched.elements, last))))))

present_fits : (named : Bool) (op : ℕ) (r : Range) (rs : List Range) (searched : Searched) → IsGood r
    → AllByRecursion IsGood rs → length rs ≤ 1000
    → IsHalf 2097152 searched.elements → HasSyntax searched.syntax
    → HaveRoom 63 2097137 (apdu_parts (present_request named op r rs searched))
unfolding present_request_parts
present_fits named op r rs searched g h few half syntax =
    of_table 63 0 2097137 present_request_table (present_places named op r rs searched)
    (19 ∷ 79 ∷ 23 ∷ 23 ∷ 61015 ∷ 1048606 ∷ 5015 ∷ []) [] (omega arith) (
      of_octets 63 19 (context 2) (reference_id op) (omega arith),
      (
        of_octets 63 79 (context 31) (set_name named searched.set) (omega (arith, name_few named searched.set)),
        (
          of_integer 63 (context 30) r.start (start_fits r g),
          (
            of_integer 63 (context 29) r.n (count_fits r g),
            (additional_fit rs h few, (composition_fits searched.elements half, delivery_fits searched.syntax syntax)),
          ),
        ),
      ),
    )
    (empty_past 63)

has_syntax : (syntax : Option (List ℕ)) → AreArcs syntax → ((arcs : List ℕ) → syntax ≡ Some arcs → length arcs ≤ 1000)
    → HasSyntax syntax
has_syntax None h few = tt
has_syntax (Some arcs) h few = (h, few arcs refl)

pub present_sendable : (named : Bool) (op set next : ℕ) (ask : Ask) (searched : Searched) (r : Range) (rs : List Range)
    → is_unsendable (search_request named op set ask) ≡ false
    → ((arcs : List ℕ) → ask.syntax ≡ Some arcs → length arcs ≤ 1000) → searched.syntax ≡ ask.syntax
    → searched.elements ≡ ask.elements → are_ranges (r ∷ rs) ≡ true → length (r ∷ rs) ≤ 1000
    → is_unsendable (present_request named next r rs searched) ≡ false
present_sendable named op set next ask searched r rs sent few syntax elements ranges short =
    let held = searched_so named op set ask sent in
    let good = good_each (pos 0) (r ∷ rs) ranges in
    let half : IsHalf 2097152 searched.elements = subst (IsHalf 2097152) (sym elements) held.0 in
    let arcs : HasSyntax searched.syntax = subst HasSyntax (sym syntax) (has_syntax ask.syntax held.1 few) in
    let fits = present_fits named next r rs searched good.0 good.1 (omega (arith, short)) half arcs in
    few_parts (present_request named next r rs searched) fits

pub sendable_requests : SendableLaws
sendable_requests = record { init = init_sendable; present = present_sendable; close = close_sendable }
