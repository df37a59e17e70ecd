-- Segments, as a loop over the elements meets them.
use Rattle.std.proofs.Common.{◌≡◌, ℕ, zero, suc, ◌+◌, ◌<◌, Bool, true, false, ◌&&◌, List, [], ◌∷◌, ◌++◌, length, take, get_or, refl, sym, ap, ◌∙◌, arith, append_assoc}
use Rattle.std.proofs.lemmas.List.{append-nil, take_more}
use Rattle.std.proofs.Math.Bool.{and-true}
use Rattle.zber.specs.declared.node.Node.TheInside.{Inside}
use Rattle.zber.specs.declared.node.Body.TheVariants.{Cons}
use Rattle.zber.specs.NodeElements.{element_of}
use Rattle.zber.specs.Elements.{Element, Forest, Primitive, Constructed, forest, before, tag_of}
use Rattle.zber.specs.Segments.{is_segment, are_segments, joined, is_string, string_octets}
use Rattle.zber.proofs.Runs.{seen_cons, seen_tag}

-- ---- octets
joined_before : (e : Element) (f : Forest) → joined (before e f) ≡ string_octets e ++ joined f
joined_before (Primitive n xs) f = refl
joined_before (Constructed n g) f = refl

joined_more : (es : List Element) (e : Element) → joined (forest (es ++ e ∷ [])) ≡ joined (forest es) ++ string_octets e
joined_more [] e = joined_before e (forest []) ∙ append-nil (string_octets e)
joined_more (d ∷ es) e =
    joined_before d (forest (es ++ e ∷ []))
    ∙ ap (λ xs. string_octets d ++ xs) (joined_more es e)
    ∙ sym (append_assoc (string_octets d) (joined (forest es)) (string_octets e))
    ∙ ap (λ xs. xs ++ string_octets e) (sym (joined_before d (forest es)))

pub joined_step : (es : List Element) (i : ℕ) (e : Element) (old mid new : List ℕ) → i < length es → e ≡ get_or es i e → mid ≡ old ++ joined (forest (take i es)) → new ≡ mid ++ string_octets e
    → new ≡ old ++ joined (forest (take (i + 1) es))
joined_step es i e old mid new l is so_far next =
    next
    ∙ ap (λ xs. xs ++ string_octets e) so_far
    ∙ append_assoc old (joined (forest (take i es))) (string_octets e)
    ∙ ap (λ xs. old ++ xs) (sym (ap (λ xs. joined (forest xs)) (take_more es i e l ∙ ap (λ x. take i es ++ x ∷ []) (sym is)) ∙ joined_more (take i es) e))

-- ---- tags
abbrev pub is_one : Element → Bool
is_one e = is_segment (tag_of e) && is_string e

and_assoc : (a b c : Bool) → (a && (b && c)) ≡ ((a && b) && c)
and_assoc true b c = refl
and_assoc false b c = refl

segments_before : (e : Element) (f : Forest) → are_segments (before e f) ≡ (is_one e && are_segments f)
segments_before (Primitive n xs) f = ap (λ b. b && are_segments f) (sym (and-true (is_segment n)))
segments_before (Constructed n g) f = and_assoc (is_segment n) (are_segments g) (are_segments f)

segments_more : (es : List Element) (e : Element) → are_segments (forest (es ++ e ∷ [])) ≡ (are_segments (forest es) && is_one e)
segments_more [] e = segments_before e (forest []) ∙ and-true (is_one e)
segments_more (d ∷ es) e =
    segments_before d (forest (es ++ e ∷ []))
    ∙ ap (λ b. is_one d && b) (segments_more es e)
    ∙ and_assoc (is_one d) (are_segments (forest es)) (is_one e)
    ∙ ap (λ b. b && is_one e) (sym (segments_before d (forest es)))

pub segments_step : (es : List Element) (i : ℕ) (e : Element) → i < length es → e ≡ get_or es i e → are_segments (forest (take i es)) ≡ true → is_one e ≡ true → are_segments (forest (take (i + 1) es)) ≡ true
segments_step es i e l is so_far next =
    ap (λ xs. are_segments (forest xs)) (take_more es i e l ∙ ap (λ x. take i es ++ x ∷ []) (sym is))
    ∙ segments_more (take i es) e
    ∙ ap (λ b. b && is_one e) so_far
    ∙ next

and_false : (a b : Bool) → b ≡ false → (a && b) ≡ false
and_false true b h = h
and_false false b h = refl

no_segments : (es : List Element) (i : ℕ) (e : Element) → i < length es → e ≡ get_or es i e → is_one e ≡ false → are_segments (forest es) ≡ false
no_segments [] i e l is other = absurd (omega arith)
no_segments (d ∷ es) zero e l is other = segments_before d (forest es) ∙ ap (λ x. is_one x && are_segments (forest es)) (sym is) ∙ ap (λ b. b && are_segments (forest es)) other
no_segments (d ∷ es) (suc i) e l is other = segments_before d (forest es) ∙ and_false (is_one d) _ (no_segments es i e (omega arith) is other)

-- an element is one by its tag and by what is within it
by_parts : (n : Inside) (e : Element) (b : Bool) → element_of n ≡ e → b ≡ is_segment n.tag → is_one e ≡ (b && is_string e)
by_parts n e b seen tag = ap (λ t. is_segment t && is_string e) (seen_tag n e seen) ∙ ap (λ c. c && is_string e) (sym tag)

pub one : (n : Inside) (e : Element) (b : Bool) → element_of n ≡ e → b ≡ is_segment n.tag → b ≡ true → is_string e ≡ true → is_one e ≡ true
one n e b seen tag is inside = by_parts n e b seen tag ∙ ap (λ c. c && is_string e) is ∙ inside

pub none_by_tag : (n : Inside) (e : Element) (b : Bool) → element_of n ≡ e → b ≡ is_segment n.tag → b ≡ false → is_one e ≡ false
none_by_tag n e b seen tag is = by_parts n e b seen tag ∙ ap (λ c. c && is_string e) is

pub none_inside : (e : Element) → is_string e ≡ false → is_one e ≡ false
none_inside e is = and_false (is_segment (tag_of e)) (is_string e) is

-- with an element that is no segment it is no string
pub no_string : (n : Inside) (e : Element) (kids : _) (items : List Element) (i : ℕ) (k : Element) → element_of n ≡ e → n.body ≡ Cons kids → items ≡ kids.items → i < length items → k ≡ get_or items i k → is_one k ≡ false
    → is_string e ≡ false
no_string n e kids items i k seen is same l at other =
    ap is_string (seen_cons n e kids seen is) ∙ ap (λ es. are_segments (forest es)) (sym same) ∙ no_segments items i k l at other
