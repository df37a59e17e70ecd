-- One more attribute below others changes what is in force as `put_in` does.
use Rattle.std.proofs.Common.{◌≡◌, refl, sym, ◌∙◌, ap, ℕ, List, [], ◌∷◌, ◌++◌, Option, Some, None, Bool, true, false, not, ◌||◌, cond, map, filter, if◌then◌else◌, append-nil}
use Rattle.std.proofs.lemmas.List.{map-append}
use Rattle.std.proofs.lemmas.List.Elements.{filter-append}
use Rattle.std.proofs.lemmas.Slice.Eq.{bytes_eq-Decides}
use Rattle.std.proofs.lemmas.Bool.{and_parts, and_from, or_parts, false_from_ne_true, true≢false}
use Rattle.std.proofs.lemmas.Bool.Decides.{Decides-int_eq}
use Rattle.std.proofs.lemmas.Map.Views.{any-filter_same}
use Rattle.std.specs.Ordering.{int_eq}
use Rattle.std.specs.List.{list_any}
use Rattle.zquery_rpn.specs.declared.query.Attr.{Attr}
use Rattle.zquery_rpn.specs.declared.query.AttrValue.{AttrValue}
use Rattle.zquery.specs.InForce.{same_set, alike, first_attrs, last_attr_value, in_force}
use Rattle.zquery.specs.Notation.Reading.{put_in}

-- likeness is an equality of keys
set-is : (a b : Option (List ℕ)) → same_set a b ≡ true → a ≡ b
set-is None None h = refl
set-is (Some a) (Some b) h = ap (λ (x : List ℕ). Some x) ((bytes_eq-Decides a b).0 h)
set-is None (Some b) h = cc
set-is (Some a) None h = cc

pub set-same : (a : Option (List ℕ)) → same_set a a ≡ true
set-same None = refl
set-same (Some a) = (bytes_eq-Decides a a).1 refl

pub alike-same : (a : Attr) → alike a a ≡ true
unfolding alike
alike-same a = and_from _ _ (set-same a.attr_set) ((Decides-int_eq a.kind a.kind).1 refl)

pub alike-swap : (a b : Attr) → alike a b ≡ true → alike b a ≡ true
unfolding alike
alike-swap a b h =
    let parts = and_parts (same_set a.attr_set b.attr_set) (int_eq a.kind b.kind) h in
    let sets : a.attr_set ≡ b.attr_set = set-is a.attr_set b.attr_set parts.0 in
    and_from _ _ (ap (λ (s : Option (List ℕ)). same_set b.attr_set s) sets ∙ set-same b.attr_set) ((Decides-int_eq b.kind a.kind).1 (sym ((Decides-int_eq a.kind b.kind).0 parts.1)))

pub alike-trans : (x b a : Attr) → alike x b ≡ true → alike b a ≡ true → alike x a ≡ true
unfolding alike
alike-trans x b a h k =
    let one = and_parts (same_set x.attr_set b.attr_set) (int_eq x.kind b.kind) h in
    let two = and_parts (same_set b.attr_set a.attr_set) (int_eq b.kind a.kind) k in
    and_from _ _ (ap (λ (s : Option (List ℕ)). same_set s a.attr_set) (set-is x.attr_set b.attr_set one.0) ∙ two.0)
    ((Decides-int_eq x.kind a.kind).1 ((Decides-int_eq x.kind b.kind).0 one.1 ∙ (Decides-int_eq b.kind a.kind).0 two.1))

-- a value is no part of it
abbrev valued : AttrValue → Attr → Attr
valued v a = record a { value = v }

-- no two are alike
abbrev pub Apart : List Attr → Type 0
Apart [] = Unit {0}
Apart (b ∷ bs) = (list_any (alike b) bs ≡ false) × Apart bs

none-passes : (b : Attr) (p : Attr → Bool) (bs : List Attr) → ((c : Attr) → p c ≡ true → alike b c ≡ true → ⊥) → list_any (alike b) (filter p bs) ≡ false
none-passes b p [] h = refl
none-passes b p (c ∷ bs) h =
    let rest = none-passes b p bs h in
    let either : (v : Bool) → p c ≡ v → list_any (alike b) (cond v (c ∷ filter p bs) (filter p bs)) ≡ false =
    λ v. elim v as (λ v. p c ≡ v → list_any (alike b) (cond v (c ∷ filter p bs) (filter p bs)) ≡ false) [
      | true ↦ (λ e. ap (λ (t : Bool). t || list_any (alike b) (filter p bs)) (false_from_ne_true (alike b c) (h c e)) ∙ rest)
      | false ↦ (λ e. rest)
    ] in
    either (p c) refl

fewer-pass : (b : Attr) (p : Attr → Bool) (bs : List Attr) → list_any (alike b) bs ≡ false → list_any (alike b) (filter p bs) ≡ false
fewer-pass b p [] h = refl
fewer-pass b p (c ∷ bs) h =
    let parts = or_parts (alike b c) (list_any (alike b) bs) h in
    let rest = fewer-pass b p bs parts.1 in
    let either : (v : Bool) → list_any (alike b) (cond v (c ∷ filter p bs) (filter p bs)) ≡ false =
    λ v. elim v as (λ v. list_any (alike b) (cond v (c ∷ filter p bs) (filter p bs)) ≡ false) [
      | true ↦ ap (λ (t : Bool). t || list_any (alike b) (filter p bs)) parts.0 ∙ rest
      | false ↦ rest
    ] in
    either (p c)

apart-filter : (p : Attr → Bool) (bs : List Attr) → Apart bs → Apart (filter p bs)
apart-filter p [] h = tt
apart-filter p (b ∷ bs) h =
    let rest = apart-filter p bs h.1 in
    let either : (v : Bool) → Apart (cond v (b ∷ filter p bs) (filter p bs)) =
    λ v. elim v as (λ v. Apart (cond v (b ∷ filter p bs) (filter p bs))) [ true ↦ (fewer-pass b p bs h.0, rest) | false ↦ rest ] in
    either (p b)

not-both : (t : Bool) → not t ≡ true → t ≡ true → ⊥
not-both true h k = true≢false (sym h)
not-both false h k = true≢false (sym k)

apart-first_attrs : (xs : List Attr) → Apart (first_attrs xs)
apart-first_attrs [] = tt
apart-first_attrs (a ∷ xs) = (none-passes a (λ b. not (alike a b)) (first_attrs xs) (λ c. not-both (alike a c)), apart-filter (λ b. not (alike a b)) (first_attrs xs) (apart-first_attrs xs))

-- putting is changing the one that is alike, and adding the attribute where there is none
abbrev revalued : Attr → Attr → Attr
revalued a b = record b { value = (if alike b a then a.value else b.value) }

abbrev put_last : Bool → Attr → List Attr
put_last true a = []
put_last false a = a ∷ []

others-stay : (b a : Attr) (bs : List Attr) → alike b a ≡ true → list_any (alike b) bs ≡ false → map (revalued a) bs ≡ bs
others-stay b a [] h n = refl
others-stay b a (c ∷ bs) h n =
    let parts = or_parts (alike b c) (list_any (alike b) bs) n in
    let unlike : alike c a ≡ false = false_from_ne_true (alike c a) (λ e. true≢false (sym (alike-trans b a c h (alike-swap c a e)) ∙ parts.0)) in
    ap (λ (v : Bool). record c { value = (if v then a.value else c.value) } ∷ map (revalued a) bs) unlike ∙ ap (λ (zs : List Attr). c ∷ zs) (others-stay b a bs h parts.1)

put-is : (a : Attr) (bs : List Attr) → Apart bs → put_in bs a ≡ map (revalued a) bs ++ put_last (list_any (λ b. alike b a) bs) a
put-is a [] h = refl
put-is a (b ∷ bs) h =
    let either : (v : Bool) → alike b a ≡ v → (if v then valued a.value b ∷ bs else b ∷ put_in bs a) ≡ record b { value = (if v then a.value else b.value) } ∷ (map (revalued a) bs ++ put_last (v || list_any (λ b. alike b a) bs) a) =
    λ v. elim v as (λ v. alike b a ≡ v → (if v then valued a.value b ∷ bs else b ∷ put_in bs a) ≡ record b { value = (if v then a.value else b.value) } ∷ (map (revalued a) bs ++ put_last (v || list_any (λ b. alike b a) bs) a)) [
      | true ↦ (λ e. ap (λ (zs : List Attr). valued a.value b ∷ zs) (sym (others-stay b a bs e h.0) ∙ sym (append-nil (map (revalued a) bs))))
      | false ↦ (λ e. ap (λ (zs : List Attr). b ∷ zs) (put-is a bs h.1))
    ] in
    either (alike b a) refl

-- the last value of one more
last-append : (xs : List Attr) (a b : Attr) (v : AttrValue) → last_attr_value (xs ++ b ∷ []) a v ≡ (if alike a b then b.value else last_attr_value xs a v)
last-append [] a b v = refl
last-append (x ∷ xs) a b v = last-append xs a b (if alike a x then x.value else v)

filter-put : (x a : Attr) (found : Bool) → filter (λ b. not (alike x b)) (put_last found a) ≡ put_last (alike x a || found) a
filter-put x a true = elim (alike x a) as (λ b. [] ≡ put_last (b || true) a) [ true ↦ refl | false ↦ refl ]
filter-put x a false = elim (alike x a) as (λ b. cond (not b) (a ∷ []) [] ≡ put_last (b || false) a) [ true ↦ refl | false ↦ refl ]

kept-out : (x b a : Attr) → alike x a ≡ false → alike b a ≡ true → not (alike x b) ≡ true
kept-out x b a f h = ap not (false_from_ne_true (alike x b) (λ e. true≢false (sym (alike-trans x b a e h) ∙ f)))

agree : (x a : Attr) (v : Bool) → alike x a ≡ v → (fs : List Attr) → put_last (v || list_any (λ b. alike b a) fs) a ≡ put_last (v || list_any (λ b. alike b a) (filter (λ b. not (alike x b)) fs)) a
agree x a true e fs = refl
agree x a false e fs = ap (λ r. put_last r a) (sym (any-filter_same (λ b. alike b a) (λ b. not (alike x b)) true (λ b h. kept-out x b a e h) fs))

first_attrs-append : (xs : List Attr) (a : Attr) → first_attrs (xs ++ a ∷ []) ≡ first_attrs xs ++ put_last (list_any (λ b. alike b a) (first_attrs xs)) a
first_attrs-append [] a = refl
first_attrs-append (x ∷ xs) a =
    let keep : Attr → Bool = λ b. not (alike x b) in
    let found : Bool = list_any (λ b. alike b a) (first_attrs xs) in
    ap (λ (zs : List Attr). x ∷ filter keep zs) (first_attrs-append xs a)
    ∙ ap (λ (zs : List Attr). x ∷ zs) (filter-append keep (first_attrs xs) (put_last found a)
    ∙ ap (λ (zs : List Attr). filter keep (first_attrs xs) ++ zs) (filter-put x a found ∙ agree x a (alike x a) refl (first_attrs xs)))

abbrev lasting : List Attr → Attr → Attr
lasting xs a = record a { value = last_attr_value xs a a.value }

fused : (xs : List Attr) (a : Attr) (fs : List Attr) → map (lasting (xs ++ a ∷ [])) fs ≡ map (revalued a) (map (lasting xs) fs)
unfolding alike
fused xs a [] = refl
fused xs a (y ∷ fs) =
    ap (λ (v : AttrValue). valued v y ∷ map (lasting (xs ++ a ∷ [])) fs) (last-append xs y a y.value)
    ∙ ap (λ (zs : List Attr). revalued a (lasting xs y) ∷ zs) (fused xs a fs)

any-lasting : (xs : List Attr) (a : Attr) (fs : List Attr) → list_any (λ b. alike b a) (map (lasting xs) fs) ≡ list_any (λ b. alike b a) fs
unfolding alike
any-lasting xs a [] = refl
any-lasting xs a (y ∷ fs) = ap (λ (r : Bool). alike y a || r) (any-lasting xs a fs)

any-of-lasting : (xs : List Attr) (y : Attr) (fs : List Attr) → list_any (alike (lasting xs y)) (map (lasting xs) fs) ≡ list_any (alike y) fs
unfolding alike
any-of-lasting xs y [] = refl
any-of-lasting xs y (z ∷ fs) = ap (λ (r : Bool). alike y z || r) (any-of-lasting xs y fs)

apart-lasting : (xs fs : List Attr) → Apart fs → Apart (map (lasting xs) fs)
apart-lasting xs [] h = tt
apart-lasting xs (y ∷ fs) h = (any-of-lasting xs y fs ∙ h.0, apart-lasting xs fs h.1)

last-lasting : (xs : List Attr) (a : Attr) (found : Bool) → map (lasting (xs ++ a ∷ [])) (put_last found a) ≡ put_last found a
last-lasting xs a true = refl
last-lasting xs a false =
    ap (λ (v : AttrValue). valued v a ∷ []) (last-append xs a a a.value ∙ ap (λ (b : Bool). if b then a.value else last_attr_value xs a a.value) (alike-same a))

pub put-law : (xs : List Attr) (a : Attr) → in_force (xs ++ a ∷ []) ≡ put_in (in_force xs) a
unfolding in_force
put-law xs a =
    let found : Bool = list_any (λ b. alike b a) (first_attrs xs) in
    ap (map (lasting (xs ++ a ∷ []))) (first_attrs-append xs a)
    ∙ map-append (lasting (xs ++ a ∷ [])) (first_attrs xs) (put_last found a)
    ∙ ap (λ (zs : List Attr). zs ++ map (lasting (xs ++ a ∷ [])) (put_last found a)) (fused xs a (first_attrs xs))
    ∙ ap (λ (zs : List Attr). map (revalued a) (map (lasting xs) (first_attrs xs)) ++ zs) (last-lasting xs a found ∙ ap (λ (b : Bool). put_last b a) (sym (any-lasting xs a (first_attrs xs))))
    ∙ sym (put-is a (map (lasting xs) (first_attrs xs)) (apart-lasting xs (first_attrs xs) (apart-first_attrs xs)))
