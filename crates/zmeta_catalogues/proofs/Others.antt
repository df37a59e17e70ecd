-- The attributes of another type.
use mir.Val.{SFits}
use Rattle.std.proofs.Common.{to_z, of_z, w64, ◌≡◌, ◌∙◌, sym, ap, refl, ℕ, ℤ, Bool, true, false, not, cond, List, [], ◌∷◌, ◌++◌, length, append_assoc, append-nil, arith}
use Rattle.std.proofs.lemmas.Bool.Decides.{Decides-int_eq}
use Rattle.std.proofs.lemmas.Int.{to_z-of_z}
use Rattle.std.specs.Ordering.{int_eq}
use Rattle.zquery_rpn.specs.declared.query.Attr.{Attr}
use Rattle.zmeta_catalogues.specs.Terms.{others}

at_first : (more a : Attr) (kept left rest : List Attr) (b : Bool) → left ≡ a ∷ rest → int_eq a.kind more.kind ≡ b
    → kept ++ others more left ≡ kept ++ cond (not b) (a ∷ others more rest) (others more rest)
at_first more a kept left rest b is same =
    ap (λ (l : List Attr). kept ++ others more l) is
    ∙ ap (λ (x : Bool). kept ++ cond (not x) (a ∷ others more rest) (others more rest)) same

-- an attribute of another type
pub one_kept : (more a : Attr) (kept left rest all : List Attr) → left ≡ a ∷ rest → int_eq a.kind more.kind ≡ false
    → kept ++ others more left ≡ all → (kept ++ a ∷ []) ++ others more rest ≡ all
one_kept more a kept left rest all is other h =
    append_assoc kept (a ∷ []) (others more rest) ∙ sym (at_first more a kept left rest false is other) ∙ h

-- an attribute of this type
pub one_left : (more a : Attr) (kept left rest all : List Attr) → left ≡ a ∷ rest → int_eq a.kind more.kind ≡ true
    → kept ++ others more left ≡ all → kept ++ others more rest ≡ all
one_left more a kept left rest all is same h = sym (at_first more a kept left rest true is same) ∙ h

-- no attribute is left
pub none_left : (more : Attr) (kept left all : List Attr) → left ≡ [] → kept ++ others more left ≡ all → kept ≡ all
none_left more kept left all is h =
    sym (append-nil kept) ∙ sym (ap (λ (l : List Attr). kept ++ others more l) is) ∙ h

-- ---- types of attributes

not_true : (b : Bool) → (b ≡ true → ⊥) → b ≡ false
not_true true f = absurd (f refl)
not_true false f = refl

-- the types differ, as words do
pub other_kind : (x y : ℤ) → (of_z w64 x ≡ of_z w64 y → ⊥) → int_eq x y ≡ false
other_kind x y differ = not_true (int_eq x y) (λ e. differ (ap (of_z w64) ((Decides-int_eq x y).0 e)))

-- the types are the same, as words are
pub same_kind : (x y : ℤ) → SFits w64 x → SFits w64 y → of_z w64 x ≡ of_z w64 y → int_eq x y ≡ true
same_kind x y fits fits_too same =
    (Decides-int_eq x y).1 (sym (to_z-of_z w64 x fits) ∙ ap (to_z w64) same ∙ to_z-of_z w64 y fits_too)

-- no element is left
pub nothing_left : {X : Type 0} (l : List X) → length l ≡ 0 → l ≡ []
nothing_left [] h = refl
nothing_left (x ∷ xs) h = absurd (omega arith)
