-- The last item of a list, changed.
use Rattle.std.proofs.Common.{◌≡◌, ◌∙◌, ap, refl, List, [], ◌∷◌, ◌++◌, Option, Some, None}
use Rattle.std.specs.Option.{option_map}
use Rattle.zmeta_world.specs.Worlds.{in_last}

onto : {A : Type 0} (a : A) (xs : List A) (r : Option A) → option_map (λ zs. a ∷ zs) (option_map (λ y. xs ++ y ∷ []) r) ≡ option_map (λ y. (a ∷ xs) ++ y ∷ []) r
onto a xs None = refl
onto a xs (Some y) = refl

pub in_last_end : {A : Type 0} (change : A → Option A) (xs : List A) (x : A) → in_last change (xs ++ x ∷ []) ≡ option_map (λ y. xs ++ y ∷ []) (change x)
in_last_end change [] x = refl
in_last_end change (a ∷ []) x = onto a [] (change x)
in_last_end change (a ∷ b ∷ xs) x = ap (option_map (λ zs. a ∷ zs)) (in_last_end change (b ∷ xs) x) ∙ onto a (b ∷ xs) (change x)
