-- Elements read one after the other, and built one after the other, as a loop does.
use Rattle.std.proofs.Common.{◌≡◌, List, [], ◌∷◌, ◌++◌, Option, Some, None, refl, sym, ap, append_assoc}
use Rattle.zasn_tables.specs.Reading.{option_map}
use Rattle.zasn_tables.specs.Within.{with_head}

-- what is still to come, behind what is there
abbrev pub behind : {A : Type 0} → List A → Option (List A) → Option (List A)
behind front o = option_map (λ xs. front ++ xs) o

pub behind-with_head : {A : Type 0} (front : List A) (x : A) (o : Option (List A)) → behind front (with_head (Some x) o) ≡ behind (front ++ x ∷ []) o
behind-with_head front x (Some xs) = ap (λ (ys : List _). Some ys) (sym (append_assoc front (x ∷ []) xs))
behind-with_head front x None = refl
