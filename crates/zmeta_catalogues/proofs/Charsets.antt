-- The octets of characters in ISO 8859-1.
use Rattle.std.proofs.Common.{◌≡◌, ◌∙◌, sym, ap, refl, ℕ, ◌+◌, ◌<◌, ◌≤◌, Bool, true, false, cond, leb, List, [], ◌∷◌, ◌++◌, length, get_or, drop, Option, Some, None, option_map, append_assoc}
use Rattle.std.proofs.lemmas.List.{at_drop_more, at_drop_all, append-nil}
use Rattle.zmeta_catalogues.specs.Charsets.{latin1}

latin1-drop : (cs : List ℕ) (n c : ℕ) → (n < length cs) × (c ≡ get_or cs n c)
    → latin1 (drop n cs) ≡ cond (leb c 255) (option_map (λ os. c ∷ os) (latin1 (drop (n + 1) cs))) None
latin1-drop cs n c h =
    at_drop_more latin1 cs n c h.0
    ∙ ap (λ x. cond (leb x 255) (option_map (λ os. x ∷ os) (latin1 (drop (n + 1) cs))) None) (sym h.1)

by_more : (b : Bool) (c : ℕ) (front : List ℕ) (rest : Option (List ℕ)) → b ≡ true
    → option_map (λ os. front ++ os) (cond b (option_map (λ os. c ∷ os) rest) None)
    ≡ option_map (λ os. (front ++ c ∷ []) ++ os) rest
by_more true c front None e = refl
by_more true c front (Some os) e = ap Some (sym (append_assoc front (c ∷ []) os))
by_more false c front rest e = absurd (cc)

-- a character more
pub one_letter : (cs front : List ℕ) (n c : ℕ) (all : Option (List ℕ)) → (n < length cs) × (c ≡ get_or cs n c)
    → leb c 255 ≡ true → all ≡ option_map (λ os. front ++ os) (latin1 (drop n cs))
    → all ≡ option_map (λ os. (front ++ c ∷ []) ++ os) (latin1 (drop (n + 1) cs))
one_letter cs front n c all h is e =
    e ∙ ap (option_map (λ os. front ++ os)) (latin1-drop cs n c h)
    ∙ by_more (leb c 255) c front (latin1 (drop (n + 1) cs)) is

by_none : (b : Bool) (front : List ℕ) (rest : Option (List ℕ)) → b ≡ false
    → option_map (λ os. front ++ os) (cond b rest None) ≡ None
by_none true front rest e = absurd (cc)
by_none false front rest e = refl

-- a character that is none of the set
pub no_letter : (cs front : List ℕ) (n c : ℕ) (all : Option (List ℕ)) → (n < length cs) × (c ≡ get_or cs n c)
    → leb c 255 ≡ false → all ≡ option_map (λ os. front ++ os) (latin1 (drop n cs)) → None ≡ all
no_letter cs front n c all h is e =
    sym (e ∙ ap (option_map (λ os. front ++ os)) (latin1-drop cs n c h) ∙ by_none (leb c 255) front _ is)

-- all characters
pub all_letters : (cs front : List ℕ) (n : ℕ) (all : Option (List ℕ)) → length cs ≤ n
    → all ≡ option_map (λ os. front ++ os) (latin1 (drop n cs)) → Some front ≡ all
all_letters cs front n all h e =
    sym (e ∙ ap (option_map (λ os. front ++ os)) (at_drop_all latin1 cs n h) ∙ ap Some (append-nil front))
