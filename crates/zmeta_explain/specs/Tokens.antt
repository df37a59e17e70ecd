-- Tokens of a text by their places, as far as words show them.
use Rattle.std.specs.Prelude.{ℕ, if◌then◌else◌, List, [], ◌∷◌, drop}
use Rattle.std.specs.List.{before_first}
use Rattle.zmeta_explain.specs.Places.{is_space, is_quote}

-- the token at the front: behind its quote up to the next quote, or up to white space
abbrev pub token_front : List ℕ → List ℕ
token_front [] = []
token_front (x ∷ xs) = if is_quote x then before_first is_quote xs else before_first is_space (x ∷ xs)

-- the token at a place
abbrev pub token_at : ℕ → List ℕ → List ℕ
token_at at text = token_front (drop at text)
