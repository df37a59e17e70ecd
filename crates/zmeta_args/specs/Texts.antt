-- Borrowed texts.
use Rattle.std.specs.Prelude.{ℕ, List, map, Option}
use Rattle.std.specs.Borrow.{Bor}
use Rattle.std.specs.Option.{option_map}

-- the octets of each text
abbrev pub texts_of : List (Bor (List ℕ)) → List (List ℕ)
texts_of texts = map (λ text. text.now) texts

-- the octets of the text, if there is one
abbrev pub now_of : Option (Bor (List ℕ)) → Option (List ℕ)
now_of text = option_map (λ text. text.now) text
