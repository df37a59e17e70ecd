-- What the parts of the lexer return.
use Rattle.std.specs.Prelude.{◌≡◌, ℕ, List, ◌∷◌, ◌++◌, Bool, false, map}
use Rattle.zquery.specs.Notation.Tokens.{ArePieces, spelled, AllAre, is_white, IsTokenEnd}

-- the octets behind a first quote are this text, a closing quote and the octets `after`
pub record QuotedFront (octets text after : List ℕ) : Type 0 where
  pub pieces : List (ℕ × Bool)
  pub lawful : ArePieces pieces
  pub text_is : text ≡ map (λ x. x.0) pieces
  pub whole : octets ≡ spelled pieces ++ 34 ∷ after

-- the octets are this text, which has no white space, and the octets `after`, which begin with white space or are none
pub record UnquotedFront (octets text after : List ℕ) : Type 0 where
  pub whole : octets ≡ text ++ after
  pub word : AllAre is_white false text
  pub ends : IsTokenEnd after
