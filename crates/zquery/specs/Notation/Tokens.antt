-- The tokens of a text, with the places at which they begin.
use Rattle.std.specs.Prelude.{◌≡◌, ℕ, ◌+◌, List, [], ◌∷◌, ◌++◌, Bool, true, false, ◌==◌, ◌||◌, ◌⊎◌, if◌then◌else◌, map, length}
use Rattle.std.specs.List.{flat_map}
use Rattle.zquery.specs.declared.notation.token.Token.{Token}

-- the octet is white space: 32, 9, 10 or 13
unfoldable pub is_white : ℕ → Bool
is_white b = (b == 32) || (b == 9) || (b == 10) || (b == 13)

-- `p` has the value `v` at each octet
abbrev pub AllAre : (ℕ → Bool) → Bool → List ℕ → Type 0
AllAre p v [] = Unit {0}
AllAre p v (b ∷ bs) = (p b ≡ v) × AllAre p v bs

-- an octet between quotes, with a backslash before it if `x.1` says so
abbrev pub piece : ℕ × Bool → List ℕ
piece x = if x.1 then 92 ∷ x.0 ∷ [] else x.0 ∷ []

-- each quote and each backslash has a backslash before it
abbrev pub ArePieces : List (ℕ × Bool) → Type 0
ArePieces [] = Unit {0}
ArePieces (x ∷ xs) = ((x.1 ≡ true) ⊎ (((x.0 == 34) || (x.0 == 92)) ≡ false)) × ArePieces xs

-- the octets of these pieces
abbrev pub spelled : List (ℕ × Bool) → List ℕ
spelled xs = flat_map piece xs

-- the octets are the text in quotes
pub record IsQuoted (text octets : List ℕ) : Type 0 where
  pub pieces : List (ℕ × Bool)
  pub lawful : ArePieces pieces
  pub text_is : text ≡ map (λ x. x.0) pieces
  pub whole : octets ≡ 34 ∷ (spelled pieces ++ 34 ∷ [])

-- these octets come behind a quote, and no quote closes it
pub record IsUnclosed (octets : List ℕ) : Type 0 where
  pub pieces : List (ℕ × Bool)
  pub lawful : ArePieces pieces
  pub whole : (octets ≡ spelled pieces) ⊎ (octets ≡ spelled pieces ++ 92 ∷ [])

-- the octets are none, or begin with white space
abbrev pub IsTokenEnd : List ℕ → Type 0
IsTokenEnd [] = Unit {0}
IsTokenEnd (b ∷ bs) = is_white b ≡ true

-- the octets are a token without quotes: one octet or more, no white space, and no quote first
abbrev pub IsUnquoted : List ℕ → Type 0
IsUnquoted [] = ⊥
IsUnquoted (b ∷ bs) = ((b == 34) ≡ false) × AllAre is_white false (b ∷ bs)

-- the octets are a token of this text, in quotes or not, and the octets `after` come behind them
abbrev pub IsTokenText : Bool → List ℕ → List ℕ → List ℕ → Type 0
IsTokenText true text octets after = IsQuoted text octets
IsTokenText false text octets after = (octets ≡ text) × IsUnquoted text × IsTokenEnd after

-- from the place `at` on, the octets are white space `gap`, this token, of the octets `lead`, and then others
pub record IsNextToken (t : Token) (at : ℕ) (octets gap lead after : List ℕ) : Type 0 where
  pub white : AllAre is_white true gap
  pub place : t.at ≡ at + length gap
  pub written : IsTokenText t.quoted t.text lead after
  pub whole : octets ≡ gap ++ (lead ++ after)

-- from the place `at` on, the octets have these tokens, and `Rest` holds of the place and the octets behind them
abbrev pub TokensThen : (ℕ → List ℕ → Type 0) → List Token → ℕ → List ℕ → Type 0
TokensThen Rest [] at octets = Rest at octets
TokensThen Rest (t ∷ ts) at octets =
    (gap : List ℕ) × ((lead : List ℕ)
    × ((after : List ℕ) × IsNextToken t at octets gap lead after
    × TokensThen Rest ts (at + length gap + length lead) after))

-- all octets are white space
abbrev pub AllWhite : ℕ → List ℕ → Type 0
AllWhite at octets = AllAre is_white true octets

-- behind white space there is a quote at this place, and no quote closes it
pub record IsOpenQuote (place at : ℕ) (octets : List ℕ) : Type 0 where
  pub gap : List ℕ
  pub behind : List ℕ
  pub white : AllAre is_white true gap
  pub whole : octets ≡ gap ++ 34 ∷ behind
  pub is : place ≡ at + length gap
  pub stays : IsUnclosed behind

-- these are the tokens of the text
abbrev pub AreTokens : List Token → List ℕ → Type 0
AreTokens ts text = TokensThen AllWhite ts 0 text

-- at this place of the text there is a quote that no quote closes
abbrev pub IsOpenAt : ℕ → List ℕ → Type 0
IsOpenAt place text = (front : List Token) × TokensThen (IsOpenQuote place) front 0 text
