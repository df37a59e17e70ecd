-- The canonical encoding is the shortest (X.690, 8.1.2, 8.1.3 and 10.1).
use Rattle.std.specs.Prelude.{◌≡◌, ℕ, suc, ◌<◌, ◌≤◌, Bool, true, false, List, [], ◌∷◌, ◌++◌, All, length}
use Rattle.zber.specs.AsnTags.{AsnTag}
use Rattle.zber.specs.Elements.{Element, prim, cons, height}
use Rattle.zber.specs.Canonical.{identifier, size, canonical, IsLawful}
use Rattle.zber.specs.Spelling.{Identifier, Length, IsSpelling}

-- each number is an octet; the numbers of a law's list need not be
abbrev pub AreOctets : List ℕ → Type 0
AreOctets xs = All (λ x. x < 256) xs

-- no octets that spell a length are fewer than those of the canonical encoding (8.1.3, 10.1)
abbrev pub ShortestLength : Type 0
ShortestLength = (n : ℕ) (xs : List ℕ) → Length n xs → AreOctets xs → length (size n) ≤ length xs

-- a tag has exactly one identifier in each form, so none is shorter (8.1.2)
abbrev pub OneIdentifier : Type 0
OneIdentifier = (n : AsnTag) (c : Bool) (xs : List ℕ) → Identifier n c xs → xs ≡ identifier n c

-- The octets spell the element with definite lengths alone (8.1.3.3). At most `room` constructed elements are nested.
mutual
  -- octets that spell the element with definite lengths alone
  pub data IsDefiniteSpelling : ℕ → Element → List ℕ → Type 0 where
    primitive : {room : ℕ} {n : AsnTag} {i l xs : List ℕ}
        → Identifier n false i → Length (length xs) l → IsDefiniteSpelling room (prim n xs) (i ++ (l ++ xs))
    constructed : {room : ℕ} {n : AsnTag} {es : List Element} {i l xs : List ℕ}
        → Identifier n true i → Length (length xs) l → AreDefiniteSpellings room es xs
        → IsDefiniteSpelling (suc room) (cons n es) (i ++ (l ++ xs))

  -- octets that spell the elements one after the other, with definite lengths alone
  pub data AreDefiniteSpellings : ℕ → List Element → List ℕ → Type 0 where
    none : {room : ℕ} → AreDefiniteSpellings room [] []
    more : {room : ℕ} {e : Element} {es : List Element} {xs ys : List ℕ}
        → IsDefiniteSpelling room e xs → AreDefiniteSpellings room es ys → AreDefiniteSpellings room (e ∷ es) (xs ++ ys)

-- a spelling with definite lengths alone is a spelling
abbrev pub DefiniteIsSpelling : Type 0
DefiniteIsSpelling = (room : ℕ) (e : Element) (xs : List ℕ) → IsDefiniteSpelling room e xs → IsSpelling room e xs

-- if an element has at most `room` levels, its canonical encoding is a spelling with definite lengths alone
abbrev pub CanonicalIsDefinite : Type 0
CanonicalIsDefinite = (room : ℕ) (e : Element) → IsLawful e → height e ≤ room → IsDefiniteSpelling room e (canonical e)

-- No spelling with definite lengths alone is shorter than the canonical encoding (10.1). With indefinite lengths this
-- is false (8.1.3.6). An indefinite length takes three octets, however long the contents are: hexadecimal 80 before
-- them and 00 00 after them. The canonical length of 65,536 octets or more takes four octets or more.
abbrev pub ShortestSpelling : Type 0
ShortestSpelling = (room : ℕ) (e : Element) (xs : List ℕ)
    → IsDefiniteSpelling room e xs → AreOctets xs → length (canonical e) ≤ length xs

-- no spelling, even with indefinite lengths, is shorter than a canonical encoding of at most 65,535 octets
abbrev pub ShortestWithin : Type 0
ShortestWithin = (room : ℕ) (e : Element) (xs : List ℕ)
    → IsSpelling room e xs → AreOctets xs → length (canonical e) ≤ 65535 → length (canonical e) ≤ length xs

-- how the canonical encoding compares with all spellings
pub record ShortestLaws : Type 0 where
  pub one_identifier : OneIdentifier
  pub shortest_length : ShortestLength
  pub definite_is_spelling : DefiniteIsSpelling
  pub canonical_is_definite : CanonicalIsDefinite
  pub shortest_spelling : ShortestSpelling
  pub shortest_within : ShortestWithin
