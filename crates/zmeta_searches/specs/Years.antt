-- Years, and spans of years.
use Rattle.std.specs.Prelude.{ℕ, ◌&&◌, nat_lt, Bool, if◌then◌else◌, List, [], ◌∷◌, ◌++◌, length, Option, Some, None}
use Rattle.std.specs.Char.{is_ascii_digit}
use Rattle.std.specs.List.{list_all, list_any, before_first, after_first}
use Rattle.zmeta_searches.specs.declared.terms.Access.{Access}
use Rattle.zmeta_searches.specs.declared.terms.Access.TheVariants.{Year, Since, Until}
use Rattle.zmeta_searches.specs.Terms.{AskedTerm, asked, is_hyphen}

-- all octets are digits
abbrev pub are_digits : List ℕ → Bool
are_digits text = list_all is_ascii_digit text

-- the text is a span of years: digits, a hyphen and digits, where one side may have none
abbrev pub is_span : List ℕ → Bool
is_span text = list_any is_hyphen text && (are_digits (before_first is_hyphen text)
    && (are_digits (after_first is_hyphen text) && nat_lt 1 (length text)))

-- the years before and behind the hyphen of a span
abbrev pub span_of : List ℕ → Option (List ℕ × List ℕ)
span_of text = if is_span text then Some (before_first is_hyphen text, after_first is_hyphen text) else None

-- the term of this text, if it has octets
abbrev pub given_term : Access → List ℕ → List AskedTerm
given_term access [] = []
given_term access (octet ∷ octets) = asked access (octet ∷ octets) ∷ []

-- the terms of a year as it is, or of a span: since its first year, and until its last
abbrev pub span_terms : List ℕ → Option (List ℕ × List ℕ) → List AskedTerm
span_terms text None = asked Year text ∷ []
span_terms text (Some years) = given_term Since years.0 ++ given_term Until years.1

-- the terms of a text of a year: `1980`, `1980-1985`, `1980-` or `-1985`; any other text is asked for as it is
abbrev pub year_terms : List ℕ → List AskedTerm
year_terms text = span_terms text (span_of text)
