-- The character reference of an octet, test by test.
use Rattle.std.proofs.Common.{ℕ, cond, List, eqb, Option, Some, None}
use Rattle.std.specs.Prelude.{codes}

abbrev pub from_apostrophe : ℕ → Option (List ℕ)
from_apostrophe x = cond (eqb x 0x27) (Some (codes "&#39;")) None

abbrev pub from_quote : ℕ → Option (List ℕ)
from_quote x = cond (eqb x 0x22) (Some (codes "&quot;")) (from_apostrophe x)

abbrev pub from_greater : ℕ → Option (List ℕ)
from_greater x = cond (eqb x 0x3E) (Some (codes "&gt;")) (from_quote x)

abbrev pub from_less : ℕ → Option (List ℕ)
from_less x = cond (eqb x 0x3C) (Some (codes "&lt;")) (from_greater x)
