-- A text without a hyphen.
use Rattle.std.proofs.Common.{◌≡◌, ℕ, List, length, false, arith}
use Rattle.std.specs.List.{list_any, position_or_len}
use Rattle.std.proofs.lemmas.List.Folds.{list_any_none}
use Rattle.std.proofs.lemmas.List.Sums.{fails_before_first}
use Rattle.zmeta_searches.specs.Terms.{is_hyphen}

-- a text has no hyphen if the first is behind its end
pub no_hyphen : (text : List ℕ) → position_or_len is_hyphen text ≡ length text → list_any is_hyphen text ≡ false
no_hyphen text none =
    list_any_none is_hyphen text (λ k d low. fails_before_first is_hyphen text k d (omega (arith, none, low)))
