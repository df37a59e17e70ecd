use Rattle.std.proofs.Common.{◌≡◌, ℕ, List, sym, ◌∙◌}
use Rattle.std.specs.Prelude.{Result, Ok, Err, is_ok, MatchResult}
use Rattle.std.specs.Str.{IsUtf8, is_utf8}
use Rattle.std.proofs.lemmas.Bool.{false_from_ne_true}
use Rattle.std.proofs.lemmas.Str.{IsUtf8-from_is_utf8, is_utf8-from_IsUtf8}
use Rattle.zmeta_conversions.proofs.strings.is_utf8.Goals as goal

told : {A B : Type 0} (P : A → Type 0) (Q : B → Type 0) (r : Result A B) (octets : List ℕ)
    → MatchResult r (λ s. P s × IsUtf8 octets) (λ e. ¬ (IsUtf8 octets) × Q e) → is_ok r ≡ is_utf8 octets
told P Q (Ok s) octets h = sym (is_utf8-from_IsUtf8 octets h.1)
told P Q (Err e) octets h =
    sym (false_from_ne_true (is_utf8 octets) (λ t. h.0 (IsUtf8-from_is_utf8 octets t)))

pub returns : goal.returns
returns c = c.is_ok.ensures.value ∙ told _ _ _ c.args.octets.now c.from_utf8.ensures.cases
