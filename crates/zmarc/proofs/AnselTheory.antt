-- The table of the code has the characters of ANSEL.
use Rattle.std.proofs.Common.{◌≡◌, ℕ, ◌-◌, ◌<◌, ◌≤◌, map, get_or, refl, ap, ◌∙◌, arith}
use Rattle.std.specs.List.{range_with_len}
use Rattle.std.proofs.lemmas.Bool.{le-ltb}
use Rattle.std.proofs.lemmas.List.FromFn.{get_or-map-range_with_len}
use Rattle.zmarc.specs.declared.marc8.TheConstants.{ANSEL}
use Rattle.zmarc.specs.Ansel.{ansel_character}
use Rattle.zmarc.specs.Marc8.{ansel}

table_is : ANSEL ≡ map ansel_character (range_with_len 0xA0 96)
unfolding ansel_character
table_is = refl

character_at : (x : ℕ) → 0xA0 ≤ x → x < 0x100 → get_or ANSEL (x - 0xA0) 0 ≡ ansel_character x
character_at x low high =
    ap (λ t. get_or t (x - 0xA0) 0) table_is
    ∙ get_or-map-range_with_len ansel_character 0xA0 96 (x - 0xA0) x 0 (omega arith) (omega arith)

-- the table at an octet from A0 on
pub from_table : (x at : ℕ) → 0xA0 ≤ x → x < 0x100 → at ≡ x - 0xA0 → get_or ANSEL at 0 ≡ ansel x
from_table x at low high is =
    rw (le-ltb x 0xA0 low) (ap (λ n. get_or ANSEL n 0) is ∙ character_at x low high)
