-- The lines of errors, one after the other.
use Rattle.std.proofs.Common.{◌≡◌, refl, sym, ap, subst, ◌∙◌, ℕ, ◌+◌, ◌<◌, List, [], ◌∷◌, ◌++◌, length, arith}
use Rattle.std.proofs.lemmas.List.{append-nil, length_push, flat_map_more}
use Rattle.zmeta_catalogues.specs.declared.error.CatalogueError.{CatalogueError}
use Rattle.zmeta_catalogues.specs.Mistakes.{AreMistakesOfFile}
use Rattle.zmeta_devices.specs.Devices.{Device, AfterTellLines}
use Rattle.zmeta_catalogue_files.specs.Refusals.{file_line, HasErrorLine}
use Rattle.zmeta_catalogue_files.specs.Listing.{AreToldOf, HasErrorLines, HasTold}

-- no line
pub no_errors : (path old : List ℕ) → HasErrorLines path 0 old old
no_errors path old = ([], refl, sym (append-nil old))

-- one line more
pub one_more : (path old mid new : List ℕ) (n : ℕ) → HasErrorLines path n old mid → HasErrorLine path mid new
    → HasErrorLines path (n + 1) old new
one_more path old mid new n before line = (
  before.0 ++ line.0 ∷ [],
  length_push before.0 line.0 ∙ ap (λ z. z + 1) before.1,
  line.1 ∙ ap (λ z. z ++ file_line path line.0) before.2 ∙ flat_map_more (file_line path) old before.0 line.0,
)

-- the line of this text
pub has_line : (path old new text : List ℕ) → new ≡ old ++ file_line path text → HasErrorLine path old new
has_line path old new text is = (text, is)

-- ---- every mistake

-- no mistake is listed: the error alone is told
pub one_told : (octets : List ℕ) (found all : List CatalogueError) (e : CatalogueError)
    → AreMistakesOfFile octets found → length found ≡ 0 → all ≡ found ++ e ∷ [] → AreToldOf octets (length all)
one_told octets [] all e are none is = ([], are, ap length is)
one_told octets (f ∷ fs) all e are none is = absurd (omega arith)

-- each mistake is told
pub each_told : (octets : List ℕ) (found : List CatalogueError) → AreMistakesOfFile octets found → 0 < length found
    → AreToldOf octets (length found)
each_told octets [] are some = absurd (omega arith)
each_told octets (f ∷ fs) are some = (f ∷ fs, are, refl)

-- the lines that were written are those of the errors
pub errors_told : (path octets start lines written : List ℕ) (n : ℕ) (old new : Device) → start ≡ []
    → HasErrorLines path n start lines → AreToldOf octets n → written ≡ lines → AfterTellLines old new written
    → HasTold path octets old new
errors_told path octets start lines written n old new none all each is told =
    let whole : HasErrorLines path n [] lines = subst (λ s. HasErrorLines path n s lines) none all in record {
      texts = whole.0;
      each = subst (AreToldOf octets) (sym whole.1) each;
      told = subst (AfterTellLines old new) (is ∙ whole.2) told;
    }
