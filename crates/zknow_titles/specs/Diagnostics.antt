-- Diagnostics in words (Z39.50-2003, 4.1: DiagRec; Appendix DIAG).
use Rattle.std.specs.Prelude.{ℕ, ℤ, ◌==◌, if◌then◌else◌, Option, Some, None, List, [], ◌∷◌, ◌++◌, codes, length}
use Rattle.std.specs.Fmt.{signed_decimal}
use Rattle.std.specs.Str.{bytes_eq}
use Rattle.zber.specs.Dotted.{dotted}
use Rattle.zapdu.specs.Text.{info_octets}
use Rattle.zapdu.specs.declared.productions.diagnostic.DefaultDiag.{DefaultDiag}
use Rattle.zapdu.specs.declared.productions.diagnostic.DiagRec.{DiagRec}
use Rattle.zapdu.specs.declared.productions.diagnostic.DiagRec.TheVariants.{Default, Ext}
use Rattle.zmarc.specs.declared.charset.Charset.TheVariants.{Utf8}
use Rattle.zmarc.specs.Charsets.{text}
use Rattle.zknow_titles.specs.Conditions.{condition_words}

-- the diagnostic set bib-1
abbrev pub bib1 : List ℕ
bib1 = 1 ∷ 2 ∷ 840 ∷ 10003 ∷ 4 ∷ 1 ∷ []

-- the standard's words behind a number, where it has words
abbrev pub behind_number : Option (List ℕ) → List ℕ
behind_number None = []
behind_number (Some words) = 0x20 ∷ text Utf8 words

-- a condition of bib-1 by its number and its words, of another set by its number and the set
abbrev pub condition_text : List ℕ → ℤ → List ℕ
condition_text set condition =
    if bytes_eq set bib1 then signed_decimal condition ++ behind_number (condition_words condition)
    else codes "condition " ++ signed_decimal condition ++ codes " of " ++ dotted set

-- additional information in brackets, nothing where it is empty
abbrev pub bracketed : List ℕ → List ℕ
bracketed info = if length info == 0 then [] else codes " (" ++ info ++ codes ")"

-- a diagnostic in the default format: its condition, then its additional information as safe text in brackets
abbrev pub default_words : DefaultDiag → List ℕ
default_words d = condition_text d.diag_set d.condition ++ bracketed (text Utf8 (info_octets d.info))

-- a diagnostic in words
abbrev pub diag_words : DiagRec → List ℕ
diag_words (Default d) = default_words d
diag_words (Ext v) = codes "diagnostic in another format"
