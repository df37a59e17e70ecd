-- A query that was read from a text is printed and has an element, unless no memory is found.
use Rattle.std.proofs.Common.{◌≡◌, ℕ, List, true, false, Some, Result, Ok, Err, IfErr, IfOk, refl}
use Rattle.zber.specs.Elements.{Element}
use Rattle.zquery.specs.BuildError.{BuildError}
use Rattle.zquery.specs.BuildError.TheVariants as builds
use Rattle.zquery.specs.Results.{WritingResult, BuildResult}
use Rattle.zquery.specs.declared.notation.print.PrintError.{PrintError}
use Rattle.zquery.specs.declared.notation.print.PrintError.TheVariants as prints
use Rattle.zquery.specs.Trees.{RpnQuery}
use Rattle.zquery.specs.Notation.Printing.{printable}
use Rattle.zquery.specs.Element.Type1.{WritesQuery}
use Rattle.zquery.specs.Element.Type1Reading.{query_spelling}
use Rattle.zquery.specs.Notation.Laws.{PrintableTexts, SpellableTexts}
use Rattle.zmeta_offline.specs.Pqf.{IsQueryOf}

memory_or_no_text : (q : RpnQuery) (r : Result (Unit {0}) PrintError) → printable q ≡ true → (r ≡ Err prints.NotPrintable → printable q ≡ false) → IfErr r (λ e. e ≡ prints.Memory)
memory_or_no_text q (Ok u) is none = tt
memory_or_no_text q (Err prints.NotPrintable) is none = let other : printable q ≡ false = none refl in absurd cc
memory_or_no_text q (Err prints.Memory) is none = refl

pub printed : (q : RpnQuery) (r : Result (Unit {0}) PrintError) → PrintableTexts → ((text : List ℕ) × IsQueryOf text q) → (r ≡ Err prints.NotPrintable → printable q ≡ false) → IfErr r (λ e. e ≡ prints.Memory)
printed q r law known none = memory_or_no_text q r (law known.0 q known.1.0 known.1.1) none

memory_or_no_element : (q : RpnQuery) (r : Result Element BuildError) → ((n : Element) × WritesQuery q n) → WritingResult (WritesQuery q) r → IfErr r (λ e. e ≡ builds.Memory)
memory_or_no_element q (Ok n) some is = tt
memory_or_no_element q (Err builds.NotSpellable) some none = absurd (none some.0 some.1)
memory_or_no_element q (Err builds.Memory) some is = refl

pub built : (q : RpnQuery) (r : Result Element BuildError) → SpellableTexts → ((text : List ℕ) × IsQueryOf text q) → WritingResult (WritesQuery q) r → IfErr r (λ e. e ≡ builds.Memory)
built q r law known is = memory_or_no_element q r (law known.0 q known.1.0) is

-- the element is the one that is made of the query
pub spelled : (q : RpnQuery) (r : Result Element BuildError) → BuildResult (query_spelling q) r
    → IfOk r (λ n. query_spelling q ≡ Some n)
spelled q (Ok n) is = is
spelled q (Err e) is = tt
