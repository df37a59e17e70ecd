-- A production that fails at a step, behind steps that went well.
use Rattle.std.proofs.Common.{◌≡◌, List, [], ◌∷◌, Option, Result, Ok, Err, refl, subst}
use Rattle.zber.specs.AsnTags.{AsnTag}
use Rattle.zber.specs.Elements.{Element}
use Rattle.zasn_tables.specs.Reading.{◌>>=◌, optional_at}
use Rattle.zasn.specs.declared.error.PartError.{PartError}
use Rattle.zasn.specs.declared.error.PartError.TheVariants.{Misfit, Memory}
use Rattle.zasn.specs.Results.{ReadingResult, StepResult}

-- a step that went well, before one that failed
pub then_fails : {A B : Type 0} (r : Result A (List Element)) (x : A) (f : A → Result B (List Element)) (e : PartError) (left : List Element) → r ≡ Ok x → ReadingResult (f x) (Err e) left → ReadingResult (r >>= f) (Err e) left
then_fails r x f Misfit left is h = rw is h
then_fails r x f Memory left is h = tt

-- the step that failed
pub fails_now : {A B : Type 0} (r : Result A (List Element)) (f : A → Result B (List Element)) (e : PartError) (left : List Element) → ReadingResult r (Err e) left → ReadingResult (r >>= f) (Err e) left
fails_now r f Misfit left h = rw h refl
fails_now r f Memory left h = tt

-- the same of a step that takes one element
pub takes_fails : {A B : Type 0} (r : Result (A × List Element) (List Element)) (f : A × List Element → Result B (List Element)) (e : PartError) (left : List Element) → StepResult r (Err e) left → ReadingResult (r >>= f) (Err e) left
takes_fails r f Misfit left h = rw h refl
takes_fails r f Memory left h = tt

-- the same of a place that may be left out, under a tag that is known by an equation
pub optional_fails : {A B : Type 0} (t u : AsnTag) (meaning : Element → Option A) (ns : List Element) (f : Option A × List Element → Result B (List Element)) (e : PartError) (left : List Element) → t ≡ u
    → StepResult (optional_at (t ∷ []) meaning ns) (Err e) left → ReadingResult (optional_at (u ∷ []) meaning ns >>= f) (Err e) left
optional_fails t u meaning ns f e left is h =
    takes_fails (optional_at (u ∷ []) meaning ns) f e left (subst (λ (v : AsnTag). StepResult (optional_at (v ∷ []) meaning ns) (Err e) left) is h)

-- a step that went well, before whatever comes
pub then_goes : {A B : Type 0} (r : Result A (List Element)) (x : A) (f : A → Result B (List Element)) (answer : Result B (List Element)) → r ≡ Ok x → f x ≡ answer → (r >>= f) ≡ answer
then_goes r x f answer is h = rw is h
