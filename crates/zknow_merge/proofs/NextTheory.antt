-- What a step of a merge says.
use Rattle.std.proofs.Common.{◌≡◌, ℕ, List, [], length, Option, sym, subst}
use Rattle.std.specs.Prelude.{Result, Ok, Err, IfOk}
use Rattle.std.proofs.lemmas.List.{append-nil}
use Rattle.zknow_merge.specs.declared.merge.Merge.{Merge}
use Rattle.zknow_merge.specs.declared.step.Step.{Step}
use Rattle.zknow_merge.specs.declared.step.Step.TheVariants.{Again}
use Rattle.zknow_merge.specs.declared.source.Source.{Source}
use Rattle.zknow_merge.specs.Inputs.{Input}
use Rattle.zknow_merge.specs.Sources.{AreHeaded, IsLeastOf}
use Rattle.zknow_merge.specs.Merges.{IsMerge, IsStep, IsHandedOut, AfterNext}
use Rattle.zknow_merge.proofs.PassTheory.{all_headed}

-- nothing was handed out
pub still : (inputs : List Input) (written before : List ℕ) (step : Step) (n : Merge) → IsMerge inputs written n → IsStep inputs written step → AfterNext inputs written before step before n
still inputs written before step n merge means = record {
  handed = record {
    more = [];
    out = sym (append-nil before);
    merge = subst (λ (l : List ℕ). IsMerge inputs l n) (sym (append-nil written)) merge;
  };
  means = subst (λ (l : List ℕ). IsStep inputs l step) (sym (append-nil written)) means;
}

pub still_read : {E : Type 0} (r : Result Step E) (m n : Merge) (before : List ℕ) → IfOk r (λ step. (inputs : List Input) (written : List ℕ) → IsMerge inputs written m → IsMerge inputs written n × IsStep inputs written step) → IfOk r (λ step. (inputs : List Input) (written : List ℕ) → IsMerge inputs written m → AfterNext inputs written before step before n)
still_read (Ok step) m n before h = λ inputs written was. let x = h inputs written was in still inputs written before step n x.0 x.1
still_read (Err e) m n before h = tt

pub handed_again : (inputs : List Input) (written before after : List ℕ) (n : Merge) → IsHandedOut inputs written before after n → AfterNext inputs written before Again after n
handed_again inputs written before after n handed = record { handed = handed; means = tt }

-- the least of the facts that wait, of the sources of a merge
pub least_of : (inputs : List Input) (written : List ℕ) (m : Merge) → IsMerge inputs written m → (sources : List Source) → sources ≡ m.sources.items → (o : Option ℕ) → (AreHeaded sources → IsLeastOf sources (length sources) o) → IsLeastOf m.sources.items (length m.sources.items) o
least_of inputs written m was sources is o least =
    subst (λ (l : List Source). IsLeastOf l (length l) o) is
    (least (subst AreHeaded (sym is) (all_headed was.merged inputs m.sources.items was.read)))
