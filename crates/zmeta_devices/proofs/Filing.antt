-- Drafts and logs that gained octets, and were kept or ended.
use Rattle.std.proofs.Common.{◌≡◌, ◌∙◌, inl, refl, sym, ap, subst, ℕ, Bool, List, [], ◌∷◌, ◌++◌, is_some, Option, Some, None, IfSome, Result, Ok, Err}
use Rattle.std.specs.Io.KnownBytes.{Appends}
use Rattle.std.proofs.lemmas.List.Elements.{Contains-append_left, Contains-append_right}
use Rattle.zknow.specs.Tables.DistinctLaws.{in_head}
use Rattle.zmeta_devices.specs.Files.{Files, FileStep, FileSteps, with_step, WasTaken, IsAt, HasMade, IfKnown, IsMade, IsDraft, with_draft, DraftResult, IsKept, KeepResult, LogResult, CloseResult}
use Rattle.zmeta_devices.specs.Files.FileStep.{drafted, kept, closed}

-- ---- steps

-- a step that was taken stays
pub taken_later : (steps : FileSteps) (step next : FileStep) → WasTaken steps step → WasTaken (with_step steps next) step
taken_later None step next taken = tt
taken_later (Some known) step next taken = Contains-append_left known (next ∷ []) step taken

-- the last step was taken
pub taken_last : (steps : FileSteps) (step : FileStep) → WasTaken (with_step steps step) step
taken_last None step = tt
taken_last (Some known) step = Contains-append_right known (step ∷ []) step (in_head step [])

-- the steps are known as before
pub known_later : (steps : FileSteps) (step : FileStep) → is_some (with_step steps step) ≡ is_some steps
known_later None step = refl
known_later (Some known) step = refl

-- the steps behind a file that was made
pub made_steps : (old new : Files) (path octets : List ℕ) (step : FileStep) → IsMade old new path octets step
    → new.steps ≡ with_step old.steps step
made_steps old new path octets step made = by old.steps refl made.has
  where
    by : (steps : FileSteps) → old.steps ≡ steps → IfKnown steps (HasMade old new path octets step)
        → new.steps ≡ with_step old.steps step
    by None is has = made.at.unknown is ∙ sym (ap (λ z. with_step z step) is)
    by (Some known) is has = has.0

-- ---- contents

-- what was begun with nothing holds what it gained, where that is known
pub held : (steps : FileSteps) (start contents : Option (List ℕ)) (octets : List ℕ) → IsDraft steps start
    → Appends start contents octets → is_some steps ≡ Bool.true → contents ≡ Some octets
held None start contents octets draft gained known = cc
held (Some steps) start (Some all) octets draft gained known =
    ap Some (subst (λ z. Appends z (Some all) octets) draft gained)
held (Some steps) start None octets draft gained known = absurd (subst (λ z. Appends z None octets) draft gained)

-- a file of octets that are known is made
pub made_of : (old new : Files) (path octets : List ℕ) (contents : Option (List ℕ)) (step : List ℕ → FileStep)
    → (is_some old.steps ≡ Bool.true → contents ≡ Some octets) → IsAt old new path
    → IfSome contents (λ all. HasMade old new path all (step all)) → IsMade old new path octets (step octets)
made_of old new path octets contents step holds at has = record { at = at; has = by old.steps holds }
  where
    by : (steps : FileSteps) → (is_some steps ≡ Bool.true → contents ≡ Some octets)
        → IfKnown steps (HasMade old new path octets (step octets))
    by None holds = tt
    by (Some known) holds = subst (λ z. IfSome z (λ all. HasMade old new path all (step all))) (holds refl) has

-- a draft that gained octets since it was begun was kept
pub draft_kept : (old new : Files) (path octets : List ℕ) (start contents : Option (List ℕ))
    → IsDraft old.steps start → Appends start contents octets → IsAt old new path
    → IfSome contents (λ all. HasMade old new path all (kept path all)) → IsKept old new path octets
draft_kept old new path octets start contents draft gained at has =
    made_of old new path octets contents (kept path) (held old.steps start contents octets draft gained) at has

-- a draft that was begun was taken
pub draft_taken : (old new : Files) (path : List ℕ) → new ≡ with_draft old path → WasTaken new.steps (drafted path)
draft_taken old new path is =
    subst (λ (z : Files). WasTaken z.steps (drafted path)) (sym is) (taken_last old.steps (drafted path))

-- ---- a folder of which nothing is known

abbrev pub unknown : Files
unknown = record { octets = λ path. None; are_one = λ one other. None; steps = None }

at_unknown : (path : List ℕ) → IsAt unknown unknown path
at_unknown path = record { elsewhere = λ other apart. refl; same = refl; unknown = λ h. refl }

made_unknown : (path : List ℕ) (contents : Option (List ℕ)) (step : List ℕ → FileStep)
    → IfSome contents (λ octets. HasMade unknown unknown path octets (step octets))
made_unknown path None step = tt
made_unknown path (Some octets) step = (refl, tt)

pub draft_unknown : {D E : Type 0} (path : List ℕ) (result : Result D E) → DraftResult unknown unknown path result
draft_unknown path (Ok draft) = refl
draft_unknown path (Err error) = refl

pub keep_unknown : {E : Type 0} (path : List ℕ) (contents : Option (List ℕ)) (result : Result (Unit {0}) E)
    → KeepResult unknown unknown path contents result
keep_unknown path contents (Ok u) = (at_unknown path, made_unknown path contents (kept path))
keep_unknown path contents (Err error) = refl

pub log_unknown : {L E : Type 0} (path : List ℕ) (result : Result L E) → LogResult unknown unknown path result
log_unknown path (Ok log) = record { at = at_unknown path; steps = refl }
log_unknown path (Err error) = refl

pub close_unknown : {E : Type 0} (path : List ℕ) (contents : Option (List ℕ)) (result : Result (Unit {0}) E)
    → CloseResult unknown unknown path contents result
close_unknown path contents (Ok u) = (at_unknown path, made_unknown path contents (closed path))
close_unknown path contents (Err error) = inl refl
