-- Plans for runs in memory: which questions are asked, and of which targets.
use Rattle.std.specs.Prelude.{◌≡◌, ℕ, ◌<◌, ◌≤◌, ◌^◌, List, [], ◌∷◌, length, slice_get, find, Option, None}
use Rattle.std.specs.Option.{option_map}
use Rattle.std.specs.Str.{bytes_eq}
use Rattle.ztarget.specs.Receiving.{TargetState, new_target}
use Rattle.ztarget.specs.Searching.{entries_in}
use Rattle.zoom_questions.specs.declared.question.MetaSettings.{MetaSettings}
use Rattle.zoom_questions.specs.Askable.{AreAskable, AreFit}
use Rattle.zmeta_world.specs.declared.world.World.{World}
use Rattle.zmeta_world.specs.declared.world.WorldError.{WorldError}
use Rattle.zmeta_world.specs.declared.world.NamedTarget.{NamedTarget}
use Rattle.zmeta_world.specs.declared.world.AskedQuestion.{AskedQuestion}
use Rattle.zmeta_world.specs.declared.world.End.{End}
use Rattle.zmeta_world.specs.declared.world.End.TheVariants as ends
use Rattle.zmeta_world.specs.declared.in_memory.InMemoryRun.{InMemoryRun}
use Rattle.zmeta_world.specs.Worlds.{asked_names}
use Rattle.zoom_questions.specs.NewTargets.{AreNew}
use Rattle.zmeta_world.specs.Finding.{questions_of, AreFound, IsFirstUnfoundLine, IsFirstUnfound}

-- the settings of an origin with this name
abbrev pub settings_by : List ℕ → World → MetaSettings
settings_by name w = record { name = name; step = w.step; window = w.window }

-- each target has fewer than 2 ^ 32 records
abbrev pub AreSmall : List NamedTarget → Type 0
AreSmall [] = Unit {0}
AreSmall (t ∷ ts) = (length (entries_in t.databases) < 2 ^ 32) × AreSmall ts

-- the world can be planned: its questions can be asked under any short enough name, and its targets can be made
pub record IsFit (w : World) : Type 0 where
  pub few : length w.questions < 2 ^ 32
  pub askable : AreAskable (questions_of w.questions)
  pub settings : (name : List ℕ) → length name ≤ 2000000 → AreFit (settings_by name w)
  pub small : AreSmall w.targets

-- ---- which targets are asked

-- the target in memory at this end, if it is one
abbrev pub target_at : List NamedTarget → End → Option NamedTarget
target_at targets (ends.Target place) = slice_get targets place
target_at targets (ends.Host place) = None

-- the target has received nothing yet
abbrev pub state_of : NamedTarget → TargetState
state_of t = new_target t.databases t.settings

-- the target for a question, if the question goes to a target in memory
abbrev pub target_for : List NamedTarget → AskedQuestion → Option TargetState
target_for targets i = option_map state_of (target_at targets i.end)

-- the target with this name
abbrev pub target_named : List ℕ → List NamedTarget → Option NamedTarget
target_named name targets = find (λ t. bytes_eq name t.name) targets

-- a plan for a run in memory by an origin with this name: each question, its target and its name, in order
pub record IsInMemoryRun (name : List ℕ) (w : World) (a : InMemoryRun) : Type 0 where
  pub questions : a.questions ≡ questions_of w.questions
  pub settings : a.settings ≡ settings_by name w
  pub targets : AreFound (target_for w.targets) w.questions a.targets
  pub names : a.names ≡ asked_names w.questions
  pub moves : a.moves ≡ w.moves
  pub few : length a.questions < 2 ^ 32
  pub askable : AreAskable a.questions
  pub fit : AreFit a.settings
  pub equal : length a.targets ≡ length a.questions
  pub fresh : AreNew a.targets

-- some origin has this plan for some world
abbrev pub CanBeRun : InMemoryRun → Type 0
CanBeRun a = (name : List ℕ) × (w : World) × IsInMemoryRun name w a

-- ---- a question to a host

-- the line is that of the first question that goes to no target in memory
abbrev pub IsFirstHostLine : List NamedTarget → List AskedQuestion → ℕ → Type 0
IsFirstHostLine targets asked_questions line = IsFirstUnfoundLine (target_for targets) asked_questions line

-- a refusal gives the line of the first question that goes to a host
abbrev pub IsPutToHost : World → WorldError → Type 0
IsPutToHost w e = IsFirstUnfound (target_for w.targets) w.questions e
