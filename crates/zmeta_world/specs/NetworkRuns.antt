-- Plans for runs over the network: which questions are asked, and at which addresses.
use Rattle.std.specs.Prelude.{◌≡◌, ℕ, ◌<◌, ◌^◌, List, length, slice_get, Option, None}
use Rattle.std.specs.Option.{option_map}
use Rattle.zoom_questions.specs.Askable.{AreAskable, AreFit}
use Rattle.zmeta_world.specs.declared.world.World.{World}
use Rattle.zmeta_world.specs.declared.world.WorldError.{WorldError}
use Rattle.zmeta_world.specs.declared.world.NamedHost.{NamedHost}
use Rattle.zmeta_world.specs.declared.world.AskedQuestion.{AskedQuestion}
use Rattle.zmeta_world.specs.declared.world.End.{End}
use Rattle.zmeta_world.specs.declared.world.End.TheVariants as ends
use Rattle.zmeta_world.specs.declared.network.NetworkRun.{NetworkRun}
use Rattle.zmeta_world.specs.Worlds.{asked_names}
use Rattle.zmeta_world.specs.Finding.{questions_of, AreFound, IsFirstUnfoundLine, IsFirstUnfound}
use Rattle.zmeta_world.specs.InMemoryRuns.{settings_by}

-- the host at this end; none for a target in memory, and none at a place without a host
abbrev pub host_at : List NamedHost → End → Option NamedHost
host_at hosts (ends.Host place) = slice_get hosts place
host_at hosts (ends.Target place) = None

-- the address for a question, if the question goes to a host
abbrev pub address_for : List NamedHost → AskedQuestion → Option (List ℕ)
address_for hosts i = option_map (λ h. h.address) (host_at hosts i.end)

-- a plan for a run over the network by an origin with this name: each question, its address and its name, in order
pub record IsNetworkRun (name : List ℕ) (w : World) (e : NetworkRun) : Type 0 where
  pub questions : e.questions ≡ questions_of w.questions
  pub settings : e.settings ≡ settings_by name w
  pub addresses : AreFound (address_for w.hosts) w.questions e.addresses
  pub names : e.names ≡ asked_names w.questions
  pub few : length e.questions < 2 ^ 32
  pub askable : AreAskable e.questions
  pub fit : AreFit e.settings
  pub equal : length e.addresses ≡ length e.questions

-- the line is that of the first question that goes to no host
abbrev pub IsFirstTargetLine : List NamedHost → List AskedQuestion → ℕ → Type 0
IsFirstTargetLine hosts asked_questions line = IsFirstUnfoundLine (address_for hosts) asked_questions line

-- a refusal gives the line of the first question that goes to a target in memory
abbrev pub IsPutToTarget : World → WorldError → Type 0
IsPutToTarget w e = IsFirstUnfound (address_for w.hosts) w.questions e
