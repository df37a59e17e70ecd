-- What `serve` does with a world file, what it reports, and how it ends.
use Rattle.std.specs.Prelude.{◌≡◌, ◌⊎◌, ℕ, List, Option, None, Some, Result, Ok, Err, IfSome}
use Rattle.zmeta_world.specs.declared.world.World.{World}
use Rattle.zmeta_world.specs.declared.world.NamedTarget.{NamedTarget}
use Rattle.zmeta_world.specs.Worlds.{IsWorld, IsRefused}
use Rattle.zmeta_world.specs.InMemoryRuns.{target_named}
use Rattle.zoom.specs.Serving.{AfterServeAt}
use Rattle.zoom.specs.ServeError.{ServeError}
use Rattle.zoom.specs.ServeError.TheVariants as serves
use Rattle.zmeta_devices.specs.Faults.{as_done}
use Rattle.zmeta_devices.specs.Devices.{Device, AfterEnd}
use Rattle.zmeta_devices.specs.declared.fault.Fault.{Fault}
use Rattle.zmeta_devices.specs.declared.fault.Fault.TheVariants.{Read, Line, Serve, Memory}
use Rattle.zmeta_devices.specs.declared.fault.Status.{Status}
use Rattle.zmeta_commands.specs.declared.serve.Service.{Service}

-- what is to be served: at which address, the target of which name, of the world at which path, for so many connections
pub record Wanted : Type 0 where
  pub address : List ℕ
  pub name : List ℕ
  pub world : List ℕ
  pub count : ℕ

-- what these arguments want
abbrev pub service_of : Service → Wanted
service_of s = record { address = s.address.now; name = s.name.now; world = s.world.now; count = s.count }

-- ---- how a target is served

-- serving a target at an address for so many connections ended with this result
abbrev pub Serves : Type 1
Serves = List ℕ → NamedTarget → ℕ → Result (Unit {0}) Fault → Type 0

-- the fault for a target that cannot be served
abbrev pub of_serve : ServeError → Fault
of_serve serves.Listen = Serve
of_serve serves.Memory = Memory

-- the result of serving as one of the program
abbrev pub served_result : Result (Unit {0}) ServeError → Result (Unit {0}) Fault
served_result (Ok _) = Ok tt
served_result (Err error) = Err (of_serve error)

-- Nothing could listen at the address. Or a socket listened at it, and so many of its clients were served, each by a
-- new target of this kind, or those before the one that was refused. C is the type of the clock, and S that of streams.
abbrev pub ServedAt : (C S : Type 0) {L : Type 0} → (L → List ℕ → Type 0) → (List ℕ → Type 0) → Serves
ServedAt C S {L} IsAt IsShut address target count result = ((result ≡ Err Serve) × IsShut address)
    ⊎ ((door : L) × IsAt door address × ((served : Result (Unit {0}) ServeError) × (result ≡ served_result served)
    × AfterServeAt C L S door (record { databases = target.databases; settings = target.settings }) count served))

-- the target of the name was served; or the world has none of that name
abbrev pub ServeWorldResult : Serves → Wanted → World → Result (Unit {0}) Fault → Type 0
ServeWorldResult serves w world result = ((target_named w.name world.targets ≡ None) × (result ≡ Err Serve))
    ⊎ ((target : NamedTarget) × (target_named w.name world.targets ≡ Some target)
    × serves w.address target w.count result)

-- a fault that can end serving a target: nothing can listen, no client can be taken, or no memory was found
abbrev pub IsUnserved : Fault → Type 0
IsUnserved Serve = Unit {0}
IsUnserved Memory = Unit {0}
IsUnserved _ = ⊥

-- ---- the command

-- what was served of the world of a file
abbrev pub HasServed : Serves → Wanted → List ℕ → Result (Unit {0}) Fault → Type 0
HasServed serves w file result = (world : World) × IsWorld file world × ServeWorldResult serves w world result

-- what was served of the world of a file; or, after `Line`, its line is refused
abbrev pub ServeResult : Serves → Wanted → List ℕ → Result (Unit {0}) Fault → Type 0
ServeResult serves w file (Ok done) = HasServed serves w file (Ok done)
ServeResult serves w file (Err (Line number)) = IsRefused file number
ServeResult serves w file (Err Serve) = HasServed serves w file (Err Serve)
ServeResult serves w file (Err Memory) = Unit {0}
ServeResult serves w file (Err _) = ⊥

-- a fault that can end serving a target of the file at a path
abbrev pub IsOfService : List ℕ → Fault → Type 0
IsOfService path (Read failed) = failed.now ≡ path
IsOfService path (Line number) = Unit {0}
IsOfService path Serve = Unit {0}
IsOfService path Memory = Unit {0}
IsOfService path _ = ⊥

-- no fault ended it, or one that can
abbrev pub IsServiceEnd : List ℕ → Result (Unit {0}) Fault → Type 0
IsServiceEnd path (Ok _) = Unit {0}
IsServiceEnd path (Err fault) = IsOfService path fault

-- standard error and the status after `serve`
abbrev pub AfterServe : Serves → Wanted → Option (List ℕ) → Device → Device → Status → Type 0
AfterServe serves w file before after status = (result : Result (Unit {0}) Fault)
    × IfSome file (λ octets. ServeResult serves w octets result) × IsServiceEnd w.world result
    × AfterEnd (as_done result) before after status
