-- The ends of commands: what a command that asks writes and saves, help, and a target that is served.
use Rattle.std.proofs.Common.{◌≡◌, ℕ, List, Option, Some, None, Result, Ok, Err, IfSome, IfErr, inl, inr}
use Rattle.zmeta_commands.specs.Arguments.{HelpResult, IsTold}
use Rattle.zmeta_devices.specs.Devices.{Device, PutResult, PutKnownResult}
use Rattle.zmeta_world.specs.declared.world.World.{World}
use Rattle.zmeta_world.specs.Worlds.{IsWorld}
use Rattle.zmeta_commands.specs.Serve.{Serves, Wanted, ServeResult, ServeWorldResult, IsUnserved, IsServiceEnd}
use Rattle.zmeta_devices.specs.declared.fault.Fault.{Fault}
use Rattle.zmeta_devices.specs.declared.fault.Fault.TheVariants.{Write, Serve, Memory}

-- ---- help

-- the text of help was written, or a front of it
pub help_put : (known : Option (List ℕ)) (old new : Device) (text : List ℕ) (answer : Result (Unit {0}) Fault)
    → IfSome known (λ due. text ≡ due) → PutResult old new text answer → HelpResult known old new answer
help_put known old new text (Ok _) is h = (text, is, h)
help_put known old new text (Err (Write path)) is h = (h.0, (text, is, h.1))
help_put known old new text (Err Memory) is h = absurd h
help_put known old new text (Err f) is h = absurd h

-- a text was told, or the stream failed
pub told : (known : Option (List ℕ)) (old new : Device) (answer : Result (Unit {0}) Fault)
    → PutKnownResult old new known answer → IsTold known old new
told None old new answer h = tt
told (Some text) old new (Ok _) h = inr (record { written = h.0; path = h.1; sound = h.2; explains = h.3 })
told (Some text) old new (Err (Write path)) h = inl h.1
told (Some text) old new (Err f) h = absurd h

-- ---- a target that is served

-- only some faults end it
pub service_end : (path : List ℕ) (answer : Result (Unit {0}) Fault) → IfErr answer IsUnserved → IsServiceEnd path answer
service_end path (Ok done) end = tt
service_end path (Err Serve) end = tt
service_end path (Err Memory) end = tt
service_end path (Err f) end = absurd end

-- the result if a file has the world
serves_at : (w : Wanted) (how : Serves) (octets : List ℕ) (world : World) (answer : Result (Unit {0}) Fault)
    → IsWorld octets world → ServeWorldResult how w world answer → IfErr answer IsUnserved
    → ServeResult how w octets answer
serves_at w how octets world (Ok done) says told end = (world, says, told)
serves_at w how octets world (Err Serve) says told end = (world, says, told)
serves_at w how octets world (Err Memory) says told end = tt
serves_at w how octets world (Err f) says told end = absurd end

pub serve_result : (w : Wanted) (how : Serves) (file : Option (List ℕ)) (world : World)
    (answer : Result (Unit {0}) Fault) → IfSome file (λ octets. IsWorld octets world)
    → ServeWorldResult how w world answer → IfErr answer IsUnserved
    → IfSome file (λ octets. ServeResult how w octets answer)
serve_result w how None world answer says told end = tt
serve_result w how (Some octets) world answer says told end = serves_at w how octets world answer says told end
