-- The command that arguments ask for.
use Rattle.std.proofs.Common.{◌≡◌, ℕ, List, Option, Some, None, Result, Ok, Err, IfOk, IfSome, slice_get}
use Rattle.clap.specs.declared.parser.matches.Found.{Found}
use Rattle.zmeta_args.specs.declared.arguments.CommandLine.{CommandLine}
use Rattle.zmeta_args.specs.Arguments.{IsParsed, IsLineOf}

-- the second argument names the command
pub is_parsed : {E : Type 0} (arguments : List (List ℕ)) (name : List ℕ) (found : Found)
    (answer : Result (Option CommandLine) E)
    → slice_get arguments 1 ≡ Some name → IfOk answer (λ line. IfSome line (IsLineOf name found))
    → IfOk answer (λ line. IfSome line (IsParsed arguments))
is_parsed arguments name found (Ok (Some line)) stands is =
    record { name = name; found = found; stands = stands; asks = is }
is_parsed arguments name found (Ok None) stands is = tt
is_parsed arguments name found (Err e) stands is = tt
