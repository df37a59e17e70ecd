-- What the program does for its arguments.
use Rattle.std.proofs.Common.{◌≡◌, sym, subst, ℕ, Bool, false, List, ◌∷◌, Option, Some, Result, Ok, Err, IfOk, MatchResult}
use Rattle.std.specs.Borrow.{Bor}
use Rattle.clap.specs.declared.error.Error.{Error}
use Rattle.zmeta_devices.specs.Devices.{Outputs, Streams, written, explaining_streams}
use Rattle.zmeta_devices.specs.Files.{Files}
use Rattle.zmeta_devices.specs.declared.fault.Status.{Status}
use Rattle.zmeta_args.specs.declared.arguments.Arguments.{Arguments}
use Rattle.zmeta_args.specs.declared.arguments.CommandLine.{CommandLine}
use Rattle.zmeta_args.specs.declared.arguments.View.{View}
use Rattle.zmeta_args.specs.Arguments.{IsParsed}
use Rattle.zmeta_args.specs.Texts.{texts_of, now_of}
use Rattle.zmeta_offline.specs.Join.{AfterJoinSaved}
use Rattle.zmeta_commands.specs.Arguments.{AfterJoinCall, AfterCall, AfterParsed, AfterUsage}
use Rattle.zmeta_commands.specs.Serve.{Serves}

-- the state after the command that was parsed; `Same` says that the folder is as it was, `Kept` that the input is
pub after_parsed : (Stream : Type 0) (serves : Serves) (arguments : List (List ℕ)) (asked : Result CommandLine Error)
    (Same Kept : Type 0) (old new : Files) (before after : Streams) (status : Status)
    → IfOk asked (IsParsed arguments)
    → MatchResult asked (λ line. AfterCall Stream serves line.command old new (explaining_streams line.explain before)
    after status)
    (λ e. Same × Kept × AfterUsage e (written before) (written after) status)
    → (Same → new ≡ old) → (Kept → after.input ≡ before.input)
    → AfterParsed Stream serves arguments asked old new before after status
after_parsed Stream serves arguments (Ok asked) Same Kept old new before after status is does same kept = (is, does)
after_parsed Stream serves arguments (Err error) Same Kept old new before after status is does same kept =
    (same does.0, kept does.1, does.2)

-- the state after a command whose arguments are known
pub call_as : (Stream : Type 0) (serves : Serves) (asked known : Arguments) (old new : Files) (before after : Streams)
    (status : Status) → asked ≡ known → AfterCall Stream serves known old new before after status
    → AfterCall Stream serves asked old new before after status
call_as Stream serves asked known old new before after status is does =
    subst (λ (z : Arguments). AfterCall Stream serves z old new before after status) (sym is) does

-- `join` prints a list, and makes a file at the path that is given
pub saved_joined : (view : View) (first : List ℕ) (given others : List (Bor (List ℕ))) (saved : Option (Bor (List ℕ)))
    (quiet : Bool) (path : Bor (List ℕ)) (old new : Files) (before after : Outputs) (status : Status)
    → given ≡ others → saved ≡ Some path → quiet ≡ false
    → AfterJoinSaved view (first ∷ texts_of given) path.now old new before after status
    → AfterJoinCall view (first ∷ texts_of others) (now_of saved) quiet old new before after status
saved_joined view first given others saved quiet path old new before after status same is loud does =
    let paths : List (List ℕ) = first ∷ texts_of others in
    let done : AfterJoinSaved view paths path.now old new before after status =
    subst (λ (z : List (Bor (List ℕ))). AfterJoinSaved view (first ∷ texts_of z) path.now old new before after status)
    same does in
    let told : AfterJoinCall view paths (Some path.now) quiet old new before after status =
    subst (λ (z : Bool). AfterJoinCall view paths (Some path.now) z old new before after status) (sym loud) done in
    subst (λ (z : Option (Bor (List ℕ))). AfterJoinCall view paths (now_of z) quiet old new before after status)
    (sym is) told
