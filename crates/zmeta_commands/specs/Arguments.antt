-- What the program does with the arguments of a command line.
use Rattle.std.specs.Prelude.{◌≡◌, ◌⊎◌, ℕ, Bool, true, false, List, ◌∷◌, Option, Some, None, Result, Ok, Err, IfSome}
use Rattle.clap.specs.Words.{kind_of}
use Rattle.clap.specs.declared.error.Error.{Error}
use Rattle.clap.specs.declared.error.kind.ErrorKind.{ErrorKind}
use Rattle.clap.specs.declared.error.kind.ErrorKind.TheVariants as kinds
use Rattle.zmeta_args.specs.declared.arguments.Arguments.{Arguments}
use Rattle.zmeta_args.specs.declared.arguments.View.{View}
use Rattle.zmeta_args.specs.declared.arguments.CommandLine.{CommandLine}
use Rattle.zmeta_args.specs.declared.arguments.Arguments.TheVariants.{Show, Dialogue, Pqf, Join, New, Records, Run, Ask, Replay, Loop, Serve, Catalogues, WorldOf, CataloguesOf}
use Rattle.zmeta_args.specs.Texts.{texts_of, now_of}
use Rattle.zmeta_args.specs.Arguments.{IsParsed}
use Rattle.zoom.specs.Limits.{Limits}
use Rattle.zmeta_commands.specs.Choice.{AreLimits, manner_of}
use Rattle.zmeta_catalogue_files.specs.Conversions.{AfterWorldOf, AfterCataloguesOf}
use Rattle.zmeta_catalogue_files.specs.Listing.{AfterCatalogues}
use Rattle.zmeta_offline.specs.Join.{AfterJoinSaved}
use Rattle.zmeta_offline.specs.Joined.{AfterJoin}
use Rattle.zmeta_offline.specs.Merged.{AfterMerge}
use Rattle.zmeta_commands.specs.Loop.{AfterLoop}
use Rattle.zmeta_offline.specs.Pqf.{AfterPqf}
use Rattle.zmeta_offline.specs.New.{AfterNew}
use Rattle.zmeta_offline.specs.News.{AfterRecords}
use Rattle.zmeta_commands.specs.Run.{AfterRun}
use Rattle.zmeta_searches.specs.Searches.{search_of}
use Rattle.zmeta_commands.specs.Serve.{Serves, AfterServe}
use Rattle.zmeta_offline.specs.Show.{AfterShow}
use Rattle.zmeta_commands.specs.Dialogue.{AfterDialogue}
use Rattle.zmeta_commands.specs.Replay.{AfterReplay}
use Rattle.zmeta_commands.specs.CatalogueFiles.{AfterNamedAsk}
use Rattle.zmeta_devices.specs.Faults.{as_done}
use Rattle.zmeta_devices.specs.Files.{Files}
use Rattle.zmeta_devices.specs.Devices.{Device, Outputs, Streams, written, explaining_streams, IsUnchanged, IsBroken, HasGained, HasStopped, AfterTell, AfterEnd}
use Rattle.zmeta_devices.specs.declared.fault.Fault.{Fault}
use Rattle.zmeta_devices.specs.declared.fault.Fault.TheVariants as faults
use Rattle.zmeta_devices.specs.declared.fault.Status.{Status}
use Rattle.zmeta_devices.specs.declared.fault.Status.TheVariants as statuses

-- the folder, the streams and the status after `join` of the files at these paths: a list is printed; if a path is
-- given, a file is made there too, or, if no list is wanted, that alone is done
abbrev pub AfterJoinCall
    : View → List (List ℕ) → Option (List ℕ) → Bool → Files → Files → Outputs → Outputs → Status → Type 0
AfterJoinCall view paths None quiet old new before after status =
    (new ≡ old) × AfterJoin view old.octets paths before after status
AfterJoinCall view paths (Some saved) true old new before after status =
    (after.output ≡ before.output) × AfterMerge paths saved old new before.errors after.errors status
AfterJoinCall view paths (Some saved) false old new before after status =
    AfterJoinSaved view paths saved old new before after status

-- the folder, the streams and the status after the command, with these arguments and no others; `Stream` are the
-- streams of the system, and `serves` is how it serves a target
abbrev pub AfterCall : Type 0 → Serves → Arguments → Files → Files → Streams → Streams → Status → Type 0
AfterCall Stream serves Show old new before after status =
    (new ≡ old) × AfterShow before after status
AfterCall Stream serves (Dialogue trace only) old new before after status =
    (new ≡ old) × (after.input ≡ before.input)
    × AfterDialogue (texts_of only.items) (old.octets trace.now) trace.now (written before) (written after) status
AfterCall Stream serves (Pqf text search) old new before after status =
    (new ≡ old) × (after.input ≡ before.input)
    × AfterPqf (now_of text) search (written before) (written after) status
AfterCall Stream serves (Join first others saved quiet view) old new before after status =
    (after.input ≡ before.input) × AfterJoinCall view (first.now ∷ texts_of others.items) (now_of saved) quiet
    old new (written before) (written after) status
AfterCall Stream serves (New earlier later view) old new before after status =
    (new ≡ old) × (after.input ≡ before.input)
    × AfterNew old.octets earlier.now later.now view (written before) (written after) status
AfterCall Stream serves (Records first others since only syntax conflicts) old new before after
    status = (new ≡ old) × (after.input ≡ before.input)
    × AfterRecords
    (record { since = now_of since; only = texts_of only.items; syntax = now_of syntax; conflicts = conflicts })
    old.octets (first.now ∷ texts_of others.items) (written before) (written after) status
AfterCall Stream serves (Run world saved search view) old new before after status =
    (after.input ≡ before.input) × AfterRun (search_of search) view world.now (now_of saved) (old.octets world.now)
    old new (written before) (written after) status
AfterCall Stream serves (Ask world saved trace at_once only options search view) old new
    before after status = (after.input ≡ before.input)
    × ((limits : Limits) × AreLimits options limits
    × AfterNamedAsk (record { manner = manner_of at_once; only = texts_of only.items; limits = limits })
    options search view (now_of trace) world.now (now_of saved) (old.octets world.now) old new
    (written before) (written after) status)
AfterCall Stream serves (Replay trace saved view) old new before after status =
    (after.input ≡ before.input) × AfterReplay view trace.now (now_of saved) (old.octets trace.now) old new
    (written before) (written after) status
AfterCall Stream serves (Loop world saved search view) old new before after status =
    (after.input ≡ before.input) × AfterLoop Stream (search_of search) view world.now (now_of saved)
    (old.octets world.now) old new (written before) (written after) status
AfterCall Stream serves (Serve address name world count) old new before after status =
    (new ≡ old) × (after.input ≡ before.input) × (after.output ≡ before.output)
    × AfterServe serves (record { address = address.now; name = name.now; world = world.now; count = count })
    (old.octets world.now) before.errors after.errors status
AfterCall Stream serves (Catalogues path) old new before after status =
    (new ≡ old) × (after.input ≡ before.input)
    × AfterCatalogues path.now (old.octets path.now) (written before) (written after) status
AfterCall Stream serves (WorldOf catalogues search) old new before after status =
    (new ≡ old) × (after.input ≡ before.input)
    × AfterWorldOf catalogues.now (old.octets catalogues.now) search (written before) (written after) status
AfterCall Stream serves (CataloguesOf world) old new before after status =
    (new ≡ old) × (after.input ≡ before.input)
    × AfterCataloguesOf world.now (old.octets world.now) (written before) (written after) status

-- help was asked for
abbrev pub IsHelp : ErrorKind → Type 0
IsHelp kind = (kind ≡ kinds.DisplayHelp) ⊎ (kind ≡ kinds.DisplayVersion)

-- A text was printed whole, a front of it if the stream failed, or nothing if no memory was found. It is this text, if
-- that is known.
abbrev pub HelpResult : Option (List ℕ) → Device → Device → Result (Unit {0}) Fault → Type 0
HelpResult known old new (Ok _) = (text : List ℕ) × IfSome known (λ due. text ≡ due) × HasGained old new text
HelpResult known old new (Err (faults.Write path)) = (path.now ≡ old.path)
    × ((text : List ℕ) × IfSome known (λ due. text ≡ due) × HasStopped old new text)
HelpResult known old new (Err faults.Memory) = IsUnchanged old new
HelpResult known old new (Err _) = ⊥

-- help is printed; an error is reported only if help cannot be printed
abbrev pub AfterHelp : Option (List ℕ) → Outputs → Outputs → Status → Type 0
AfterHelp known before after status = (result : Result (Unit {0}) Fault)
    × HelpResult known before.output after.output result × AfterEnd (as_done result) before.errors after.errors status

-- the text was written, if it is known, or a call of the stream failed
abbrev pub IsTold : Option (List ℕ) → Device → Device → Type 0
IsTold known old new = IfSome known (λ text. IsBroken old new ⊎ HasGained old new text)

-- no command was run: the text is printed if it is help, and told if the arguments are wrong; or it is reported that no
-- memory was found
pub record AfterNotice (kind : ErrorKind) (known : Option (List ℕ)) (before after : Outputs) (status : Status)
    : Type 0 where
  pub memory : kind ≡ kinds.OutOfMemory
      → (status ≡ statuses.Memory) × AfterTell before.errors after.errors faults.Memory × (after.output ≡ before.output)
  pub help : IsHelp kind → AfterHelp known before after status
  pub wrong : (kind ≡ kinds.OutOfMemory → ⊥) → (IsHelp kind → ⊥) → (status ≡ statuses.Arguments)
      × (after.output ≡ before.output) × IsTold known before.errors after.errors

-- the same for an error of `clap`, whose contract does not tell its text
abbrev pub AfterUsage : Error → Outputs → Outputs → Status → Type 0
AfterUsage error before after status = AfterNotice (kind_of error) None before after status

-- arguments that are not UTF-8 are wrong, unless no memory is found
abbrev pub IsWrong : Status → Type 0
IsWrong status = (status ≡ statuses.Arguments) ⊎ (status ≡ statuses.Memory)

-- the folder, the streams and the status after the command that was parsed; or none was run, the folder is as it was,
-- and the input is unchanged
abbrev pub AfterParsed
    : Type 0 → Serves → List (List ℕ) → Result CommandLine Error → Files → Files → Streams → Streams → Status → Type 0
AfterParsed Stream serves arguments (Ok line) old new before after status =
    IsParsed arguments line × AfterCall Stream serves line.command old new (explaining_streams line.explain before)
    after status
AfterParsed Stream serves arguments (Err error) old new before after status =
    (new ≡ old) × (after.input ≡ before.input) × AfterUsage error (written before) (written after) status

-- the folder, the streams and the status after a call of the program with these arguments
abbrev pub AfterArguments
    : Type 0 → Serves → List (List ℕ) → Files → Files → Streams → Streams → Status → Type 0
AfterArguments Stream serves arguments old new before after status =
    (asked : Result CommandLine Error) × AfterParsed Stream serves arguments asked old new before after status
