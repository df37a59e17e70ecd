-- The texts and statuses of faults.
use Rattle.std.specs.Prelude.{ℕ, List, ◌++◌, Bool, true, false, Some, None, Result, Ok, Err, codes}
use Rattle.std.specs.Borrow.{Bor}
use Rattle.std.specs.Fmt.{decimal}
use Rattle.zber.specs.Faults.{fault_kind_name}
use Rattle.zber.specs.declared.fault.FrameError.{FrameError}
use Rattle.zber.specs.declared.fault.FrameError.TheVariants as frames
use Rattle.zapdu.specs.Apdus.{apdu_kind_name}
use Rattle.zapdu.specs.declared.apdu.ApduError.{ApduError}
use Rattle.zapdu.specs.declared.apdu.ApduError.TheVariants as apdus
use Rattle.zquery.specs.BuildError.{BuildError}
use Rattle.zquery.specs.BuildError.TheVariants as builds
use Rattle.zquery.specs.declared.notation.error.PqfError.{PqfError}
use Rattle.zquery.specs.Notation.Errors.{pqf_kind_name}
use Rattle.zquery.specs.declared.notation.error.PqfErrorKind.{PqfErrorKind}
use Rattle.zquery.specs.declared.notation.error.PqfErrorKind.TheVariants as queries
use Rattle.zquery.specs.declared.notation.print.PrintError.{PrintError}
use Rattle.zquery.specs.declared.notation.print.PrintError.TheVariants as prints
use Rattle.zknow.specs.declared.saved.loading.LoadError.{LoadError}
use Rattle.zknow.specs.declared.saved.loading.LoadError.TheVariants as loads
use Rattle.zknow.specs.Saved.Refusals.{load_error_name}
use Rattle.zmeta_args.specs.declared.arguments.SearchOptions.{SearchOptions}
use Rattle.zmeta_world.specs.declared.world.WorldError.{WorldError}
use Rattle.zmeta_world.specs.declared.world.WorldError.TheVariants as worlds
use Rattle.zmeta_world.specs.declared.search.SearchError.{SearchError}
use Rattle.zmeta_world.specs.declared.search.SearchError.TheVariants as searches
use Rattle.zmeta_devices.specs.declared.fault.Fault.{Fault}
use Rattle.zmeta_devices.specs.declared.fault.Fault.TheVariants.{Read, Write, Overwrite, Hex, Frame, NotApdu, Malformed, Query}
use Rattle.zmeta_devices.specs.declared.fault.Fault.TheVariants.{NotPrintable, NotKnowledge, NotCanonical, NamesDiffer}
use Rattle.zmeta_devices.specs.declared.fault.Fault.TheVariants.{Line, Wanted, Syntax, NoQuestion, NoCatalogue, NotOid, Serve, Memory}
use Rattle.zmeta_devices.specs.declared.fault.Status.{Status}
use Rattle.zmeta_devices.specs.declared.fault.Status.TheVariants as statuses

-- the exit status
abbrev pub code_of : Status → ℕ
code_of statuses.Done = 0
code_of statuses.Failed = 1
code_of statuses.Arguments = 2
code_of statuses.Refused = 3
code_of statuses.Memory = 4

-- the text of a fault
abbrev pub fault_text : Fault → List ℕ
fault_text (Read path) = codes "cannot read " ++ path.now
fault_text (Write path) = codes "cannot write " ++ path.now
fault_text (Overwrite path) = codes "would overwrite " ++ path.now
fault_text Hex = codes "hex refused"
fault_text (Frame kind at) = fault_kind_name kind ++ codes " at " ++ decimal at
fault_text NotApdu = codes "not an APDU"
fault_text (Malformed kind at) = apdu_kind_name kind ++ codes " malformed at " ++ decimal at
fault_text (Query kind at text) = pqf_kind_name kind ++ codes " at " ++ decimal at
fault_text NotPrintable = codes "not printable"
fault_text (NotKnowledge path at) =
    codes "knowledge refused: " ++ load_error_name (loads.NotKnowledge at) ++ codes " at " ++ decimal at
fault_text (NotCanonical path at) =
    codes "knowledge refused: " ++ load_error_name (loads.NotCanonical at) ++ codes " at " ++ decimal at
fault_text NamesDiffer = codes "names differ"
fault_text (Line number) = codes "line " ++ decimal number ++ codes " refused"
fault_text (Wanted text) = codes "--records refused"
fault_text (Syntax text) = codes "--syntax refused"
fault_text (NoQuestion name) = codes "no question " ++ name.now
fault_text (NoCatalogue name) = codes "no catalogue " ++ name.now
fault_text (NotOid text) = codes "no OID " ++ text.now
fault_text Serve = codes "cannot serve"
fault_text Memory = codes "out of memory"

-- the fault for a framing error
abbrev pub of_frame : FrameError → Fault
of_frame (frames.Fault kind at) = Frame kind at
of_frame frames.Memory = Memory

-- the fault for an error of an APDU
abbrev pub of_apdu : ApduError → Fault
of_apdu apdus.NotApdu = NotApdu
of_apdu (apdus.Malformed kind at) = Malformed kind at
of_apdu apdus.Memory = Memory

-- the fault for an error of the prefix notation at this octet
abbrev pub of_kind : PqfErrorKind → ℕ → Fault
of_kind queries.Memory at = Memory
of_kind kind at = Query kind at None

-- the fault for a text that is no query
abbrev pub of_query : PqfError → Fault
of_query e = of_kind e.kind e.at

-- the fault for a query that cannot be printed
abbrev pub of_print : PrintError → Fault
of_print prints.NotPrintable = NotPrintable
of_print prints.Memory = Memory

-- the fault for a query without an element; a query read from a text always has one
abbrev pub of_build : BuildError → Fault
of_build builds.NotSpellable = NotPrintable
of_build builds.Memory = Memory

-- the fault for a saved file at a path that is refused
abbrev pub of_load : Bor (List ℕ) → LoadError → Fault
of_load path (loads.NotKnowledge at) = NotKnowledge path at
of_load path (loads.NotCanonical at) = NotCanonical path at
of_load path loads.Memory = Memory

-- the fault with the text of the query that it speaks of
abbrev pub of_text : Bor (List ℕ) → Fault → Fault
of_text text (Query kind at old) = Query kind at (Some text)
of_text text f = f

-- the fault of a search with the text of the option that it speaks of
abbrev pub of_options : SearchOptions → Fault → Fault
of_options s (Query kind at old) = Query kind at s.query
of_options s (Wanted old) = Wanted s.records
of_options s (Syntax old) = Syntax s.syntax
of_options s f = f

-- the fault for a world file that is refused
abbrev pub of_world : WorldError → Fault
of_world (worlds.Refused line) = Line line
of_world worlds.Memory = Memory

-- the fault for a search that cannot be put to the questions
abbrev pub of_search : SearchError → Fault
of_search (searches.Query kind at) = Query kind at None
of_search searches.Records = Wanted None
of_search searches.Syntax = Syntax None
of_search searches.Memory = Memory

-- the status of a command that a fault stopped
abbrev pub status_of : Fault → Status
status_of Memory = statuses.Memory
status_of _ = statuses.Refused

-- the status after a call of standard error failed: `Memory` comes before `Refused`, and `Refused` before the others
abbrev pub refused_status : Status → Status
refused_status statuses.Memory = statuses.Memory
refused_status _ = statuses.Refused

-- the status of a command that did its work, by whether standard error failed
abbrev pub own_status : Bool → Status → Status
own_status false status = status
own_status true status = refused_status status

-- the status of a command: that of the fault that stopped it, or its own
abbrev pub end_status : Bool → Result Status Fault → Status
end_status failed (Ok status) = own_status failed status
end_status failed (Err f) = status_of f

-- the result of a command that has no other status than `Done`
abbrev pub as_done : Result (Unit {0}) Fault → Result Status Fault
as_done (Ok _) = Ok statuses.Done
as_done (Err f) = Err f
