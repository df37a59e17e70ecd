-- The end of a command that asks: what it prints, reports and saves, and its status.
use Rattle.std.specs.Prelude.{◌≡◌, ◌⊎◌, ℕ, ◌+◌, ◌<◌, ◌^◌, Bool, true, false, not, ◌||◌, List, [], ◌∷◌, ◌++◌, length}
use Rattle.std.specs.Prelude.{codes, slice_get, if◌then◌else◌, Option, Some, None, Result, Ok, Err, IfSome, IfErr}
use Rattle.std.specs.Option.{unwrap_or}
use Rattle.zapdu.specs.Text.{quoted}
use Rattle.zmeta_args.specs.declared.arguments.View.{View}
use Rattle.zmarc.specs.declared.charset.Charset.{Charset}
use Rattle.zknow.specs.Known.{HasFailure}
use Rattle.zknow_stops.specs.declared.stop.Stop.{Stop}
use Rattle.zoom.specs.HostWaits.{HostWaits}
use Rattle.zoom.specs.Limits.{Limits}
use Rattle.zoom.specs.Notice.{Notice}
use Rattle.zmeta_devices.specs.Explained.{stop_line}
use Rattle.zmeta_commands.specs.Begun.{AreApart, begun_in, IsSavingFault, AfterUnbegun}
use Rattle.zmeta_commands.specs.Stops.{AreStops}
use Rattle.zmeta_offline.specs.Saved.{SaveFactsResult}
use Rattle.zmeta_offline.specs.Views.{printed}
use Rattle.zoom.specs.State.{State}
use Rattle.zoom.specs.State.TheVariants as states
use Rattle.zoom.specs.Reasons.{reason_name}
use Rattle.zoom.specs.Transcripts.{Transcript, state_at}
use Rattle.zoom.specs.PoolSteps.{IsStateAt}
use Rattle.zoom.specs.Metas.{MetaLinks, IsTranscriptValue, is_skipped, is_complete}
use Rattle.zmeta_devices.specs.Files.{Files}
use Rattle.zmeta_devices.specs.Devices.{Device, Outputs, HasGained, HasStopped, AreUnwritten, AfterTellLines, AfterReport, AfterEnd}
use Rattle.zmeta_devices.specs.declared.fault.Fault.{Fault}
use Rattle.zmeta_devices.specs.declared.fault.Fault.TheVariants.{Read, Write, Line, Memory, Query, Wanted, Syntax}
use Rattle.zmeta_devices.specs.declared.fault.Status.{Status}
use Rattle.zmeta_devices.specs.declared.fault.Status.TheVariants as statuses
use Rattle.zmeta_commands.specs.declared.failures.Told.{Told as Telling}
use Rattle.zmeta_commands.specs.declared.finished.Finished.{Finished}

-- the program's name as an origin
abbrev pub asker : List ℕ
asker = codes "zmeta"

-- the list of the facts of these connections, and why they stopped, with these limits and waiting times of hosts' own,
-- and by what was noticed of their hosts; their questions were put to these addresses, or to targets in memory. These
-- are the character sets of their records, as far as they are known.
pub record IsListed (limits : Limits) (waits : List HostWaits) (noticed : List Notice) (meta : MetaLinks)
    (names : List (List ℕ)) (addresses : List (Option (List ℕ))) (view : View)
    (charsets : List (Option Charset)) (r : Finished) : Type 0 where
  pub of : r.meta ≡ meta
  pub at : r.addresses.items ≡ addresses
  pub named : r.names ≡ names
  pub stopped : AreStops limits waits noticed meta r.stops.items
  pub list : r.list.items ≡ printed names view charsets r.stops.items meta.pool.knowledge

-- each connection has a name, and there are fewer than 2 ^ 32
pub record HasNames (r : Finished) : Type 0 where
  pub few : length r.meta.pool.connections < 2 ^ 32
  pub named : length r.names ≡ length r.meta.pool.connections

-- ---- connections that failed

-- the line of a connection in this state
abbrev pub failure_line : List ℕ → State → List ℕ
failure_line name (states.Failed reason) =
    codes "zmeta: target " ++ quoted name ++ codes ": " ++ reason_name reason ++ codes "\n"
failure_line name _ = []

-- what is told in words of connections: nothing, or why they stopped, by the addresses that the questions were put to
pub record Told : Type 0 where
  pub explains : Bool
  pub addresses : List (Option (List ℕ))
  pub stops : List (Option Stop)

-- the same, as a call takes it
abbrev pub told_at : Telling → Told
told_at t = record { explains = t.explains; addresses = t.addresses.now; stops = t.stops.now }

-- the address of a question, if it has one
abbrev pub address_at : List (Option (List ℕ)) → ℕ → Option (List ℕ)
address_at addresses c = unwrap_or (slice_get addresses c) None

-- why a connection stopped, if it did
abbrev pub stop_at : List (Option Stop) → ℕ → Option Stop
stop_at stops c = unwrap_or (slice_get stops c) None

-- the line that tells in words why a connection to the target of this name stopped, if that is to be told
abbrev pub told_line : Told → ℕ → List ℕ → List ℕ
told_line t c name = if t.explains then stop_line name (address_at t.addresses c) (stop_at t.stops c) else []

-- the lines of the connections from this number on, with the names of their targets
abbrev pub AreLinesFrom : Told → MetaLinks → ℕ → List (List ℕ) → List ℕ → Type 0
AreLinesFrom t meta c [] text = text ≡ []
AreLinesFrom t meta c (name ∷ names) text =
    (state : State) × (rest : List ℕ) × IsStateAt c meta.pool state × AreLinesFrom t meta (c + 1) names rest
    × (text ≡ (failure_line name state ++ told_line t c name) ++ rest)

-- what is told in words of finished connections
abbrev pub told_of : Bool → Finished → Told
told_of explains r = record { explains = explains; addresses = r.addresses.items; stops = r.stops.items }

-- the whole list was written, and the failed connections were reported
abbrev pub IsPrinted : Finished → Outputs → Outputs → Type 0
IsPrinted r before after = HasGained before.output after.output r.list.items
    × ((lines : List ℕ) × AreLinesFrom (told_of before.errors.explains r) r.meta 0 r.names lines
    × AfterTellLines before.errors after.errors lines)

-- a front of the list was written, and nothing was reported yet
abbrev pub IsPartlyPrinted : Finished → Outputs → Outputs → Type 0
IsPartlyPrinted r before after = HasStopped before.output after.output r.list.items × (after.errors ≡ before.errors)

-- the list was written and the failed connections were reported, or why not
abbrev pub PutFinishedResult : Finished → Outputs → Outputs → Result (Unit {0}) Fault → Type 0
PutFinishedResult r before after (Ok u) = IsPrinted r before after
PutFinishedResult r before after (Err (Write path)) = (path.now ≡ before.output.path) × IsPartlyPrinted r before after
PutFinishedResult r before after (Err Memory) = AreUnwritten before after
PutFinishedResult r before after (Err _) = ⊥

-- ---- the status

-- the connection failed
abbrev pub is_failed : State → Bool
is_failed (states.Failed reason) = true
is_failed _ = false

-- the connection with this transcript failed
abbrev pub has_failed : Transcript → Bool
has_failed p = is_failed (state_at p)

-- the connection failed, its target closed it first, or its question was not asked
abbrev pub is_troubled : Transcript → Bool
is_troubled p = has_failed p || not (is_complete p) || is_skipped p

-- the entry at an index among addresses: false only if the question was not chosen
abbrev pub is_address : Option (Option (List ℕ)) → Bool
is_address None = true
is_address (Some None) = false
is_address (Some (Some address)) = true

-- the question is chosen
abbrev pub is_asked : List (Option (List ℕ)) → ℕ → Bool
is_asked addresses c = is_address (slice_get addresses c)

-- the question is chosen and its connection has trouble
abbrev pub IsTroubledAt : List (Option (List ℕ)) → ℕ → MetaLinks → Bool → Type 0
IsTroubledAt addresses c meta true = (is_asked addresses c ≡ true) × IsTranscriptValue c meta is_troubled true
IsTroubledAt addresses c meta false = is_asked addresses c ≡ true → IsTranscriptValue c meta is_troubled false

-- some chosen question's connection has trouble
abbrev pub HasTrouble : List (Option (List ℕ)) → MetaLinks → Bool → Type 0
HasTrouble addresses meta true =
    (c : ℕ) × (c < length meta.pool.connections) × IsTroubledAt addresses c meta true
HasTrouble addresses meta false = (c : ℕ) → c < length meta.pool.connections → IsTroubledAt addresses c meta false

-- the status after connections for questions at these addresses
abbrev pub IsStatusOf : List (Option (List ℕ)) → MetaLinks → Status → Type 0
IsStatusOf addresses meta statuses.Failed = HasFailure meta.pool.knowledge ⊎ HasTrouble addresses meta true
IsStatusOf addresses meta statuses.Done = (HasFailure meta.pool.knowledge → ⊥) × HasTrouble addresses meta false
IsStatusOf addresses meta _ = ⊥

-- the status after finished connections
abbrev pub IsFinishedStatus : Finished → Status → Type 0
IsFinishedStatus r status = IsStatusOf r.addresses.items r.meta status

-- ---- saving

-- the facts were saved in the file at the path, if one is given, of a draft that was begun there; or it could not be
-- written, or no memory was found. No other file changed.
abbrev pub SaveResult : Finished → Option (List ℕ) → Files → Files → Result (Unit {0}) Fault → Type 0
SaveResult r None old new (Ok u) = new ≡ old
SaveResult r None old new (Err f) = ⊥
SaveResult r (Some path) old new result = SaveFactsResult r.names r.meta.pool.knowledge path old new result

-- ---- the end of a command

-- the status after a list that was printed, or the fault for which it was not
abbrev pub IsListEnd : Finished → Result (Unit {0}) Fault → Result Status Fault → Type 0
IsListEnd r (Ok u) (Ok status) = IsFinishedStatus r status
IsListEnd r (Ok u) (Err f) = ⊥
IsListEnd r (Err f) result = result ≡ Err f

-- The result after the list and the saved file, and standard error: a fault of the file is the result, and one of the
-- list is reported then; else a fault of the list is the result.
abbrev pub IsEndOfBoth
    : Finished → Result (Unit {0}) Fault → Result (Unit {0}) Fault → Device → Device → Result Status Fault → Type 0
IsEndOfBoth r printed (Ok u) old new result = IsListEnd r printed result × (new ≡ old)
IsEndOfBoth r printed (Err f) old new result = (result ≡ Err f) × AfterReport old new printed

-- What became of the list, and, whatever that is, of the saved file; and the result. `listed` is standard error once
-- the failed connections were reported.
pub record FinishResult (r : Finished) (saved : Option (List ℕ)) (old new : Files) (before after : Outputs)
    (result : Result Status Fault) : Type 0 where
  pub printed : Result (Unit {0}) Fault
  pub kept : Result (Unit {0}) Fault
  pub listed : Device
  pub list : PutFinishedResult r before (record after { errors = listed }) printed
  pub file : SaveResult r saved old new kept
  pub end : IsEndOfBoth r printed kept listed after.errors result

-- the folder, the streams and the status after finished connections; `between` is standard error before a fault is
-- reported
abbrev pub AfterFinished
    : Finished → Option (List ℕ) → Files → Files → Outputs → Outputs → Status → Type 0
AfterFinished r saved old new before after status = (result : Result Status Fault) × (between : Device)
    × FinishResult r saved old new before (record after { errors = between }) result
    × AfterEnd result between after.errors status

-- ---- a command that asks

-- a fault of the file at a path: a read of it failed, and its octets are not known; or no memory was found
abbrev pub IsOfFile : Option (List ℕ) → List ℕ → Fault → Type 0
IsOfFile file path (Read failed) = (failed.now ≡ path) × (file ≡ None)
IsOfFile file path Memory = Unit {0}
IsOfFile file path _ = ⊥

-- a fault of what a world file says, or of what is put to its questions
abbrev pub IsOfTexts : Fault → Type 0
IsOfTexts (Line number) = Unit {0}
IsOfTexts (Query kind at text) = Unit {0}
IsOfTexts (Wanted text) = Unit {0}
IsOfTexts (Syntax text) = Unit {0}
IsOfTexts Memory = Unit {0}
IsOfTexts _ = ⊥

-- a fault of the world file at a path: it cannot be read, a line is refused, or no memory was found
abbrev pub IsOfWorld : List ℕ → Fault → Type 0
IsOfWorld path (Read failed) = failed.now ≡ path
IsOfWorld path (Line number) = Unit {0}
IsOfWorld path Memory = Unit {0}
IsOfWorld path _ = ⊥

-- a fault of the world file at a path, or what is put to its questions is refused
abbrev pub IsOfSearchedWorld : List ℕ → Fault → Type 0
IsOfSearchedWorld path (Query kind at text) = Unit {0}
IsOfSearchedWorld path (Wanted text) = Unit {0}
IsOfSearchedWorld path (Syntax text) = Unit {0}
IsOfSearchedWorld path f = IsOfWorld path f

-- the folder, the streams and the status after the questions were asked with this result, behind the draft of the file
-- to be saved: their end, or nothing but the fault
abbrev pub AfterAsked
    : Result Finished Fault → Option (List ℕ) → Files → Files → Outputs → Outputs → Status → Type 0
AfterAsked (Ok r) saved old new before after status = AfterFinished r saved old new before after status
AfterAsked (Err f) saved old new before after status =
    (new ≡ old) × (after.output ≡ before.output) × AfterEnd (Err f) before.errors after.errors status

-- the folder, the streams and the status after a command, by the paths of the world file and the saved file, and the
-- world file's octets
abbrev pub Command : Type 1
Command = List ℕ → Option (List ℕ) → Option (List ℕ) → Files → Files → Outputs → Outputs → Status → Type 0

-- the folder, the streams and the status after a command that asks with these results, by the octets of the world file,
-- and with these faults, by its path, behind the draft of the file to be saved
abbrev pub AfterAsking : (List ℕ → Result Finished Fault → Type 0) → (List ℕ → Fault → Type 0) → Command
AfterAsking says faults world saved file old new before after status = (asked : Result Finished Fault)
    × IfSome file (λ octets. says octets asked) × IfErr asked (faults world)
    × AfterAsked asked saved old new before after status

-- the same, once the draft was begun; or it was not, and nothing was asked
abbrev pub AfterCommand : (List ℕ → Result Finished Fault → Type 0) → (List ℕ → Fault → Type 0) → Command
AfterCommand says faults world saved file old new before after status =
    AfterUnbegun (IsSavingFault old world saved) old new before after status
    ⊎ (AreApart old world saved
    × AfterAsking says faults world saved file (begun_in old saved) new before after status)
