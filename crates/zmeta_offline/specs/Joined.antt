-- What `join` prints for files that are read more than once: a list, lines of JSON, or a view for readers.
use Rattle.std.specs.Prelude.{◌≡◌, ◌⊎◌, ℕ, List, [], ◌∷◌, ◌++◌, map, string_bytes, Contains, Option, Some, None, Result, Ok, Err, ⊤}
use Rattle.zber.specs.declared.text.Mode.TheVariants as modes
use Rattle.zknow.specs.declared.fact.Fact.{Fact}
use Rattle.zknow.specs.declared.tables.keys.SetKey.{SetKey}
use Rattle.zknow_forms.specs.declared.form.Form.{Form}
use Rattle.zknow_forms.specs.declared.form.Form.TheVariants as forms
use Rattle.zknow_runs.specs.Rows.{Sources}
use Rattle.zknow_runs.specs.declared.rows.Chosen.{Chosen}
use Rattle.zknow_runs.specs.declared.run.Run.{Run}
use Rattle.zknow_titles.specs.Names.{shown_names}
use Rattle.zknow_titles.specs.Parts.{title_top, title_rows}
use Rattle.zknow_titles.specs.declared.rows.Widths.{Widths}
use Rattle.zknow_titles.specs.declared.wholes.Extent.{Extent}
use Rattle.zknow_titles.specs.declared.wholes.Extent.TheVariants as extents
use Rattle.zmeta_args.specs.declared.arguments.View.{View}
use Rattle.zmeta_args.specs.declared.arguments.View.TheVariants.{Text, Hex, Titles, Fields, Json, Html}
use Rattle.zmeta_devices.specs.Devices.{Device, Outputs, PutFailure, AfterEnd}
use Rattle.zmeta_devices.specs.declared.fault.Fault.{Fault}
use Rattle.zmeta_devices.specs.declared.fault.Fault.TheVariants.{Read, Write, Memory}
use Rattle.zmeta_devices.specs.declared.fault.Status.{Status}
use Rattle.zmeta_offline.specs.Join.{AreJoined, IsRefusedAmong, IsListOf, JoinResult}
use Rattle.zmeta_offline.specs.Marked.{AreMarked, HasUnknown}
use Rattle.zmeta_offline.specs.Rows.{IsMissedRead, IsMeasured, IsOfRuns}
use Rattle.zmeta_offline.specs.Streamed.{HasGainedFront}
use Rattle.zmeta_offline.specs.declared.joined.PartedView.{PartedView}
use Rattle.zmeta_offline.specs.declared.joined.PartedView.TheVariants as parts
use Rattle.zmeta_offline.specs.declared.scanned.Marked.{Marked}
use Rattle.zmeta_offline.specs.declared.scanned.Noting.TheVariants.{Others}

-- ---- views that are written in parts

-- the list, lines of JSON or a view for readers, `None` for a page
abbrev pub parted : View → Option PartedView
parted Text = Some (parts.List modes.Text)
parted Hex = Some (parts.List modes.Hex)
parted Json = Some parts.Json
parted Titles = Some (parts.Readers extents.Title)
parted Fields = Some (parts.Readers extents.Whole)
parted (Html heading) = None

-- a form of its text, with these names
abbrev pub IsFormOf : List (List ℕ) → PartedView → Form → Type 0
IsFormOf names (parts.List mode) form = form ≡ forms.List names mode
IsFormOf names parts.Json form = form ≡ forms.Json names
IsFormOf names (parts.Readers extent) (forms.Titles shown of w filled) =
    (of ≡ extent) × (map string_bytes shown.items ≡ shown_names names)
IsFormOf names (parts.Readers extent) _ = ⊥

-- the columns and the numbers of positions that it has are those of facts that may be given
abbrev pub IsMeasuredForm : Chosen → Form → Sources → Type 0
IsMeasuredForm c (forms.Titles shown extent w filled) s = IsMeasured (map string_bytes shown.items) c w filled.entries s
IsMeasuredForm c _ s = ⊤

-- the form, or why records were not read
abbrev pub FormResult : (List ℕ → Option (List ℕ)) → List (List ℕ) → List Run → Chosen → List (List ℕ) → PartedView
    → Result Form Fault → Type 0
FormResult octets paths runs c names shape (Ok form) =
    IsFormOf names shape form × IsOfRuns octets paths runs c (IsMeasuredForm c form)
FormResult octets paths runs c names shape (Err f) = IsMissedRead octets paths runs c f

-- ---- the command

-- files by their paths, each with its octets if they are known
module _ (view : View) (octets : List ℕ → Option (List ℕ)) (paths : List (List ℕ)) where
  -- The text is the view for readers of the facts of all files together, but may have other columns and other numbers
  -- of positions. The octets of one of the files are not known.
  pub record IsMismeasured (facts : List Fact) (text : List ℕ) : Type 0 where
    pub unknown : HasUnknown octets paths
    pub extent : Extent
    pub shape : parted view ≡ Some (parts.Readers extent)
    pub names : List (List ℕ)
    pub joined : AreJoined octets names paths facts
    pub w : Widths
    pub filled : SetKey → ℕ
    pub is : text ≡ title_top w filled (shown_names names) [] facts ++ title_rows extent w (shown_names names) [] facts

  -- the list, as far as octets are known
  abbrev pub IsListOrSo : List Fact → List ℕ → Type 0
  IsListOrSo facts text = IsListOf octets view paths facts text ⊎ IsMismeasured facts text

  -- the list was written in part
  pub record IsListBrokenOff (old new : Device) : Type 0 where
    pub facts : List Fact
    pub text : List ℕ
    pub list : IsListOrSo facts text
    pub output : HasGainedFront old new text

  -- A view for readers does not have the columns, or the numbers of positions, that are told of the records that were
  -- written.
  abbrev pub IsOtherView : Type 0
  IsOtherView = (extent : Extent) × (parted view ≡ Some (parts.Readers extent))

  -- A file could not be read any more, or is not as it was, or no memory was found, behind a part of the list; or the
  -- stream failed at a view for readers that may have other columns.
  abbrev pub IsLateJoinFault : Device → Device → Result Status Fault → Type 0
  IsLateJoinFault old new (Ok status) = ⊥
  IsLateJoinFault old new (Err (Read path)) =
      (IsRefusedAmong octets paths (Read path) ⊎ (Contains paths path.now × IsOtherView)) × IsListBrokenOff old new
  IsLateJoinFault old new (Err (Write failed)) = (facts : List Fact) × (text : List ℕ)
      × IsMismeasured facts text × PutFailure old new text (Write failed)
  IsLateJoinFault old new (Err Memory) = IsListBrokenOff old new
  IsLateJoinFault old new (Err _) = ⊥

  -- the result of `join`, or the list was written in part
  abbrev pub StreamedJoinResult : Device → Device → Result Status Fault → Type 0
  StreamedJoinResult old new result = JoinResult view octets paths old new result ⊎ IsLateJoinFault old new result

-- the same for files of which the first pass found where records stand, if the view is of this shape
abbrev pub JoinMarkedResult : PartedView → (List ℕ → Option (List ℕ)) → List ℕ → List (List ℕ) → Marked → Device
    → Device → Result Status Fault → Type 0
JoinMarkedResult shape octets first paths m old new result =
    (others : List (List ℕ)) → paths ≡ first ∷ others → AreMarked octets (first ∷ others) [] Others m
    → (view : View) → parted view ≡ Some shape → StreamedJoinResult view octets (first ∷ others) old new result

-- the streams and the status after `join`
abbrev pub AfterJoin : View → (List ℕ → Option (List ℕ)) → List (List ℕ) → Outputs → Outputs → Status → Type 0
AfterJoin view octets paths before after status = (result : Result Status Fault)
    × StreamedJoinResult view octets paths before.output after.output result
    × AfterEnd result before.errors after.errors status
