-- What `new` prints for two saved files, and the records that `records` takes of what is new.
use Rattle.std.specs.Prelude.{◌≡◌, ◌⊎◌, ℕ, List, [], ◌++◌, length, codes, Option, Result, Ok, Err}
use Rattle.std.specs.Fmt.{decimal}
use Rattle.zber.specs.declared.text.Mode.TheVariants as modes
use Rattle.zknow.specs.declared.fact.Fact.{Fact}
use Rattle.zknow.specs.Known.{HasFailure}
use Rattle.zknow_changes.specs.declared.between.Change.{Change}
use Rattle.zknow_changes.specs.declared.between.ChangeKind.{ChangeKind}
use Rattle.zknow_changes.specs.declared.between.ChangeKind.TheVariants as kinds
use Rattle.zknow_changes.specs.Changes.{AreChanges}
use Rattle.zknow_changes.specs.Lists.{kind_name, change_list}
use Rattle.zknow_changes.specs.Parts.{count_part, IsPart}
use Rattle.zknow_html.specs.Page.{change_page}
use Rattle.zknow_json.specs.Changes.{change_lines}
use Rattle.zmeta_args.specs.declared.arguments.View.{View}
use Rattle.zmeta_args.specs.declared.arguments.View.TheVariants.{Text, Hex, Titles, Fields, Json, Html}
use Rattle.zmeta_devices.specs.Devices.{Device, Outputs, IsUnchanged, HasGained, PutFailure, AfterEnd}
use Rattle.zmeta_devices.specs.declared.fault.Fault.{Fault}
use Rattle.zmeta_devices.specs.declared.fault.Fault.TheVariants.{Write, Memory}
use Rattle.zmeta_devices.specs.declared.fault.Status.{Status}
use Rattle.zmeta_devices.specs.declared.fault.Status.TheVariants as statuses
use Rattle.zmeta_offline.specs.Join.{IsSavedAt, IsFaultAt}
use Rattle.zmeta_offline.specs.Views.{printed}

-- ---- the text

-- how many changes are of a kind
abbrev pub count_text : ChangeKind → List Change → List ℕ
count_text kind changes = decimal (count_part kind changes) ++ codes " " ++ kind_name kind ++ codes "\n"

-- the changes of one kind were appended: how many they are, and their facts as a view shows them
pub record HasPart (view : View) (kind : ChangeKind) (names : List (List ℕ)) (changes : List Change)
    (old new : List ℕ) : Type 0 where
  pub facts : List Fact
  pub are : IsPart kind changes facts
  pub appended : new ≡ old ++ count_text kind changes ++ printed names view [] [] facts

-- The changes of each kind were appended. `earlier` and `later` are the names of the two files; what is gone stands in
-- the earlier one.
pub record HasParts (view : View) (earlier later : List (List ℕ)) (changes : List Change) (old new : List ℕ)
    : Type 0 where
  pub one : List ℕ
  pub two : List ℕ
  pub is_new : HasPart view kinds.New later changes old one
  pub is_changed : HasPart view kinds.Changed later changes one two
  pub is_gone : HasPart view kinds.Gone earlier changes two new

-- the page of the changes was appended
pub record HasPage (heading : List ℕ) (earlier later : List (List ℕ)) (changes : List Change) (old new : List ℕ)
    : Type 0 where
  pub fresh : List Fact
  pub changed : List Fact
  pub gone : List Fact
  pub is_new : IsPart kinds.New changes fresh
  pub is_changed : IsPart kinds.Changed changes changed
  pub is_gone : IsPart kinds.Gone changes gone
  pub appended : new ≡ old ++ change_page heading earlier later fresh changed gone

-- the text that a view has of changes: a list, lines of JSON, a part for each kind, or a page
abbrev pub IsChangesText : View → List (List ℕ) → List (List ℕ) → List Change → List ℕ → Type 0
IsChangesText Text earlier later changes text = text ≡ change_list earlier later modes.Text changes
IsChangesText Hex earlier later changes text = text ≡ change_list earlier later modes.Hex changes
IsChangesText Json earlier later changes text = text ≡ change_lines earlier later changes
IsChangesText Titles earlier later changes text = HasParts Titles earlier later changes [] text
IsChangesText Fields earlier later changes text = HasParts Fields earlier later changes [] text
IsChangesText (Html heading) earlier later changes text = HasPage heading.now earlier later changes [] text

-- ---- two files

-- the status for the facts of two files: whether a search or an association failed
abbrev pub IsStatusOfBoth : List Fact → List Fact → Status → Type 0
IsStatusOfBoth earlier later statuses.Failed = HasFailure earlier ⊎ HasFailure later
IsStatusOfBoth earlier later statuses.Done = (HasFailure earlier → ⊥) × (HasFailure later → ⊥)
IsStatusOfBoth earlier later _ = ⊥

module _ (octets : List ℕ → Option (List ℕ)) (earlier later : List ℕ) where
  -- the files at these paths are saved files of these names and facts
  pub record AreTwoFiles (earlier_names : List (List ℕ)) (before : List Fact) (later_names : List (List ℕ))
      (after : List Fact) : Type 0 where
    pub first : IsSavedAt octets earlier earlier_names before
    pub second : IsSavedAt octets later later_names after

  -- the first file is refused; or it is a saved file, and the second is refused
  abbrev pub IsOneRefused : Fault → Type 0
  IsOneRefused f = IsFaultAt octets earlier f
      ⊎ ((names : List (List ℕ)) × (facts : List Fact) × IsSavedAt octets earlier names facts
      × IsFaultAt octets later f)

  -- the facts and names of both files, or why one is refused
  abbrev pub LoadTwoResult
      : Result ((List Fact × List (List ℕ)) × (List Fact × List (List ℕ))) Fault → Type 0
  LoadTwoResult (Ok r) = AreTwoFiles r.0.1 r.0.0 r.1.1 r.1.0
  LoadTwoResult (Err f) = IsOneRefused f

  -- the text of what changed from the first file to the second, and the status
  pub record IsNewText (view : View) (text : List ℕ) (status : Status) : Type 0 where
    pub earlier_names : List (List ℕ)
    pub before : List Fact
    pub later_names : List (List ℕ)
    pub after : List Fact
    pub files : AreTwoFiles earlier_names before later_names after
    pub changes : List Change
    pub are : AreChanges earlier_names before later_names after changes
    pub is : IsChangesText view earlier_names later_names changes text
    pub status_is : IsStatusOfBoth before after status

  -- ---- the command

  -- the result of `new`: the text was written, a front of it if the stream failed, or nothing if a file is refused or
  -- no memory was found
  abbrev pub NewResult : View → Device → Device → Result Status Fault → Type 0
  NewResult view old new (Ok status) = (text : List ℕ) × IsNewText view text status × HasGained old new text
  NewResult view old new (Err (Write failed)) =
      (text : List ℕ) × (status : Status) × IsNewText view text status × PutFailure old new text (Write failed)
  NewResult view old new (Err Memory) = IsUnchanged old new
  NewResult view old new (Err f) = IsOneRefused f × IsUnchanged old new

  -- the streams and the status after `new`
  abbrev pub AfterNew : View → Outputs → Outputs → Status → Type 0
  AfterNew view before after status = (result : Result Status Fault)
      × NewResult view before.output after.output result × AfterEnd result before.errors after.errors status
