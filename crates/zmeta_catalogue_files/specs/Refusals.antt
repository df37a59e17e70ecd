-- What is written of a file of catalogues that is refused, or of a search that its catalogues cannot be asked.
use Rattle.std.specs.Prelude.{◌≡◌, ◌⊎◌, ℕ, List, ◌++◌, codes}
use Rattle.std.specs.Fmt.{decimal}
use Rattle.std.specs.List.{flat_map}
use Rattle.zapdu.specs.Text.{quoted}
use Rattle.zquery.specs.Notation.Errors.{pqf_kind_name}
use Rattle.zmeta_catalogues.specs.Keys.{name_of}
use Rattle.zmeta_catalogues.specs.declared.search.Access.{Access}
use Rattle.zmeta_catalogues.specs.declared.search.Access.TheVariants as asked
use Rattle.zmeta_catalogues.specs.declared.search.AskError.{AskError}
use Rattle.zmeta_catalogues.specs.declared.search.AskError.TheVariants as asks
use Rattle.zmeta_devices.specs.Devices.{Device, AfterTell, AfterTellLines}
use Rattle.zmeta_devices.specs.Faults.{status_of}
use Rattle.zmeta_devices.specs.declared.fault.Fault.TheVariants.{Memory}
use Rattle.zmeta_devices.specs.declared.fault.Status.{Status}
use Rattle.zmeta_devices.specs.declared.fault.Status.TheVariants as statuses
use Rattle.zmeta_catalogue_files.specs.declared.refusal.UnionFault.{UnionFault}
use Rattle.zmeta_catalogue_files.specs.declared.refusal.UnionFault.TheVariants as faults

-- ---- lines

-- a line about the file at this path
abbrev pub file_line : List ℕ → List ℕ → List ℕ
file_line path text = codes "zmeta: " ++ path ++ codes ": " ++ text ++ codes "\n"

-- a line about the file for each of these texts
abbrev pub file_lines : List ℕ → List (List ℕ) → List ℕ
file_lines path texts = flat_map (file_line path) texts

-- the line of an error was appended; no contract says its text
abbrev pub HasErrorLine : List ℕ → List ℕ → List ℕ → Type 0
HasErrorLine path old new = (text : List ℕ) × (new ≡ old ++ file_line path text)

-- ---- texts

-- the option that gives a term
abbrev pub option_of : Access → List ℕ
option_of asked.Title = codes "--title"
option_of asked.Author = codes "--author"
option_of asked.Subject = codes "--subject"
option_of asked.Isbn = codes "--isbn"
option_of asked.Issn = codes "--issn"
option_of asked.Year = codes "--year"
option_of asked.Since = codes "--year"
option_of asked.Until = codes "--year"
option_of asked.Any = codes "--any"

-- a catalogue by its name
abbrev pub catalogue_text : List ℕ → List ℕ
catalogue_text name = codes "catalogue " ++ quoted name

-- why a search cannot be put to the catalogues
abbrev pub ask_text : AskError → List ℕ
ask_text (asks.NoSearch name) =
    catalogue_text name ++ codes " has no query of its own; give --query, --title or another"
ask_text asks.TooManyTerms = codes "more than 32 terms; give fewer"
ask_text (asks.BlankTerm access) = option_of access ++ codes " asks for nothing; give it a text that is not blank"
ask_text (asks.TermCharset name access) =
    catalogue_text name ++ codes ": its charset lacks a character of " ++ option_of access
ask_text (asks.QueryCharset name) = catalogue_text name ++ codes ": its charset lacks a character of --query"
ask_text (asks.Query kind at) = pqf_kind_name kind ++ codes " at " ++ decimal at
ask_text (asks.Setting name fault) = catalogue_text name ++ codes ": " ++ name_of fault.key ++ codes " refused"
ask_text asks.Records = codes "--records refused"
ask_text asks.Syntax = codes "--syntax refused"
ask_text asks.Memory = codes "out of memory"

-- ---- what is written

-- a line about the file was written, with such a text, unless a call of the stream failed
pub record IsLineTold (path : List ℕ) (Says : List ℕ → Type 0) (old new : Device) (status : Status) : Type 0 where
  pub text : List ℕ
  pub says : Says text
  pub told : AfterTellLines old new (file_line path text)
  pub refused : status ≡ statuses.Refused

-- no memory was found for a line, and that was told
pub record IsMemoryTold (old new : Device) (status : Status) : Type 0 where
  pub told : AfterTell old new Memory
  pub memory : status ≡ statuses.Memory

-- a line about the file was told, with such a text, or that no memory was found for it
abbrev pub AfterLine : List ℕ → (List ℕ → Type 0) → Device → Device → Status → Type 0
AfterLine path Says old new status = IsLineTold path Says old new status ⊎ IsMemoryTold old new status

-- the stream and the status after a fault was reported, by the path of the file
abbrev pub AfterUnionFault : List ℕ → UnionFault → Device → Device → Status → Type 0
AfterUnionFault path (faults.Fault f) old new status = AfterTell old new f × (status ≡ status_of f)
AfterUnionFault path (faults.Refused e) old new status = AfterLine path (λ text. Unit {0}) old new status
AfterUnionFault path (faults.Unasked e) old new status = AfterLine path (λ text. text ≡ ask_text e) old new status
