-- Every mistake of a file of catalogues.
use Rattle.std.specs.Prelude.{◌≡◌, ◌≢◌, ℕ, ◌==◌, Bool, true, false, List, [], ◌∷◌, ◌++◌, length, map, if◌then◌else◌, Option, None, Some, Result, Ok, Err, IsPermutation}
use Rattle.std.specs.List.Sorted.{IsNonDecreasingBy}
use Rattle.std.specs.Option.{option_and_then}
use Rattle.toml.specs.Data.{Data, Members, no_members, member, get_member, as_table}
use Rattle.toml.specs.Parse.{parse_document}
use Rattle.zmeta_catalogues.specs.declared.charset.Charset.{Charset}
use Rattle.zmeta_catalogues.specs.declared.error.CatalogueError.{CatalogueError}
use Rattle.zmeta_catalogues.specs.declared.error.CatalogueError.TheVariants as errors
use Rattle.zmeta_catalogues.specs.declared.fault.Key.{Key}
use Rattle.zmeta_catalogues.specs.declared.fault.Key.TheVariants as keys
use Rattle.zmeta_catalogues.specs.declared.fault.FaultKind.TheVariants as faults
use Rattle.zmeta_catalogues.specs.declared.fault.SettingFault.{SettingFault}
use Rattle.zmeta_catalogues.specs.declared.fault.Stop.{Stop}
use Rattle.zmeta_catalogues.specs.declared.fault.Stop.TheVariants as stops
use Rattle.zmeta_catalogues.specs.declared.words.TableKind.{TableKind}
use Rattle.zmeta_catalogues.specs.declared.words.TableKind.TheVariants as kinds
use Rattle.zmeta_catalogues.specs.Keys.{name_of, term_keys, is_known}
use Rattle.zmeta_catalogues.specs.Lines.{line_of}
use Rattle.zmeta_catalogues.specs.Values.{Reading, value_of, text_of, number_of, charset_of, syntax_text_of, records_of, query_of}
use Rattle.zmeta_catalogues.specs.Addresses.{address_of}
use Rattle.zmeta_catalogues.specs.Catalogues.{databases_of, text_at}
use Rattle.zmeta_catalogues.specs.Operands.{HasPrefix, HasQuery, IsGivenPrefixFault, IsGivenQueryFault}
use Rattle.zmeta_catalogues.specs.Files.{is_marked}
use Rattle.zmeta_catalogues.specs.FileErrors.{IsSettingError, IsUnknownError, IsTopError, HasMany, IsTomlError}

-- ---- lists

-- first some of these, then the others
abbrev pub AreJoined : {A : Type 0} → (List A → Type 0) → (List A → Type 0) → List A → Type 0
AreJoined {A} First Others list = (front rest : List A) × (list ≡ front ++ rest) × First front × Others rest

-- some of these were appended
abbrev pub HasAdded : {A : Type 0} → (List A → Type 0) → List A → List A → Type 0
HasAdded {A} Are old new = (added : List A) × (new ≡ old ++ added) × Are added

-- ---- settings at fault

-- the setting that this reading finds at fault, if there is one
abbrev pub fault_of : {A : Type 0} → Reading A → List SettingFault
fault_of (Ok x) = []
fault_of (Err fault) = fault ∷ []

-- the setting at fault for which a reading stopped was appended
abbrev pub HasStop : Stop → List SettingFault → List SettingFault → Type 0
HasStop (stops.Fault fault) old new = new ≡ old ++ fault ∷ []
HasStop stops.Memory old new = ⊥

-- the setting at fault was appended, if the reading stopped
abbrev pub HasFault : {A : Type 0} → Result A Stop → List SettingFault → List SettingFault → Type 0
HasFault (Ok x) old new = new ≡ old
HasFault (Err stop) old new = HasStop stop old new

-- the value of a setting in this table
abbrev pub own_value : Key → Members → Option Data
own_value key ms = get_member (name_of key) ms

-- the settings at fault of this table, of those that may stand for all
abbrev pub faults_for_all : Members → List SettingFault
faults_for_all ms =
    fault_of (syntax_text_of (own_value keys.Syntax ms))
    ++ fault_of (text_of keys.Elements (own_value keys.Elements ms))
    ++ fault_of (records_of (own_value keys.Records ms))
    ++ fault_of (number_of keys.Step 1000 (own_value keys.Step ms))
    ++ fault_of (number_of keys.Window 64 (own_value keys.Window ms))
    ++ fault_of (charset_of (own_value keys.Charset ms))
    ++ fault_of (number_of keys.Patience 3600 (own_value keys.Patience ms))
    ++ fault_of (number_of keys.Connect 3600 (own_value keys.Connect ms))

-- none of a sound text; of another, the fault
abbrev pub AreOfText : Type 0 → (SettingFault → Type 0) → List SettingFault → Type 0
AreOfText IsSound IsFault [] = IsSound
AreOfText IsSound IsFault (fault ∷ []) = IsFault fault
AreOfText IsSound IsFault (fault ∷ other ∷ others) = ⊥

-- the fault of a text that has to be sound: that of its reading, or else of the text, if there is one
abbrev pub AreFaultsOf : (Option (List ℕ) → Type 0) → (Option (List ℕ) → SettingFault → Type 0)
    → Reading (Option (List ℕ)) → List SettingFault → Type 0
AreFaultsOf IsSound IsFault (Err fault) found = found ≡ fault ∷ []
AreFaultsOf IsSound IsFault (Ok text) found = AreOfText (IsSound text) (IsFault text) found

-- the fault of a term, which has to be a prefix
abbrev pub AreTermFaults : Members → Key → List SettingFault → Type 0
AreTermFaults terms key found = AreFaultsOf HasPrefix (IsGivenPrefixFault key) (text_at key terms) found

-- the faults of these terms
abbrev pub AreTermsFaults : Members → List Key → List SettingFault → Type 0
AreTermsFaults terms [] found = found ≡ []
AreTermsFaults terms (key ∷ others) found =
    AreJoined (AreTermFaults terms key) (AreTermsFaults terms others) found

-- the faults of the terms of a catalogue, which have to be a table
abbrev pub AreFaultsIn : Option Members → List SettingFault → Type 0
AreFaultsIn None found = found ≡ record { key = keys.Terms; kind = faults.Type } ∷ []
AreFaultsIn (Some terms) found = AreTermsFaults terms term_keys found

-- the faults of the terms of a catalogue, if it has terms
abbrev pub AreOwnTermFaults : Option Data → List SettingFault → Type 0
AreOwnTermFaults None found = found ≡ []
AreOwnTermFaults (Some value) found = AreFaultsIn (as_table value) found

-- the fault of the query of a catalogue; a charset at fault is a fault of its own
abbrev pub AreQueryFaults : Reading (Option Charset) → Option Data → List SettingFault → Type 0
AreQueryFaults (Err fault) value found = found ≡ []
AreQueryFaults (Ok charset) value found = AreFaultsOf HasQuery IsGivenQueryFault (query_of charset value) found

-- the faults of the terms and the query of a catalogue
abbrev pub AreTextFaults : Members → Members → List SettingFault → Type 0
AreTextFaults own top found =
    AreJoined (AreOwnTermFaults (own_value keys.Terms own))
    (AreQueryFaults (charset_of (value_of keys.Charset own top)) (own_value keys.Query own)) found

-- the settings at fault of a catalogue with this table, in a file with this top
abbrev pub AreOwnFaults : Members → Members → List SettingFault → Type 0
AreOwnFaults own top found =
    AreJoined (λ front. front ≡ fault_of (address_of (own_value keys.Address own))
    ++ fault_of (databases_of (own_value keys.Database own)) ++ faults_for_all own) (AreTextFaults own top) found

-- ---- mistakes

-- a mistake of a file
pub data Mistake : Type 0 where
  -- this setting for all is at fault
  for_all : SettingFault → Mistake
  -- this key at the top is no setting for all, and no table
  stray : List ℕ → Mistake
  -- a catalogue has an empty name
  unnamed : Mistake
  -- a table of this kind, of the catalogue of this name, has this key, which is not known
  unknown : List ℕ → TableKind → List ℕ → Mistake
  -- this setting of the catalogue of this name is at fault
  setting : List ℕ → SettingFault → Mistake

-- the mistake of the catalogue of this name that this word is, as a key of a table of this kind, if it is not known
abbrev pub key_mistakes : List ℕ → TableKind → List ℕ → List Mistake
key_mistakes name kind word = if is_known kind word then [] else unknown name kind word ∷ []

-- the keys of a table of this kind, of the catalogue of this name, that are not known
abbrev pub unknown_keys : List ℕ → TableKind → Members → List Mistake
unknown_keys name kind no_members = []
unknown_keys name kind (member word value ms) = key_mistakes name kind word ++ unknown_keys name kind ms

-- the members, if there are some
abbrev pub members_in : Option Members → Members
members_in None = no_members
members_in (Some ms) = ms

-- the terms of a catalogue, if they are a table
abbrev pub terms_table : Members → Members
terms_table own = members_in (option_and_then as_table (own_value keys.Terms own))

-- the mistakes of the settings of the catalogue of this name
abbrev pub AreSettingMistakes : Members → List ℕ → Members → List Mistake → Type 0
AreSettingMistakes top name own mistakes =
    (found : List SettingFault) × AreOwnFaults own top found × (mistakes ≡ map (λ fault. setting name fault) found)

-- the mistakes of the catalogue of this name
abbrev pub AreCatalogueMistakes : Members → List ℕ → Members → List Mistake → Type 0
AreCatalogueMistakes top name own mistakes =
    AreJoined
    (λ front. front ≡ unknown_keys name kinds.Catalogue own ++ unknown_keys name kinds.Terms (terms_table own))
    (AreSettingMistakes top name own) mistakes

-- the mistakes of the table of a catalogue, whose name is empty or not
abbrev pub AreNamedMistakes : Bool → Members → List ℕ → Members → List Mistake → Type 0
AreNamedMistakes true top name own mistakes = mistakes ≡ unnamed ∷ []
AreNamedMistakes false top name own mistakes = AreCatalogueMistakes top name own mistakes

-- the mistakes of a value at the top, which has to be a table
abbrev pub AreValueMistakes : Members → List ℕ → Option Members → List Mistake → Type 0
AreValueMistakes top name None mistakes = mistakes ≡ stray name ∷ []
AreValueMistakes top name (Some own) mistakes = AreNamedMistakes (length name == 0) top name own mistakes

-- the mistakes of a member of the top, which is a setting for all or not
abbrev pub AreMemberMistakes : Bool → Members → List ℕ → Data → List Mistake → Type 0
AreMemberMistakes true top name value mistakes = mistakes ≡ []
AreMemberMistakes false top name value mistakes = AreValueMistakes top name (as_table value) mistakes

-- the mistakes of these members of the top
abbrev pub AreMistakesIn : Members → Members → List Mistake → Type 0
AreMistakesIn top no_members mistakes = mistakes ≡ []
AreMistakesIn top (member name value ms) mistakes =
    AreJoined (AreMemberMistakes (is_known kinds.Top name) top name value) (AreMistakesIn top ms) mistakes

-- the mistakes of a document with this top: its settings for all at fault, and those of its members
abbrev pub AreDocumentMistakes : Members → List Mistake → Type 0
AreDocumentMistakes top mistakes =
    AreJoined (λ front. front ≡ map (λ fault. for_all fault) (faults_for_all top)) (AreMistakesIn top top) mistakes

-- ---- the errors that tell them

-- the error for a mistake; no memory may be found
abbrev pub IsErrorFor : List ℕ → Mistake → CatalogueError → Type 0
IsErrorFor text (for_all fault) e = e ≡ errors.ForAll (line_of text (name_of fault.key)) fault
IsErrorFor text (stray word) e = IsTopError text word e
IsErrorFor text unnamed e = e ≡ errors.EmptyName
IsErrorFor text (unknown name kind word) e = IsUnknownError name word kind e
IsErrorFor text (setting name fault) e = IsSettingError name fault e

-- the error that tells a mistake
abbrev pub IsErrorOf : List ℕ → Mistake → CatalogueError → Type 0
IsErrorOf text mistake e = IsErrorFor text mistake e × (e ≢ errors.Memory)

-- the errors that tell these mistakes, one for each
abbrev pub AreErrorsOf : List ℕ → List Mistake → List CatalogueError → Type 0
AreErrorsOf text [] [] = Unit {0}
AreErrorsOf text (mistake ∷ others) (e ∷ es) = IsErrorOf text mistake e × AreErrorsOf text others es
AreErrorsOf text _ _ = ⊥

-- the errors that tell mistakes of this kind, one for each
abbrev pub AreErrors : List ℕ → (List Mistake → Type 0) → List CatalogueError → Type 0
AreErrors text Are told = (mistakes : List Mistake) × Are mistakes × AreErrorsOf text mistakes told

-- the line of an error, from 1; 0 if there is none
abbrev pub error_line : CatalogueError → ℕ
error_line errors.ByteOrderMark = 1
error_line (errors.NotUtf8 line column) = line
error_line (errors.Toml line column reason) = line
error_line (errors.ForAll line fault) = line
error_line (errors.Setting line catalogue fault) = line
error_line (errors.UnknownAtTop line key near) = line
error_line (errors.UnknownKey line catalogue key near) = line
error_line _ = 0

-- these errors in the order of their lines
pub record AreInLineOrder (told list : List CatalogueError) : Type 0 where
  pub same : IsPermutation told list
  pub order : IsNonDecreasingBy error_line list

-- these errors in the order of their lines; or, if there is none, the first that is met when the document is read
abbrev pub AreSorted : CatalogueError → List CatalogueError → List CatalogueError → Type 0
AreSorted first [] list = list ≡ first ∷ []
AreSorted first (e ∷ es) list = AreInLineOrder (e ∷ es) list

-- ---- the file

-- what is listed of a document by the errors of its mistakes: these in the order of their lines; without one, nothing,
-- or that there are too many catalogues
abbrev pub AreListed : List ℕ → Members → List CatalogueError → List CatalogueError → Type 0
AreListed text top [] [] = Unit {0}
AreListed text top [] (e ∷ []) = (e ≡ errors.TooMany) × HasMany text top
AreListed text top [] (e ∷ f ∷ es) = ⊥
AreListed text top (e ∷ es) list = AreInLineOrder (e ∷ es) list

-- the list of the mistakes of a document with this top: one error for each, in the order of their lines
pub record AreMistakesOf (text : List ℕ) (top : Members) (list : List CatalogueError) : Type 0 where
  pub told : List CatalogueError
  pub errors : AreErrors text (AreDocumentMistakes top) told
  pub listed : AreListed text top told list

-- the list of the mistakes of a file: why it is no document, or those of the document
pub data AreMistakesOfFile (text : List ℕ) (list : List CatalogueError) : Type 0 where
  of_octets : (e : CatalogueError) → IsTomlError text e → e ≢ errors.Memory → list ≡ e ∷ []
      → AreMistakesOfFile text list
  of_document : (top : Members) → is_marked text ≡ false → parse_document text ≡ Some top → AreMistakesOf text top list
      → AreMistakesOfFile text list
