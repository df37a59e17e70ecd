-- Errors of a file, of its members and of its catalogues.
use Rattle.std.proofs.Common.{◌≡◌, List, ℕ, Bool, false, Option, Some, None, Result, Ok, Err, IfOk, sym, subst}
use Rattle.toml.specs.Data.{Data, Members, as_table}
use Rattle.toml.specs.Parse.{parse_document}
use Rattle.zmeta_catalogues.specs.declared.catalogue.Catalogue.{Catalogue}
use Rattle.zmeta_catalogues.specs.declared.error.CatalogueError.{CatalogueError}
use Rattle.zmeta_catalogues.specs.declared.error.CatalogueError.TheVariants as errors
use Rattle.zmeta_catalogues.specs.declared.fault.SettingFault.{SettingFault}
use Rattle.zmeta_catalogues.specs.declared.fault.Stop.{Stop}
use Rattle.zmeta_catalogues.specs.declared.fault.Stop.TheVariants as stops
use Rattle.zmeta_catalogues.specs.declared.words.TableKind.TheVariants as kinds
use Rattle.zmeta_catalogues.specs.Keys.{is_known}
use Rattle.zmeta_catalogues.specs.Lines.{line_of}
use Rattle.zmeta_catalogues.specs.Operands.{IsTextFaultOf, IsTextStop}
use Rattle.zmeta_catalogues.specs.Values.{Reads}
use Rattle.zmeta_catalogues.specs.Catalogues.{catalogue_of}
use Rattle.zmeta_catalogues.specs.FileErrors.{IsSettingError, IsTopError, IsStopError, IsKeysError, IsSettingFault, of_setting, of_text, IsCatalogueStop, IsTableError, IsMemberErrorIn, IsMemberError, HasMember, HasMemberError, IsDocumentError, IsTomlError, HasDocumentError, IsFileError}

-- ---- a catalogue

-- a key that is not known is an error of the table
pub keys_at : (file : List ℕ) (top : Members) (name : List ℕ) (own : Members) (e : CatalogueError)
    → IsKeysError name own e → IsTableError file top name own e
keys_at file top name own errors.ByteOrderMark h = absurd h
keys_at file top name own (errors.NotUtf8 line column) h = absurd h
keys_at file top name own (errors.Toml line column reason) h = absurd h
keys_at file top name own (errors.ForAll line fault) h = absurd h
keys_at file top name own (errors.Setting line catalogue fault) h = absurd h
keys_at file top name own (errors.UnknownAtTop line key near) h = absurd h
keys_at file top name own (errors.UnknownKey line catalogue key near) h = h
keys_at file top name own errors.EmptyName h = absurd h
keys_at file top name own errors.TooMany h = absurd h
keys_at file top name own errors.Memory h = tt

-- a setting at fault is an error of the table
pub setting_at : (file : List ℕ) (top : Members) (name : List ℕ) (own : Members) (f : SettingFault) (e : CatalogueError)
    → IsSettingFault top name (line_of file name) own f → IsSettingError name f e → IsTableError file top name own e
setting_at file top name own f errors.ByteOrderMark at h = absurd h
setting_at file top name own f (errors.NotUtf8 line column) at h = absurd h
setting_at file top name own f (errors.Toml line column reason) at h = absurd h
setting_at file top name own f (errors.ForAll line fault) at h = absurd h
setting_at file top name own f (errors.Setting line catalogue g) at h =
    (h.0, subst (λ (x : SettingFault). IsSettingFault top name (line_of file name) own x) (sym h.1) at)
setting_at file top name own f (errors.UnknownAtTop line key near) at h = absurd h
setting_at file top name own f (errors.UnknownKey line catalogue key near) at h = absurd h
setting_at file top name own f errors.EmptyName at h = absurd h
setting_at file top name own f errors.TooMany at h = absurd h
setting_at file top name own f errors.Memory at h = tt

-- a reading that stopped is an error of the table
pub stop_at : (file : List ℕ) (top : Members) (name : List ℕ) (own : Members) (stop : Stop) (e : CatalogueError)
    → IsCatalogueStop top name (line_of file name) own stop → IsStopError name stop e → IsTableError file top name own e
stop_at file top name own (stops.Fault f) e at h = setting_at file top name own f e at h
stop_at file top name own stops.Memory e at h =
    subst (λ (x : CatalogueError). IsTableError file top name own x) (sym h) tt

-- a reading that stops at a setting
pub setting_stop : (top : Members) (name : List ℕ) (line : ℕ) (own : Members) (stop : Stop)
    → Reads (catalogue_of name line own top) (Err stop) → IsCatalogueStop top name line own stop
setting_stop top name line own (stops.Fault f) h = of_setting h
setting_stop top name line own stops.Memory h = tt

-- a reading that stops at a term or the query
pub text_stop : (top : Members) (name : List ℕ) (line : ℕ) (own : Members) (c : Catalogue) (stop : Stop)
    → Reads (catalogue_of name line own top) (Ok c) → IsTextStop c.terms c.query stop
    → IsCatalogueStop top name line own stop
text_stop top name line own c (stops.Fault f) is h = of_text c is h
text_stop top name line own c stops.Memory is h = tt

-- ---- a member

-- an error of no member
apart : (file : List ℕ) (top : Members) (name : List ℕ) (own : Option Members) (e : CatalogueError)
    → (IsTopError file name e → ⊥) → ((own : Members) → IsTableError file top name own e → ⊥)
    → IsMemberErrorIn file top name own e → ⊥
apart file top name None e no_top no_table h = no_top h
apart file top name (Some own) e no_top no_table h = no_table own h

-- an error of a member is one of the document
pub member_error : (file : List ℕ) (top : Members) (name : List ℕ) (value : Data) (e : CatalogueError)
    → HasMember name value top → is_known kinds.Top name ≡ false → IsMemberError file top name value e
    → IsDocumentError file top e
member_error file top name value errors.ByteOrderMark among alone h =
    record { name = name; value = value; among = among; alone = alone; error = h }
member_error file top name value (errors.NotUtf8 line column) among alone h =
    record { name = name; value = value; among = among; alone = alone; error = h }
member_error file top name value (errors.Toml line column reason) among alone h =
    record { name = name; value = value; among = among; alone = alone; error = h }
member_error file top name value (errors.ForAll line fault) among alone h =
    absurd (apart file top name (as_table value) (errors.ForAll line fault) (λ x. x) (λ own x. x) h)
member_error file top name value (errors.Setting line catalogue fault) among alone h =
    record { name = name; value = value; among = among; alone = alone; error = h }
member_error file top name value (errors.UnknownAtTop line key near) among alone h =
    record { name = name; value = value; among = among; alone = alone; error = h }
member_error file top name value (errors.UnknownKey line catalogue key near) among alone h =
    record { name = name; value = value; among = among; alone = alone; error = h }
member_error file top name value errors.EmptyName among alone h =
    record { name = name; value = value; among = among; alone = alone; error = h }
member_error file top name value errors.TooMany among alone h =
    absurd (apart file top name (as_table value) errors.TooMany (λ x. x) (λ own x. x) h)
member_error file top name value errors.Memory among alone h = tt

-- ---- the file

-- an error of the document is one of the file
pub refused_document : (file : List ℕ) (top : Members) (e : CatalogueError) → parse_document file ≡ Some top
    → IsDocumentError file top e → IsFileError file e
refused_document file top errors.ByteOrderMark parsed h =
    absurd (apart file top h.name (as_table h.value) errors.ByteOrderMark (λ x. x) (λ own x. x) h.error)
refused_document file top (errors.NotUtf8 line column) parsed h =
    absurd (apart file top h.name (as_table h.value) (errors.NotUtf8 line column) (λ x. x) (λ own x. x) h.error)
refused_document file top (errors.Toml line column reason) parsed h =
    absurd (apart file top h.name (as_table h.value) (errors.Toml line column reason) (λ x. x) (λ own x. x) h.error)
refused_document file top (errors.ForAll line fault) parsed h =
    record { top = top; parsed = parsed; error = h }
refused_document file top (errors.Setting line catalogue fault) parsed h =
    record { top = top; parsed = parsed; error = h }
refused_document file top (errors.UnknownAtTop line key near) parsed h =
    record { top = top; parsed = parsed; error = h }
refused_document file top (errors.UnknownKey line catalogue key near) parsed h =
    record { top = top; parsed = parsed; error = h }
refused_document file top errors.EmptyName parsed h = record { top = top; parsed = parsed; error = h }
refused_document file top errors.TooMany parsed h = record { top = top; parsed = parsed; error = h }
refused_document file top errors.Memory parsed h = tt

-- octets that are no document are an error of the file
pub refused_octets : (file : List ℕ) (e : CatalogueError) → IsTomlError file e → IsFileError file e
refused_octets file errors.ByteOrderMark h = h
refused_octets file (errors.NotUtf8 line column) h = h
refused_octets file (errors.Toml line column reason) h = h
refused_octets file (errors.ForAll line fault) h = absurd h
refused_octets file (errors.Setting line catalogue fault) h = absurd h
refused_octets file (errors.UnknownAtTop line key near) h = absurd h
refused_octets file (errors.UnknownKey line catalogue key near) h = absurd h
refused_octets file errors.EmptyName h = absurd h
refused_octets file errors.TooMany h = absurd h
refused_octets file errors.Memory h = tt

-- ---- mistakes

-- what holds, whatever is returned
pub if_ok_then : {A E : Type 0} (P : A → Type 0) (Q : Type 0) (r : Result A E) → Q → IfOk r (λ x. P x → Q)
if_ok_then P Q (Ok x) h = λ _. h
if_ok_then P Q (Err e) h = tt
