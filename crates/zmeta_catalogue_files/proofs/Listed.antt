-- What `catalogues` did, by what its parts did.
use Rattle.std.proofs.Common.{◌≡◌, ◌≢◌, refl, sym, subst, ℕ, List, Option, Some, None, Result, Ok, Err, IfErr}
use Rattle.std.specs.Prelude.{IfSome}
use Rattle.zmeta_catalogues.specs.declared.catalogue.Catalogue.{Catalogue}
use Rattle.zmeta_catalogues.specs.declared.error.CatalogueError.{CatalogueError}
use Rattle.zmeta_catalogues.specs.declared.error.CatalogueError.TheVariants as errors
use Rattle.zmeta_catalogues.specs.Files.{AreCataloguesOf}
use Rattle.zmeta_catalogues.specs.FileErrors.{IsFileError}
use Rattle.zmeta_devices.specs.Devices.{Device, Outputs}
use Rattle.zmeta_devices.specs.declared.fault.Fault.{Fault}
use Rattle.zmeta_devices.specs.declared.fault.Fault.TheVariants.{Read, Write, Memory}
use Rattle.zmeta_devices.specs.declared.fault.Status.{Status}
use Rattle.zmeta_catalogue_files.specs.Lines.{catalogue_lines}
use Rattle.zmeta_catalogue_files.specs.Paths.{AreOctetsOf, IsReadFault}
use Rattle.zmeta_catalogue_files.specs.Listing.{PutTextResult, PutListResult, TellResult, AreSame, ListResult, IsListFault}

-- ---- the catalogues

lines_put : (cs : List Catalogue) (old new : Device) (r : Result Status Fault)
    → PutTextResult (catalogue_lines cs) old new r → PutListResult cs old new r
lines_put cs old new (Ok status) put = put
lines_put cs old new (Err (Write failed)) put = put
lines_put cs old new (Err Memory) put = absurd put
lines_put cs old new (Err f) put = absurd put

-- the text that was printed is that of the catalogues
pub list_put : (cs : List Catalogue) (text : List ℕ) (old new : Device) (r : Result Status Fault)
    → text ≡ catalogue_lines cs → PutTextResult text old new r → PutListResult cs old new r
list_put cs text old new r is put = lines_put cs old new r (subst (λ t. PutTextResult t old new r) is put)

pub list_fault : (path : List ℕ) (cs : List Catalogue) (old new : Device) (r : Result Status Fault)
    → PutListResult cs old new r → IfErr r (IsListFault path)
list_fault path cs old new (Ok status) put = tt
list_fault path cs old new (Err (Write failed)) put = tt
list_fault path cs old new (Err Memory) put = tt
list_fault path cs old new (Err f) put = absurd put

-- the catalogues of the file were printed
pub list_done : (path octets : List ℕ) (cs : List Catalogue) (before after : Outputs) (r : Result Status Fault)
    → AreCataloguesOf octets cs → PutListResult cs before.output after.output r → after.errors ≡ before.errors
    → ListResult path octets before after r
list_done path octets cs before after (Ok status) are put same = subst (λ s. ListResult path octets before after (Ok s))
    (sym put.0) (catalogue_lines cs, record { list = cs; are = are; text_is = refl }, put.1, same)
list_done path octets cs before after (Err (Write failed)) are put same =
    (catalogue_lines cs, record { list = cs; are = are; text_is = refl }, put, same)
list_done path octets cs before after (Err Memory) are put same = (put, same)
list_done path octets cs before after (Err f) are put same = absurd put

-- ---- the mistakes

-- the mistakes of the file were told
pub mistakes_told : (path octets : List ℕ) (error : CatalogueError) (before after : Outputs) (r : Result Status Fault)
    → IsFileError octets error → error ≢ errors.Memory → TellResult path octets before.errors after.errors r
    → after.output ≡ before.output → ListResult path octets before after r
mistakes_told path octets error before after (Ok status) is own told same =
    subst (λ s. ListResult path octets before after (Ok s)) (sym told.0)
    (record { error = error; own = own; is = is }, same, told.1)
mistakes_told path octets error before after (Err f) is own told same =
    subst (λ f. ListResult path octets before after (Err f)) (sym told.0) (same, told.1)

pub tell_fault : (path octets : List ℕ) (old new : Device) (r : Result Status Fault)
    → TellResult path octets old new r → IfErr r (IsListFault path)
tell_fault path octets old new (Ok status) told = tt
tell_fault path octets old new (Err f) told = subst (IsListFault path) (sym told.0) tt

-- ---- the file

-- the file was read
pub list_read : (known : Option (List ℕ)) (path octets text : List ℕ) (before after : Outputs)
    (r : Result Status Fault) → AreOctetsOf known octets → text ≡ octets → ListResult path text before after r
    → IfSome known (λ octets. ListResult path octets before after r)
list_read None path octets text before after r are same is = tt
list_read (Some due) path octets text before after r are same is = subst (λ xs. ListResult path xs before after r) are
    (subst (λ xs. ListResult path xs before after r) same is)

unread : (path octets : List ℕ) (before after : Outputs) (f : Fault) → IsReadFault path f → AreSame before after
    → ListResult path octets before after (Err f)
unread path octets before after (Read failed) is same = same
unread path octets before after Memory is same = same
unread path octets before after f is same = absurd is

-- the file cannot be read
pub list_unread : (known : Option (List ℕ)) (path : List ℕ) (before after : Outputs) (f : Fault) → IsReadFault path f
    → AreSame before after → IfSome known (λ octets. ListResult path octets before after (Err f))
list_unread None path before after f is same = tt
list_unread (Some octets) path before after f is same = unread path octets before after f is same

pub unread_fault : (path : List ℕ) (f : Fault) → IsReadFault path f → IsListFault path f
unread_fault path (Read failed) is = is
unread_fault path Memory is = tt
unread_fault path f is = absurd is

-- a file that was read or not, and the lines that it gives
pub ruleset list_results = (list_read, list_unread, unread_fault)

pub ruleset tell_results = (list_done, list_fault, mistakes_told, tell_fault)
