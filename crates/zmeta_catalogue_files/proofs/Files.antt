-- Unions of files whose octets may be known.
use Rattle.std.proofs.Common.{◌≡◌, inl, inr, refl, subst, ℕ, List, Option, Some, None, Result, Ok, Err}
use Rattle.std.specs.Prelude.{IfSome}
use Rattle.zmeta_args.specs.declared.arguments.SearchOptions.{SearchOptions}
use Rattle.zmeta_catalogues.specs.declared.catalogue.Catalogue.{Catalogue}
use Rattle.zmeta_catalogues.specs.declared.error.CatalogueError.{CatalogueError}
use Rattle.zmeta_catalogues.specs.declared.error.CatalogueError.TheVariants as errors
use Rattle.zmeta_catalogues.specs.declared.search.AskError.{AskError}
use Rattle.zmeta_catalogues.specs.Files.{AreCataloguesOf}
use Rattle.zmeta_catalogues.specs.FileErrors.{IsFileError}
use Rattle.zmeta_devices.specs.declared.fault.Fault.{Fault}
use Rattle.zmeta_devices.specs.declared.fault.Fault.TheVariants.{Read, Memory}
use Rattle.zmeta_catalogue_files.proofs.Faults.{file_fault}
use Rattle.zmeta_catalogue_files.specs.declared.refusal.UnionFault.{UnionFault}
use Rattle.zmeta_catalogue_files.specs.declared.refusal.UnionFault.TheVariants as faults
use Rattle.zmeta_catalogue_files.specs.declared.unions.Union.{Union}
use Rattle.zmeta_catalogue_files.specs.Paths.{AreOctetsOf, IsReadFault}
use Rattle.zmeta_catalogue_files.specs.Unions.{of_file, of_asking, AreAskingErrors, UnionOfResult, UnionInResult, UnionResult, IsOfUnion}

-- the fault of an error
pub union_not_asked : (options : SearchOptions) (cs : List Catalogue) (e : AskError) (f : UnionFault)
    → AreAskingErrors options cs e → f ≡ of_asking options e → UnionOfResult options cs (Err f)
union_not_asked options cs e f is of = (e, is, of)

-- the union of the catalogues of a file
pub union_made : (octets : List ℕ) (options : SearchOptions) (cs : List Catalogue) (r : Result Union UnionFault)
    → AreCataloguesOf octets cs → UnionOfResult options cs r → UnionInResult octets options r
union_made octets options cs (Ok u) are is = record { list = cs; are = are; asked = is.0; waits = is.1; charsets = is.2 }
union_made octets options cs (Err f) are is =
    inr (record { list = cs; are = are; error = is.0; of = is.1; is = is.2 })

-- the fault of a file that is refused
pub file_refused : (octets : List ℕ) (options : SearchOptions) (e : CatalogueError) (f : UnionFault)
    → IsFileError octets e → f ≡ of_file e → UnionInResult octets options (Err f)
file_refused octets options e f of is = inl (record { error = e; of = of; is = is })

read : (octets : List ℕ) (options : SearchOptions) (r : Result Union UnionFault) → UnionInResult octets options r
    → UnionResult octets options r
read octets options (Ok u) is = is
read octets options (Err f) is = inr is

-- the union of a file that was read
pub union_read : (known : Option (List ℕ)) (octets text : List ℕ) (options : SearchOptions) (r : Result Union UnionFault)
    → AreOctetsOf known octets → text ≡ octets → UnionInResult text options r
    → IfSome known (λ octets. UnionResult octets options r)
union_read None octets text options r are same is = tt
union_read (Some due) octets text options r are same is =
    read due options r (subst (λ xs. UnionInResult xs options r) are (subst (λ xs. UnionInResult xs options r) same is))

unread : (path octets : List ℕ) (options : SearchOptions) (f : Fault) → IsReadFault path f
    → UnionResult octets options (Err (faults.Fault f))
unread path octets options (Read failed) is = inl (failed, refl)
unread path octets options Memory is = inr (inl (record { error = errors.Memory; of = tt; is = refl }))
unread path octets options f is = absurd is

-- a file that cannot be read
pub union_unread : (known : Option (List ℕ)) (path : List ℕ) (options : SearchOptions) (f : Fault) → IsReadFault path f
    → IfSome known (λ octets. UnionResult octets options (Err (faults.Fault f)))
union_unread None path options f is = tt
union_unread (Some octets) path options f is = unread path octets options f is

pub union_unread_fault : (path : List ℕ) (f : Fault) → IsReadFault path f → IsOfUnion path (faults.Fault f)
union_unread_fault path (Read failed) is = is
union_unread_fault path Memory is = tt
union_unread_fault path f is = absurd is

-- the union of octets that were read, of a file, and why there is none
pub ruleset made_unions = (union_made, file_refused, file_fault)

pub ruleset read_unions = (union_read, union_unread, union_unread_fault)
