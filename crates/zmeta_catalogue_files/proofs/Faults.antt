-- What the faults of a union are of.
use Rattle.std.proofs.Common.{◌≡◌, sym, subst, ℕ, List, Result, Ok, Err, IfOk, IfErr}
use Rattle.zmeta_args.specs.declared.arguments.SearchOptions.{SearchOptions}
use Rattle.zmeta_catalogues.specs.declared.error.CatalogueError.{CatalogueError}
use Rattle.zmeta_catalogues.specs.declared.error.CatalogueError.TheVariants as errors
use Rattle.zmeta_catalogues.specs.declared.search.AskError.{AskError}
use Rattle.zmeta_catalogues.specs.declared.search.AskError.TheVariants as asks
use Rattle.zmeta_catalogues.specs.declared.catalogue.Catalogue.{Catalogue}
use Rattle.zmeta_catalogues.specs.Asked.{AskedSearch, IsAskedWorld}
use Rattle.zmeta_catalogues.specs.AskErrors.{AreAskErrors}
use Rattle.zmeta_world.specs.declared.world.World.{World}
use Rattle.zmeta_catalogue_files.specs.declared.refusal.UnionFault.{UnionFault}
use Rattle.zmeta_catalogue_files.specs.Options.{IsSearchOf}
use Rattle.zmeta_catalogue_files.specs.Unions.{of_file, of_asking, IsWorldOf, AreAskingErrors, AskedResult, IsOfUnion}

-- ---- a search of options

-- the world of the search is that of the options
pub asked_world : (options : SearchOptions) (s : AskedSearch) (cs : List Catalogue) (r : Result World AskError)
    → IsSearchOf options s → IfOk r (IsAskedWorld s cs) → IfOk r (IsWorldOf options cs)
asked_world options s cs (Ok world) of is = record { search = s; of = of; world = is }
asked_world options s cs (Err e) of is = tt

error_of : (options : SearchOptions) (s : AskedSearch) (cs : List Catalogue) (e : AskError) → IsSearchOf options s
    → AreAskErrors s cs e → AreAskingErrors options cs e
error_of options s cs (asks.NoSearch catalogue) of is = record { search = s; of = of; error = is }
error_of options s cs asks.TooManyTerms of is = record { search = s; of = of; error = is }
error_of options s cs (asks.BlankTerm access) of is = record { search = s; of = of; error = is }
error_of options s cs (asks.TermCharset catalogue access) of is = record { search = s; of = of; error = is }
error_of options s cs (asks.QueryCharset catalogue) of is = record { search = s; of = of; error = is }
error_of options s cs (asks.Query kind at) of is = record { search = s; of = of; error = is }
error_of options s cs (asks.Setting catalogue fault) of is = record { search = s; of = of; error = is }
error_of options s cs asks.Records of is = record { search = s; of = of; error = is }
error_of options s cs asks.Syntax of is = record { search = s; of = of; error = is }
error_of options s cs asks.Memory of is = tt

-- the error of the search is that of the options
pub asked_error : (options : SearchOptions) (s : AskedSearch) (cs : List Catalogue) (r : Result World AskError)
    → IsSearchOf options s → IfErr r (AreAskErrors s cs) → IfErr r (AreAskingErrors options cs)
asked_error options s cs (Ok world) of is = tt
asked_error options s cs (Err e) of is = error_of options s cs e of is

-- the fault of an error
pub not_asked : (options : SearchOptions) (cs : List Catalogue) (e : AskError) (f : UnionFault)
    → AreAskingErrors options cs e → f ≡ of_asking options e → AskedResult options cs (Err f)
not_asked options cs e f is of = (e, is, of)

-- ---- which faults there are

refused_fault : (path : List ℕ) (e : CatalogueError) → IsOfUnion path (of_file e)
refused_fault path errors.ByteOrderMark = tt
refused_fault path (errors.NotUtf8 line column) = tt
refused_fault path (errors.Toml line column reason) = tt
refused_fault path (errors.ForAll line fault) = tt
refused_fault path (errors.Setting line catalogue fault) = tt
refused_fault path (errors.UnknownAtTop line key near) = tt
refused_fault path (errors.UnknownKey line catalogue key near) = tt
refused_fault path errors.EmptyName = tt
refused_fault path errors.TooMany = tt
refused_fault path errors.Memory = tt

unasked_fault : (path : List ℕ) (options : SearchOptions) (e : AskError) → IsOfUnion path (of_asking options e)
unasked_fault path options (asks.NoSearch catalogue) = tt
unasked_fault path options asks.TooManyTerms = tt
unasked_fault path options (asks.BlankTerm access) = tt
unasked_fault path options (asks.TermCharset catalogue access) = tt
unasked_fault path options (asks.QueryCharset catalogue) = tt
unasked_fault path options (asks.Query kind at) = tt
unasked_fault path options (asks.Setting catalogue fault) = tt
unasked_fault path options asks.Records = tt
unasked_fault path options asks.Syntax = tt
unasked_fault path options asks.Memory = tt

-- a file that is refused can be read
pub file_fault : (path : List ℕ) (e : CatalogueError) (f : UnionFault) → f ≡ of_file e → IsOfUnion path f
file_fault path e f is = subst (IsOfUnion path) (sym is) (refused_fault path e)

-- so can one whose catalogues cannot be asked
pub asking_fault : (path : List ℕ) (options : SearchOptions) (e : AskError) (f : UnionFault) → f ≡ of_asking options e
    → IsOfUnion path f
asking_fault path options e f is = subst (IsOfUnion path) (sym is) (unasked_fault path options e)
