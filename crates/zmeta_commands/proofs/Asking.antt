-- The world of a file, with the search of the options.
use Rattle.std.proofs.Common.{◌≡◌, ◌⊎◌, ℕ, List, Option, Some, None, Result, Ok, Err, refl, inl, inr}
use Rattle.std.specs.Option.{IfSome}
use Rattle.std.specs.Borrow.{Bor}
use Rattle.zmeta_args.specs.declared.arguments.SearchOptions.{SearchOptions}
use Rattle.zmeta_args.specs.Texts.{now_of}
use Rattle.zmeta_world.specs.declared.world.World.{World}
use Rattle.zmeta_searches.specs.Terms.{AskedTerm}
use Rattle.zmeta_searches.specs.Asked.{terms_of}
use Rattle.zmeta_searches.specs.Searches.{search_of, chosen_query}
use Rattle.zmeta_commands.specs.Worlds.{IsTextOf, SearchedResult, told_of}
use Rattle.zmeta_devices.specs.declared.fault.Fault.{Fault}
use Rattle.zmeta_devices.specs.declared.fault.Fault.TheVariants.{Line, Query, Wanted, Syntax, Memory}

-- the text of `--query` is that of the search, if it is given
is_chosen : (text : Option (Bor (List ℕ))) (terms : List AskedTerm)
    → IsTextOf (chosen_query (now_of text) terms) text
is_chosen None terms = inl refl
is_chosen (Some text) terms = inr refl

pub told_as : (s : SearchOptions) (octets : List ℕ) (answer : Result World Fault)
    → SearchedResult (search_of s) octets answer → SearchedResult (search_of s) octets (told_of s answer)
told_as s octets (Ok world) h = h
told_as s octets (Err (Line number)) h = h
told_as s octets (Err Memory) h = tt
told_as s octets (Err (Query kind at old)) h = (h.0, is_chosen s.query (terms_of s))
told_as s octets (Err (Wanted old)) h = (h.0, inr refl)
told_as s octets (Err (Syntax old)) h = (h.0, inr refl)
told_as s octets (Err f) h = absurd h

pub told_known : (file : Option (List ℕ)) (s : SearchOptions) (answer told : Result World Fault) → told ≡ told_of s answer
    → IfSome file (λ octets. SearchedResult (search_of s) octets answer)
    → IfSome file (λ octets. SearchedResult (search_of s) octets told)
told_known None s answer told same h = tt
told_known (Some octets) s answer told same h = rw same (told_as s octets answer h)
