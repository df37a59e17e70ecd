-- The arguments of a command line, as `clap` found them.
use Rattle.std.specs.Prelude.{◌≡◌, ◌⊎◌, ℕ, ◌<◌, ◌^◌, Bool, true, false, List, [], slice_get, Option, Some, None, codes}
use Rattle.std.specs.Option.{option_map, unwrap_or}
use Rattle.std.specs.Str.Parse.{IsNumeral, digits_value, without_leading_plus}
use Rattle.clap.specs.Words.{first_value, one_text, matched_of, raw_values}
use Rattle.clap.specs.declared.parser.matches.Found.{Found}
use Rattle.zmeta_args.specs.declared.arguments.View.{View}
use Rattle.zmeta_args.specs.declared.arguments.View.TheVariants as views
use Rattle.zmeta_args.specs.declared.arguments.SearchOptions.{SearchOptions}
use Rattle.zmeta_args.specs.declared.arguments.LimitOptions.{LimitOptions}
use Rattle.zmeta_args.specs.declared.arguments.CommandLine.{CommandLine}
use Rattle.zmeta_args.specs.declared.arguments.Arguments.{Arguments}
use Rattle.zmeta_args.specs.declared.arguments.TheConstants.{HEADING, CHANGES_HEADING}
use Rattle.zmeta_args.specs.declared.arguments.Arguments.TheVariants.{Show, Dialogue, Pqf, Catalogues, WorldOf, CataloguesOf, Join, New, Records, Run, Ask, Replay, Loop, Serve}
use Rattle.zmeta_args.specs.Texts.{texts_of, now_of}

-- the argument has this value
abbrev pub HasValue : Found → List ℕ → List ℕ → Type 0
HasValue found id value = first_value found id ≡ Some value

-- the values, or none
abbrev pub or_none : Option (List (List ℕ)) → List (List ℕ)
or_none None = []
or_none (Some values) = values

-- the argument has these values, in order, or none
abbrev pub HasValues : Found → List ℕ → List (List ℕ) → Type 0
HasValues found id values = or_none (option_map raw_values (matched_of found id)) ≡ values

-- the number that the text writes in decimal digits
abbrev pub number_of : List ℕ → ℕ
number_of text = digits_value 10 (without_leading_plus text)

-- the text is a number below 2 ^ 32 in decimal digits, behind a plus or no sign
abbrev pub IsNumber : List ℕ → Type 0
IsNumber text = IsNumeral 10 (without_leading_plus text) × (number_of text < 2 ^ 32)

-- the number is that of the text, and there is none exactly if the text is no number
abbrev pub IsNumberOf : List ℕ → Option ℕ → Type 0
IsNumberOf text (Some n) = IsNumber text × (n ≡ number_of text)
IsNumberOf text None = IsNumber text → ⊥

-- the argument is given, and it is this number
abbrev pub HasNumber : Found → List ℕ → ℕ → Type 0
HasNumber found id n = (text : List ℕ) × (one_text found id ≡ Some text) × IsNumberOf text (Some n)

-- the seconds of an option: the number given, or none if the option is left out or what is given is no number
pub record HasSeconds (found : Found) (id : List ℕ) (seconds : Option ℕ) : Type 0 where
  pub left_out : one_text found id ≡ None → seconds ≡ None
  pub given : (text : List ℕ) → one_text found id ≡ Some text → IsNumberOf text seconds

-- whether the option is given; it takes no value
pub record HasFlag (found : Found) (id : List ℕ) (given : Bool) : Type 0 where
  pub holds : one_text found id ≡ Some (codes "true") → given ≡ true
  pub left_out : (one_text found id ≡ None) ⊎ (one_text found id ≡ Some (codes "false")) → given ≡ false

-- the option is given; it takes no value
abbrev pub IsGiven : Found → List ℕ → Type 0
IsGiven found id = one_text found id ≡ Some (codes "true")

-- the option is left out; it takes no value
abbrev pub IsLeftOut : Found → List ℕ → Type 0
IsLeftOut found id = (one_text found id ≡ None) ⊎ (one_text found id ≡ Some (codes "false"))

-- the heading of a page: this one, if none is given
abbrev pub heading_of : List ℕ → Found → List ℕ
heading_of default found = unwrap_or (first_value found (codes "heading")) default

-- a page under this heading is printed
abbrev pub IsPage : List ℕ → View → Type 0
IsPage heading (views.Html text) = text.now ≡ heading
IsPage heading view = ⊥

-- what is printed: the titles, JSON, the list in hexadecimal, the titles with all fields, or a page, if that is asked
-- for, else the list; a page has this heading, if none is given
pub record HasView (heading : List ℕ) (found : Found) (view : View) : Type 0 where
  pub titles : IsGiven found (codes "titles") → view ≡ views.Titles
  pub json : IsLeftOut found (codes "titles") → IsGiven found (codes "json") → view ≡ views.Json
  pub hex : IsLeftOut found (codes "titles") → IsLeftOut found (codes "json") → IsGiven found (codes "hex")
      → view ≡ views.Hex
  pub fields : IsLeftOut found (codes "titles") → IsLeftOut found (codes "json") → IsLeftOut found (codes "hex")
      → IsGiven found (codes "fields") → view ≡ views.Fields
  pub html : IsLeftOut found (codes "titles") → IsLeftOut found (codes "json") → IsLeftOut found (codes "hex")
      → IsLeftOut found (codes "fields") → IsGiven found (codes "html") → IsPage (heading_of heading found) view
  pub left_out : IsLeftOut found (codes "titles") → IsLeftOut found (codes "json") → IsLeftOut found (codes "hex")
      → IsLeftOut found (codes "fields") → IsLeftOut found (codes "html") → view ≡ views.Text

-- how long catalogues are waited for, and over which addresses they are asked: the values of these options
pub record HasLimits (found : Found) (l : LimitOptions) : Type 0 where
  pub connect : HasSeconds found (codes "connect") l.connect
  pub patience : HasSeconds found (codes "patience") l.patience
  pub within : HasSeconds found (codes "within") l.within
  pub only_v4 : HasFlag found (codes "ipv4") l.only_v4
  pub only_v6 : HasFlag found (codes "ipv6") l.only_v6

-- what is put to every question: the values of these options
pub record HasSearch (found : Found) (s : SearchOptions) : Type 0 where
  pub query : now_of s.query ≡ first_value found (codes "query")
  pub titles : HasValues found (codes "title") (texts_of s.titles.items)
  pub authors : HasValues found (codes "author") (texts_of s.authors.items)
  pub subjects : HasValues found (codes "subject") (texts_of s.subjects.items)
  pub isbns : HasValues found (codes "isbn") (texts_of s.isbns.items)
  pub issns : HasValues found (codes "issn") (texts_of s.issns.items)
  pub years : HasValues found (codes "year") (texts_of s.years.items)
  pub any : HasValues found (codes "any") (texts_of s.any.items)
  pub records : now_of s.records ≡ first_value found (codes "records")
  pub elements : now_of s.elements ≡ first_value found (codes "elements")
  pub syntax : now_of s.syntax ≡ first_value found (codes "syntax")

-- the paths of a world file and of a saved file, what is put to every question, and what is printed
abbrev pub HasWorld : Found → List ℕ → Option (List ℕ) → SearchOptions → View → Type 0
HasWorld found world saved search view = HasValue found (codes "FILE") world
    × (saved ≡ first_value found (codes "save")) × HasSearch found search × HasView HEADING.now found view

-- the arguments of the command with this name, as they were found
abbrev pub AreArgumentsOf : List ℕ → Found → Arguments → Type 0
AreArgumentsOf name found Show = (name ≡ codes "show") × (first_value found (codes "trace") ≡ None)
AreArgumentsOf name found (Dialogue trace only) =
    (name ≡ codes "show") × HasValue found (codes "trace") trace.now
    × HasValues found (codes "only") (texts_of only.items)
AreArgumentsOf name found (Pqf text search) =
    (name ≡ codes "pqf") × (now_of text ≡ first_value found (codes "TEXT")) × HasSearch found search
AreArgumentsOf name found (Catalogues path) =
    (name ≡ codes "catalogues") × HasValue found (codes "FILE") path.now × HasFlag found (codes "toml") false
    × HasFlag found (codes "world") false
AreArgumentsOf name found (WorldOf catalogues search) =
    (name ≡ codes "catalogues") × HasValue found (codes "FILE") catalogues.now × HasFlag found (codes "toml") false
    × HasFlag found (codes "world") true × HasSearch found search
AreArgumentsOf name found (CataloguesOf world) =
    (name ≡ codes "catalogues") × HasValue found (codes "FILE") world.now × HasFlag found (codes "toml") true
AreArgumentsOf name found (Join first others saved quiet view) =
    (name ≡ codes "join") × HasValue found (codes "A") first.now
    × HasValues found (codes "B") (texts_of others.items) × (now_of saved ≡ first_value found (codes "save"))
    × HasFlag found (codes "quiet") quiet × HasView HEADING.now found view
AreArgumentsOf name found (New earlier later view) =
    (name ≡ codes "new") × HasValue found (codes "OLD") earlier.now × HasValue found (codes "NEW") later.now
    × HasView CHANGES_HEADING.now found view
AreArgumentsOf name found (Records first others since only syntax conflicts) =
    (name ≡ codes "records") × HasValue found (codes "A") first.now
    × HasValues found (codes "B") (texts_of others.items) × (now_of since ≡ first_value found (codes "new"))
    × HasValues found (codes "only") (texts_of only.items)
    × (now_of syntax ≡ first_value found (codes "syntax")) × HasFlag found (codes "conflicts") conflicts
AreArgumentsOf name found (Run world saved search view) =
    (name ≡ codes "run") × HasWorld found world.now (now_of saved) search view
AreArgumentsOf name found (Ask world saved trace at_once only limits search view) =
    (name ≡ codes "ask") × HasWorld found world.now (now_of saved) search view
    × (now_of trace ≡ first_value found (codes "trace")) × HasFlag found (codes "at-once") at_once
    × HasValues found (codes "only") (texts_of only.items) × HasLimits found limits
AreArgumentsOf name found (Replay trace saved view) =
    (name ≡ codes "replay") × HasValue found (codes "TRACE") trace.now
    × (now_of saved ≡ first_value found (codes "save")) × HasView HEADING.now found view
AreArgumentsOf name found (Loop world saved search view) =
    (name ≡ codes "loop") × HasWorld found world.now (now_of saved) search view
AreArgumentsOf name found (Serve address whose world count) =
    (name ≡ codes "serve") × HasValue found (codes "ADDRESS") address.now
    × HasValue found (codes "NAME") whose.now × HasValue found (codes "FILE") world.now
    × HasNumber found (codes "N") count

-- the command with this name, as its arguments were found, and what is common to all commands
pub record IsLineOf (name : List ℕ) (found : Found) (line : CommandLine) : Type 0 where
  pub asks : AreArgumentsOf name found line.command
  pub explains : HasFlag found (codes "explain") line.explain

-- the argument behind the program's name is a command's name, and its arguments are these
pub record IsParsed (arguments : List (List ℕ)) (line : CommandLine) : Type 0 where
  pub name : List ℕ
  pub found : Found
  pub stands : slice_get arguments 1 ≡ Some name
  pub asks : IsLineOf name found line
