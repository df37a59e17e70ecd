-- What is printed of what is known.
use Rattle.std.specs.Prelude.{ℕ, List, Option}
use Rattle.zber.specs.declared.text.Mode.TheVariants as modes
use Rattle.zknow.specs.declared.fact.Fact.{Fact}
use Rattle.zknow.specs.List.Listing.{listing}
use Rattle.zmarc.specs.declared.charset.Charset.{Charset}
use Rattle.zknow_html.specs.Page.{page}
use Rattle.zknow_json.specs.Lines.{json_lines}
use Rattle.zknow_stops.specs.declared.stop.Stop.{Stop}
use Rattle.zknow_titles.specs.Titles.{titles, whole_records}
use Rattle.zmeta_args.specs.declared.arguments.View.{View}
use Rattle.zmeta_args.specs.declared.arguments.View.TheVariants.{Text, Hex, Titles, Fields, Json, Html}

-- the list, the view for readers, that with the fields of records, lines of JSON, or a page; all but the list tell why
-- connections stopped, and read the records of a target in its character set, if that is known
abbrev pub printed : List (List ℕ) → View → List (Option Charset) → List (Option Stop) → List Fact → List ℕ
printed names Text charsets stops facts = listing names modes.Text facts
printed names Hex charsets stops facts = listing names modes.Hex facts
printed names Titles charsets stops facts = titles names charsets stops facts
printed names Fields charsets stops facts = whole_records names charsets stops facts
printed names (Html heading) charsets stops facts = page heading.now names charsets stops facts
printed names Json charsets stops facts = json_lines names charsets stops facts
