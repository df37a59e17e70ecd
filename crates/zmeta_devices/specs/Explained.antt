-- Faults and failed connections in words.
use Rattle.std.specs.Prelude.{ℕ, List, [], ◌++◌, Option, Some, None, codes}
use Rattle.std.specs.Option.{unwrap_or}
use Rattle.zmeta_args.specs.Texts.{now_of}
use Rattle.zmeta_explain.specs.Octets.{frame_words}
use Rattle.zmeta_explain.specs.Queries.{query_words}
use Rattle.zmeta_explain.specs.Syntaxes.{syntax_words}
use Rattle.zknow_stops.specs.declared.stop.Stop.{Stop}
use Rattle.zquery.specs.declared.notation.error.PqfErrorKind.{PqfErrorKind}
use Rattle.zquery.specs.declared.notation.error.PqfErrorKind.TheVariants as queries
use Rattle.zmeta_explain.specs.Mistakes.{records_words, mistake_words}
use Rattle.zmeta_explain.specs.Stops.{host_of, port_of, detail_words}
use Rattle.zmeta_explain.specs.declared.mistakes.Mistake.TheVariants as mistakes
use Rattle.zmeta_devices.specs.declared.fault.Fault.{Fault}
use Rattle.zmeta_devices.specs.declared.fault.Fault.TheVariants.{Read, Write, Overwrite, Hex, Frame, NotApdu, Malformed, Query}
use Rattle.zmeta_devices.specs.declared.fault.Fault.TheVariants.{NotPrintable, NotKnowledge, NotCanonical, NamesDiffer}
use Rattle.zmeta_devices.specs.declared.fault.Fault.TheVariants.{Line, Wanted, Syntax, NoQuestion, NoCatalogue, NotOid, Serve, Memory}

-- what is wrong with a query that terms make, for this reason
abbrev pub terms_words : PqfErrorKind → ℕ → List ℕ
terms_words queries.Empty at = mistake_words mistakes.EmptyTerm
terms_words queries.TooDeep at = mistake_words mistakes.ManyTerms
terms_words kind at = query_words [] kind at

-- what is wrong with a query of this text, or with one that terms make
abbrev pub words_of_query : PqfErrorKind → ℕ → Option (List ℕ) → List ℕ
words_of_query kind at None = terms_words kind at
words_of_query kind at (Some text) = query_words text kind at

-- what is wrong, and what to write
abbrev pub fault_words : Fault → Option (List ℕ)
fault_words (Read path) = Some (mistake_words (mistakes.Read path))
fault_words (Write path) = Some (mistake_words (mistakes.Write path))
fault_words (Overwrite path) = None
fault_words Hex = Some (mistake_words mistakes.Hex)
fault_words (Frame kind at) = Some (frame_words kind at)
fault_words NotApdu = Some (mistake_words mistakes.NotApdu)
fault_words (Malformed kind at) = Some (mistake_words (mistakes.Malformed kind at))
fault_words (Query kind at text) = Some (words_of_query kind at (now_of text))
fault_words NotPrintable = Some (mistake_words mistakes.NotPrintable)
fault_words (NotKnowledge path at) = Some (mistake_words (mistakes.NotSaved path at))
fault_words (NotCanonical path at) = Some (mistake_words (mistakes.NotCanonical path at))
fault_words NamesDiffer = Some (mistake_words mistakes.NamesDiffer)
fault_words (Line number) = None
fault_words (Wanted text) = Some (records_words (unwrap_or (now_of text) []))
fault_words (Syntax text) = Some (syntax_words (unwrap_or (now_of text) []))
fault_words (NoQuestion name) = Some (mistake_words (mistakes.NoQuestion name))
fault_words (NoCatalogue name) = Some (mistake_words (mistakes.NoCatalogue name))
fault_words (NotOid text) = Some (mistake_words (mistakes.NotOid text))
fault_words Serve = Some (mistake_words mistakes.Serve)
fault_words Memory = Some (mistake_words mistakes.Memory)

-- the line of words, if there are any
abbrev pub line_of : Option (List ℕ) → List ℕ
line_of None = []
line_of (Some words) = codes "zmeta: " ++ words ++ codes "\n"

-- the line that tells a fault in words
abbrev pub words_line : Fault → List ℕ
words_line f = line_of (fault_words f)

-- why the connection to a host stopped, by its address
abbrev pub stop_words_of : List ℕ → List ℕ → Stop → List ℕ
stop_words_of name address stop = detail_words (host_of name address) (port_of address) stop.detail

-- the line that tells in words why the connection to the target of this name stopped; a target in memory has no address
abbrev pub stop_line : List ℕ → Option (List ℕ) → Option Stop → List ℕ
stop_line name address None = []
stop_line name address (Some stop) = line_of (Some (stop_words_of name (unwrap_or address []) stop))
