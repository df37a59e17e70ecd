-- Words are printable ASCII.
use Rattle.std.proofs.Common.{◌≡◌, ℕ, Bool, true, false, List, [], ◌∷◌, ◌++◌, length, refl, drop, Option, Some, None}
use Rattle.std.specs.Prelude.{All, codes, ◌==◌}
use Rattle.std.specs.Fmt.{decimal}
use Rattle.std.proofs.lemmas.Bool.{cond_both}
use Rattle.std.proofs.lemmas.List.Elements.{All-drop}
use Rattle.zber.specs.declared.fault.FaultKind.{FaultKind}
use Rattle.zber.specs.declared.fault.FaultKind.TheVariants.{TagForm, TagTooLarge, StrayEnd, LengthForm, IndefinitePrimitive, Overrun, TooLong, TooDeep, Truncated}
use Rattle.zquery.specs.declared.notation.error.PqfErrorKind.{PqfErrorKind}
use Rattle.zquery.specs.declared.notation.error.PqfErrorKind.TheVariants as queries
use Rattle.zapdu.specs.declared.apdu.Kind.{Kind}
use Rattle.zapdu.specs.declared.apdu.Kind.TheVariants as kinds
use Rattle.zknow_stops.specs.declared.detail.Detail.{Detail}
use Rattle.zknow_stops.specs.declared.detail.Detail.TheVariants.{NoPort, NoName, NoFamily, Refused, NoRoute, NoAnswer, Silent, HungUp, Reset, NotZ3950, Unfit, TooMany, NoMemory}
use Rattle.zmeta_explain.specs.declared.mistakes.Mistake.{Mistake}
use Rattle.zmeta_explain.specs.declared.mistakes.Mistake.TheVariants.{Query, EmptyTerm, ManyTerms, Records, Syntax, NotSaved, NotCanonical, NamesDiffer, Read, Write, Hex, Frame}
use Rattle.zmeta_explain.specs.declared.mistakes.Mistake.TheVariants.{NotApdu, Malformed, NotPrintable, NoQuestion, NoCatalogue, NotOid, Serve, Memory}
use Rattle.zmeta_explain.specs.declared.syntaxes.NamedSyntax.{NamedSyntax}
use Rattle.zmeta_explain.specs.declared.syntaxes.NamedSyntax.TheVariants as syntaxes
use Rattle.zmeta_explain.specs.Laws.{IsPrintable, IsOctet, HasOctets, SafeLaw, SafeStopLaw}
use Rattle.zmeta_explain.specs.Mistakes.{is_stream, read_words, write_words, malformed_words, mistake_words, saved_words}
use Rattle.zmeta_explain.specs.Octets.{frame_words}
use Rattle.zmeta_explain.specs.Queries.{is_attrset, unknown_words, query_words}
use Rattle.zmeta_explain.specs.Ranges.{want_advice}
use Rattle.zmeta_explain.specs.Shown.{shown_text, name_text}
use Rattle.zmeta_explain.specs.Stops.{host_of, port_of, refused_words, detail_words, stop_words}
use Rattle.zmeta_explain.specs.Syntaxes.{syntax_name, meant_syntax, other_words}
use Rattle.zmeta_explain.specs.Tokens.{token_at}
use Rattle.zmeta_explain.proofs.OctetParts.{token, host, port}
use Rattle.zmeta_explain.proofs.Printable.{Passes, literal, behind, ended, between, number, shown, named, advised}

-- ---- queries

unknown : (text : List ℕ) → All IsOctet text → Passes (unknown_words text)
unknown text h =
    cond_both (is_attrset text) _ _ Passes (λ _. refl) (λ _. behind (shown_text text) _ (shown text h) refl)

query : (text : List ℕ) (kind : PqfErrorKind) (at : ℕ) → All IsOctet text → Passes (query_words text kind at)
query text queries.OpenQuote at h =
    let rest = drop 1 (drop at text) in
    behind (shown_text rest) _ (shown rest (All-drop IsOctet 1 (drop at text) (All-drop IsOctet at text h))) refl
query text queries.Empty at h = refl
query text queries.UnknownWord at h = unknown (token_at at text) (token at text h)
query text queries.MissingOperand at h = refl
query text queries.BadAttribute at h = behind (shown_text (token_at at text)) _ (shown (token_at at text) (token at text h)) refl
query text queries.UnknownSet at h = behind (shown_text (token_at at text)) _ (shown (token_at at text) (token at text h)) refl
query text queries.BadTermType at h = behind (shown_text (token_at at text)) _ (shown (token_at at text) (token at text h)) refl
query text queries.BadNumber at h = behind (shown_text (token_at at text)) _ (shown (token_at at text) (token at text h)) refl
query text queries.TooDeep at h = behind (shown_text (token_at at text)) _ (shown (token_at at text) (token at text h)) refl
query text queries.Trailing at h = behind (shown_text (token_at at text)) _ (shown (token_at at text) (token at text h)) refl
query text queries.Memory at h = refl

-- ---- messages

frame : (kind : FaultKind) (at : ℕ) → Passes (frame_words kind at)
frame TagForm at = behind (decimal at) _ (number at) refl
frame TagTooLarge at = behind (decimal at) _ (number at) refl
frame StrayEnd at = behind (decimal at) _ (number at) refl
frame LengthForm at = behind (decimal at) _ (number at) refl
frame IndefinitePrimitive at = behind (decimal at) _ (number at) refl
frame Overrun at = behind (decimal at) _ (number at) refl
frame TooLong at = behind (decimal at) _ (number at) refl
frame TooDeep at = behind (decimal at) _ (number at) refl
frame Truncated at = behind (decimal at) _ (number at) refl

malformed : (kind : Kind) (at : ℕ) → Passes (malformed_words kind at)
malformed kinds.InitRequest at = behind (decimal at) _ (number at) refl
malformed kinds.InitResponse at = behind (decimal at) _ (number at) refl
malformed kinds.SearchRequest at = behind (decimal at) _ (number at) refl
malformed kinds.SearchResponse at = behind (decimal at) _ (number at) refl
malformed kinds.PresentRequest at = behind (decimal at) _ (number at) refl
malformed kinds.PresentResponse at = behind (decimal at) _ (number at) refl
malformed kinds.Close at = behind (decimal at) _ (number at) refl

-- ---- other mistakes

syntax : (s : NamedSyntax) → Passes (syntax_name s)
syntax syntaxes.Marc21 = refl
syntax syntaxes.Unimarc = refl
syntax syntaxes.Xml = refl
syntax syntaxes.Sutrs = refl
syntax syntaxes.Opac = refl
syntax syntaxes.Grs1 = refl

other : (text : List ℕ) (meant : Option NamedSyntax) → All IsOctet text → Passes (other_words text meant)
other text (Some s) h = ended (shown_text text) _ (syntax_name s) (shown text h) refl (syntax s)
other text None h = behind (shown_text text) _ (shown text h) refl

read : (path : List ℕ) → All IsOctet path → Passes (read_words path)
read path h =
    cond_both (is_stream path) _ _ Passes (λ _. refl) (λ _. behind (name_text path) _ (named path h) refl)

write : (path : List ℕ) → All IsOctet path → Passes (write_words path)
write path h =
    cond_both (is_stream path) _ _ Passes (λ _. refl) (λ _. behind (name_text path) _ (named path h) refl)

saved : (path : List ℕ) (at : ℕ) → All IsOctet path → Passes (saved_words path at)
saved path at h =
    cond_both (at == 0) _ _ Passes (λ _. behind (name_text path) _ (named path h) refl)
    (λ _. between (name_text path) _ (decimal at) _ (named path h) refl (number at) refl)

mistake : (m : Mistake) → HasOctets m → Passes (mistake_words m)
mistake (Query text kind at) h = query text.now kind at h
mistake (Records text) h =
    between (shown_text text.now) _ (want_advice text.now) _ (shown text.now h) refl (advised text.now) refl
mistake (Syntax text) h = other text.now (meant_syntax text.now) h
mistake EmptyTerm h = refl
mistake ManyTerms h = refl
mistake (NotSaved path at) h = saved path.now at h
mistake (NotCanonical path at) h = between (name_text path.now) _ (decimal at) _ (named path.now h) refl (number at) refl
mistake NamesDiffer h = refl
mistake (Read path) h = read path.now h
mistake (Write path) h = write path.now h
mistake Hex h = refl
mistake (Frame kind at) h = frame kind at
mistake NotApdu h = refl
mistake (Malformed kind at) h = malformed kind at
mistake NotPrintable h = refl
mistake (NoQuestion name) h = behind (shown_text name.now) _ (shown name.now h) refl
mistake (NoCatalogue name) h = behind (shown_text name.now) _ (shown name.now h) refl
mistake (NotOid text) h = other text.now (meant_syntax text.now) h
mistake Serve h = refl
mistake Memory h = refl

pub safe_words : SafeLaw
safe_words m h = literal (mistake_words m) (mistake m h)

-- ---- connections

refused : (host port : List ℕ) → All IsOctet host → All IsOctet port → Passes (refused_words host port)
refused host port h k =
    cond_both (length port == 0) _ _ Passes (λ _. behind (name_text host) _ (named host h) refl)
    (λ _. between (name_text host) _ (name_text port) _ (named host h) refl (named port k) refl)

connection : (host port : List ℕ) (d : Detail) → All IsOctet host → All IsOctet port → Passes (detail_words host port d)
connection host port NoPort h k =
    between (name_text host) _ (name_text host) _ (named host h) refl (named host h) refl
connection host port NoName h k = behind (name_text host) _ (named host h) refl
connection host port NoFamily h k = behind (name_text host) _ (named host h) refl
connection host port Refused h k = refused host port h k
connection host port NoRoute h k = behind (name_text host) _ (named host h) refl
connection host port (NoAnswer n) h k =
    between (name_text host) _ (decimal n) _ (named host h) refl (number n) refl
connection host port (Silent n) h k =
    between (name_text host) _ (decimal n) _ (named host h) refl (number n) refl
connection host port HungUp h k = behind (name_text host) _ (named host h) refl
connection host port Reset h k = behind (name_text host) _ (named host h) refl
connection host port NotZ3950 h k = behind (name_text host) _ (named host h) refl
connection host port Unfit h k = behind (name_text host) _ (named host h) refl
connection host port TooMany h k = behind (name_text host) _ (named host h) refl
connection host port NoMemory h k = behind (name_text host) _ (named host h) refl

pub safe_stop : SafeStopLaw
safe_stop s h =
    let name = s.name.now in
    let address = s.address.now in
    literal (stop_words s)
    (connection (host_of name address) (port_of address) s.detail (host name address h.0 h.1) (port address h.1))
