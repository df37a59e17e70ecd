-- What can be wrong with arguments and files, in words.
use Rattle.std.specs.Prelude.{ℕ, Bool, ◌==◌, if◌then◌else◌, List, ◌++◌, codes, bytes_eq}
use Rattle.std.specs.Fmt.{decimal}
use Rattle.zapdu.specs.Apdus.{apdu_kind_name}
use Rattle.zapdu.specs.declared.apdu.Kind.{Kind}
use Rattle.zmeta_explain.specs.declared.mistakes.Mistake.{Mistake}
use Rattle.zmeta_explain.specs.declared.mistakes.Mistake.TheVariants.{Query, EmptyTerm, ManyTerms, Records, Syntax, NotSaved, NotCanonical, NamesDiffer, Read, Write, Hex, Frame}
use Rattle.zmeta_explain.specs.declared.mistakes.Mistake.TheVariants.{NotApdu, Malformed, NotPrintable, NoQuestion, NoCatalogue, NotOid, Serve, Memory}
use Rattle.zmeta_explain.specs.Octets.{frame_words}
use Rattle.zmeta_explain.specs.Queries.{query_words}
use Rattle.zmeta_explain.specs.Ranges.{want_advice}
use Rattle.zmeta_explain.specs.Shown.{shown_text, name_text}
use Rattle.zmeta_explain.specs.Syntaxes.{syntax_words}

-- a standard stream
abbrev pub is_stream : List ℕ → Bool
is_stream path = bytes_eq path (codes "-")

-- of a file or a stream that could not be read
abbrev pub read_words : List ℕ → List ℕ
read_words path =
    if is_stream path then codes "standard input failed, or has no end"
    else name_text path ++ codes " is not there, is no file, or is closed to you"

-- of a file or a stream that could not be written
abbrev pub write_words : List ℕ → List ℕ
write_words path =
    if is_stream path then codes "standard output is closed or full"
    else name_text path ++ codes " cannot be made there, is closed to you, or has no room"

-- of a text that names no wanted positions
abbrev pub records_words : List ℕ → List ℕ
records_words text =
    shown_text text ++ codes " names no positions; " ++ want_advice text ++ codes ", as 20 or 1-3,10-12"

-- of a file that is no saved file, or none behind its first elements
abbrev pub saved_words : List ℕ → ℕ → List ℕ
saved_words path at =
    if at == 0 then name_text path ++ codes " is no file of --save"
    else name_text path ++ codes " is damaged behind its first " ++ decimal at
    ++ codes " elements; take another copy, or ask and save again"

-- of an APDU that is malformed behind its first elements
abbrev pub malformed_words : Kind → ℕ → List ℕ
malformed_words kind at =
    codes "the " ++ apdu_kind_name kind ++ codes " is not as Z39.50 has it behind its first " ++ decimal at
    ++ codes " elements"

-- of a mistake
abbrev pub mistake_words : Mistake → List ℕ
mistake_words (Query text kind at) = query_words text.now kind at
mistake_words (Records text) = records_words text.now
mistake_words (Syntax text) = syntax_words text.now
mistake_words EmptyTerm = codes "a term has no text; write some behind its option"
mistake_words ManyTerms = codes "there are more than 32 terms; give fewer"
mistake_words (NotSaved path at) = saved_words path.now at
mistake_words (NotCanonical path at) =
    name_text path.now ++ codes " is not as --save wrote it: its element " ++ decimal at
    ++ codes " is written in another way, or in another place"
mistake_words NamesDiffer =
    codes "the files are about different catalogues; join files that --save wrote for the same FILE"
mistake_words (Read path) = read_words path.now
mistake_words (Write path) = write_words path.now
mistake_words Hex = codes "write hexadecimal digits alone, two for each octet"
mistake_words (Frame kind at) = frame_words kind at
mistake_words NotApdu = codes "the message is no request and no response of Init, Search or Present, and no Close"
mistake_words (Malformed kind at) = malformed_words kind at
mistake_words NotPrintable = codes "the query has parts that the prefix notation cannot write, as proximity"
mistake_words (NoQuestion name) =
    codes "no line asks " ++ shown_text name.now ++ codes "; --only takes a name that stands behind ask"
mistake_words (NoCatalogue name) =
    codes "no file has the catalogue " ++ shown_text name.now ++ codes "; zmeta join lists their names"
mistake_words (NotOid text) = syntax_words text.now
mistake_words Serve =
    codes "FILE has no such target, or the address is in use or not of this machine; write it as localhost:9999"
mistake_words Memory = codes "there is too little memory for all of this; ask for fewer records"
