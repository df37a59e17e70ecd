-- The fields of a record of MARC, as members of its object: its year, its title, who made it, its ISBN.
use Rattle.std.specs.Prelude.{ℕ, ◌==◌, if◌then◌else◌, Option, Some, None, unwrap_or, List, [], ◌++◌, codes, length}
use Rattle.json.specs.Token.{Token}
use Rattle.zapdu.specs.declared.productions.external.Content.{Content}
use Rattle.zapdu.specs.declared.productions.external.Content.TheVariants.{Single, Aligned, Arbitrary}
use Rattle.zmarc.specs.declared.charset.Charset.{Charset}
use Rattle.zmarc.specs.declared.format.Format.{Format}
use Rattle.zmarc.specs.declared.format.Reading.{Reading}
use Rattle.zmarc.specs.Briefs.{read_in}
use Rattle.zmarc.specs.Fields.{year_text, title_text, author_text, isbn_text}
use Rattle.zmarc.specs.Syntaxes.{format_of}
use Rattle.zknow_json.specs.Members.{text_member}

-- a member with a text, unless the text is empty
unfoldable pub filled_member : List ℕ → List ℕ → List Token
filled_member name text = if length text == 0 then [] else text_member name text

-- what a record of MARC has of these, in this order
unfoldable pub marc_members : Reading → List ℕ → List Token
marc_members reading octets =
    filled_member (codes "year") (year_text reading octets) ++ filled_member (codes "title") (title_text reading octets)
    ++ filled_member (codes "author") (author_text reading octets)
    ++ filled_member (codes "isbn") (isbn_text reading octets)

-- the same of octets that are read in a format, and nothing of others; their character set may be known
abbrev pub format_members : Option Charset → Option Format → List ℕ → List Token
format_members charset None octets = []
format_members charset (Some format) octets = marc_members (read_in format charset) octets

-- the fields of a record: those of octets that are read as MARC in their syntax, as the view for readers reads them
abbrev pub field_members : Option Charset → Option (List ℕ) → Content → List Token
field_members charset direct (Single e) = []
field_members charset direct (Aligned octets) = format_members charset (format_of (unwrap_or direct []) octets) octets
field_members charset direct (Arbitrary bits) = []
