-- The fields of a record of MARC are members of JSON.
use Rattle.std.proofs.Common.{◌≡◌, ℕ, true, Option, Some, None, List, [], ◌∷◌, refl}
use Rattle.std.specs.Prelude.{◌==◌, codes, length, unwrap_or}
use Rattle.std.specs.Str.{IsUtf8}
use Rattle.json.proofs.Printed.Utf8.{are_ascii}
use Rattle.zapdu.specs.declared.productions.external.Content.{Content}
use Rattle.zapdu.specs.declared.productions.external.Content.TheVariants.{Single, Aligned, Arbitrary}
use Rattle.zmarc.specs.declared.charset.Charset.{Charset}
use Rattle.zmarc.specs.declared.format.Format.{Format}
use Rattle.zmarc.specs.declared.format.Reading.{Reading}
use Rattle.zmarc.specs.Briefs.{read_in}
use Rattle.zmarc.specs.Fields.{year_text, title_text, author_text, isbn_text}
use Rattle.zmarc.specs.Syntaxes.{format_of}
use Rattle.zmarc.proofs.SafeFields.{year_is_safe, title_is_safe, author_is_safe, isbn_is_safe}
use Rattle.zknow_json.specs.Fields.{filled_member, marc_members, format_members, field_members}
use Rattle.zknow_json.proofs.Objects.{AreMembers, nothing, both, among, unless, text_plain}

abbrev Names : Type 0
Names = List (List ℕ)

filled_plain : (name text : List ℕ) → are_ascii name ≡ true → IsUtf8 text
    → AreMembers (name ∷ []) (filled_member name text)
unfolding filled_member
filled_plain name text a u = unless (length text == 0) (text_plain name text a u)

abbrev pub field_names : Names
field_names = codes "year" ∷ codes "title" ∷ codes "author" ∷ codes "isbn" ∷ []

marc_plain : (reading : Reading) (octets : List ℕ) → AreMembers field_names (marc_members reading octets)
unfolding marc_members
marc_plain reading octets =
    both (both (both
    (filled_plain (codes "year") (year_text reading octets) refl (year_is_safe reading octets).utf8)
    (filled_plain (codes "title") (title_text reading octets) refl (title_is_safe reading octets).utf8))
    (filled_plain (codes "author") (author_text reading octets) refl (author_is_safe reading octets).utf8))
    (filled_plain (codes "isbn") (isbn_text reading octets) refl (isbn_is_safe reading octets).utf8)

format_plain : (charset : Option Charset) (format : Option Format) (octets : List ℕ)
    → AreMembers field_names (format_members charset format octets)
format_plain charset None octets = among field_names refl nothing
format_plain charset (Some format) octets = marc_plain (read_in format charset) octets

pub fields_plain : (charset : Option Charset) (direct : Option (List ℕ)) (content : Content)
    → AreMembers field_names (field_members charset direct content)
fields_plain charset direct (Single e) = among field_names refl nothing
fields_plain charset direct (Aligned octets) = format_plain charset (format_of (unwrap_or direct []) octets) octets
fields_plain charset direct (Arbitrary bits) = among field_names refl nothing
