-- Attribute sets, each with its name.
use Rattle.std.specs.Prelude.{ℕ, List, [], ◌∷◌, Bool, ◌==◌, ◌&&◌, Option, Some, None, codes, if◌then◌else◌, map}
use Rattle.std.specs.Char.{to_ascii_lowercase}
use Rattle.std.specs.List.{slice_split}
use Rattle.std.specs.Str.{bytes_eq}
use Rattle.std.specs.Str.Parse.{digits_value}
use Rattle.zber.specs.Dotted.{dotted}
use Rattle.zber.specs.Oids.{is_oid}

-- the attribute set bib-1 (Z39.50-2003, ATR)
abbrev pub bib1 : List ℕ
bib1 = 1 ∷ 2 ∷ 840 ∷ 10003 ∷ 3 ∷ 1 ∷ []

-- the text is the name of bib-1, in any case
abbrev pub is_bib1 : List ℕ → Bool
is_bib1 text = bytes_eq (map to_ascii_lowercase text) (codes "bib-1")

-- the octet is a dot, which stands between the arcs of an object identifier
abbrev pub is_dot : ℕ → Bool
is_dot b = b == 46

-- the numbers between dots
abbrev pub dotted_numbers : List ℕ → List ℕ
dotted_numbers text = map (digits_value 10) (slice_split is_dot text)

-- the object identifier whose arcs, in decimal with dots between them, are the text
unfoldable pub oid_of_text : List ℕ → Option (List ℕ)
oid_of_text text =
    if is_oid (dotted_numbers text) && bytes_eq (dotted (dotted_numbers text)) text then Some (dotted_numbers text)
    else None

-- the set of this name
unfoldable pub set_of : List ℕ → Option (List ℕ)
set_of text = if is_bib1 text then Some bib1 else oid_of_text text
