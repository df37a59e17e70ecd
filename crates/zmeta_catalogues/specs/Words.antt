-- Keys that are not known, and the known key that is nearest to one.
use Rattle.std.specs.Prelude.{◌≡◌, ℕ, nat_eq, nat_lt, List, [], ◌∷◌, length, Bool, if◌then◌else◌, codes, Option, Some, None}
use Rattle.std.specs.Option.{option_map, option_and_then, option_or}
use Rattle.std.specs.Str.{chars}
use Rattle.strsim.specs.Edits.{levenshtein_row}
use Rattle.toml.specs.Data.{Data, Members, no_members, member, get_member, as_table}
use Rattle.zmeta_catalogues.specs.declared.fault.Key.{Key}
use Rattle.zmeta_catalogues.specs.declared.words.TableKind.{TableKind}
use Rattle.zmeta_catalogues.specs.declared.words.TableKind.TheVariants as kinds
use Rattle.zmeta_catalogues.specs.Keys.{name_of, keys_of, is_known}

-- how many letters have to be put in, left out or changed to make the name of the key of a word
unfoldable pub distance : List ℕ → Key → ℕ
distance word key = levenshtein_row nat_eq (chars word) (chars (name_of key)) (length (chars (name_of key)))

-- the nearest key so far, and how many letters part it from the word
pub record Near : Type 0 where
  pub key : Option Key
  pub parted : ℕ

-- the nearer of this key and those before
abbrev pub nearer : List ℕ → Near → Key → Near
nearer word near key =
    if nat_lt (distance word key) near.parted then record { key = Some key; parted = distance word key } else near

-- the nearest of these keys and those before
abbrev pub nearest_of : List ℕ → Near → List Key → Near
nearest_of word near [] = near
nearest_of word near (key ∷ others) = nearest_of word (nearer word near key) others

-- the first of the keys that fewest letters part from the word, if at most two do
abbrev pub nearest : TableKind → List ℕ → Option Key
nearest kind word = (nearest_of word (record { key = None; parted = 3 }) (keys_of kind)).key

-- ---- keys that are not known

-- the first key that a table of this kind does not have
abbrev pub first_unknown : TableKind → Members → Option (List ℕ)
first_unknown kind no_members = None
first_unknown kind (member word value ms) = if is_known kind word then first_unknown kind ms else Some word

-- the first key of the terms that is not known
abbrev pub unknown_term : Members → Option (List ℕ)
unknown_term own =
    option_and_then (first_unknown kinds.Terms) (option_and_then as_table (get_member (codes "terms") own))

-- the word, as a key of a table of this kind
abbrev pub key_in : TableKind → List ℕ → (List ℕ) × TableKind
key_in kind word = (word, kind)

-- the first key of the table of a catalogue, or else of its terms, that is not known
abbrev pub unknown_key : Members → Option ((List ℕ) × TableKind)
unknown_key own =
    option_or (option_map (key_in kinds.Catalogue) (first_unknown kinds.Catalogue own))
    (option_map (key_in kinds.Terms) (unknown_term own))
