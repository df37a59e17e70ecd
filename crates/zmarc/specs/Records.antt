-- Records of ISO 2709 (ANSI/NISO Z39.2): a leader of 24 octets, a directory of entries, and fields.
use Rattle.std.specs.Prelude.{ℕ, zero, suc, ◌+◌, ◌*◌, ◌/◌, ◌^◌, Bool, ◌&&◌, ◌||◌, ◌==◌, nat_lt, nat_le, if◌then◌else◌, Option}
use Rattle.std.specs.Prelude.{Some, None, is_some, is_none, List, [], ◌∷◌, length, take, drop, slice_index, find}
use Rattle.std.specs.Prelude.{filter, map, sum_by}
use Rattle.std.specs.List.{slice_range, before_first, filter_map, count_by}
use Rattle.std.specs.Option.{option_map}
use Rattle.std.specs.Str.{bytes_eq}
use Rattle.zmarc.specs.Numbers.{number, digit_or}

-- ---- the leader

-- the base address is one behind the leader and within the octets
abbrev pub base_within : List ℕ → Option ℕ → Option ℕ
base_within octets None = None
base_within octets (Some at) = if nat_le 24 at && nat_le at (length octets) then Some at else None

-- the base address of the data, where the leader is whole and tells one (positions 12 to 16)
unfoldable pub base_address : List ℕ → Option ℕ
base_address octets =
    if nat_lt (length octets) 24 then None else base_within octets (number (slice_range octets 12 17))

-- how many octets of a directory entry tell the length of its field, how many tell where the field starts, and how many
-- are for other use (positions 20 to 22); where one is no digit, the number that MARC 21 and UNIMARC have there
abbrev pub length_digits : List ℕ → ℕ
length_digits octets = digit_or 4 (slice_index octets 20)

-- how many octets of an entry tell where its field starts (position 21), or 5 where that is no digit
abbrev pub start_digits : List ℕ → ℕ
start_digits octets = digit_or 5 (slice_index octets 21)

-- how many octets of an entry are for other use (position 22), or 0 where that is no digit
abbrev pub other_octets : List ℕ → ℕ
other_octets octets = digit_or 0 (slice_index octets 22)

-- the octets of a directory entry: a tag of three, and those parts
abbrev pub entry_len : List ℕ → ℕ
entry_len octets = 3 + length_digits octets + start_digits octets + other_octets octets

-- ---- the octets of the record itself

-- as many octets from the front on as the number says; all of them where there is no number, where it is less than a
-- leader has, and where it is more than there are
abbrev pub front_of : List ℕ → Option ℕ → List ℕ
front_of octets None = octets
front_of octets (Some len) = if nat_le 24 len && nat_le len (length octets) then take len octets else octets

-- the octets of the record itself, without what stands behind it: as many as the leader tells (positions 0 to 4), where
-- it is whole and tells a number of octets that can be; else all of them
unfoldable pub own_octets : List ℕ → List ℕ
own_octets octets = if nat_lt (length octets) 24 then octets else front_of octets (number (take 5 octets))

-- ---- the directory and what it tells of

-- the field terminator, and the record terminator
abbrev pub is_end : ℕ → Bool
is_end x = x == 0x1E || x == 0x1D

-- the octets from position 24 to the first terminator, or to this base address; none without a base address
abbrev pub directory_to : List ℕ → Option ℕ → List ℕ
directory_to octets None = []
directory_to octets (Some at) = before_first is_end (slice_range octets 24 at)

-- the directory: what stands between the leader and its terminator, or the base address
unfoldable pub directory : List ℕ → List ℕ
directory octets = directory_to octets (base_address octets)

-- the octets from this base address on; none without a base address
abbrev pub from_base : List ℕ → Option ℕ → List ℕ
from_base octets None = []
from_base octets (Some at) = drop at octets

-- what stands from the base address on
unfoldable pub contents : List ℕ → List ℕ
contents octets = from_base octets (base_address octets)

-- as many entries, each as long as that
abbrev pub entries : ℕ → ℕ → List ℕ → List (List ℕ)
entries len zero octets = []
entries len (suc n) octets = take len octets ∷ entries len n (drop len octets)

-- ---- the fields

-- a field of a MARC record: its tag, and its octets
pub record Field : Type 0 where
  pub tag : List ℕ
  pub octets : List ℕ

-- the octets of a field that has this length, with its terminator, and starts there: they end at a terminator
abbrev pub octets_at : List ℕ → Option ℕ → Option ℕ → Option (List ℕ)
octets_at contents (Some len) (Some start) =
    if nat_le (start + len) (length contents)
    then Some (before_first is_end (slice_range contents start (start + len)))
    else None
octets_at contents (Some len) None = None
octets_at contents None start = None

-- the octets that an entry tells of, where it tells of any: its parts, of that many digits, are digits, and its range
-- lies within the contents
unfoldable pub octets_of : List ℕ → ℕ → ℕ → List ℕ → Option (List ℕ)
octets_of contents length_len start_len entry =
    octets_at contents (number (take length_len (drop 3 entry)))
    (number (take start_len (drop length_len (drop 3 entry))))

-- the same, where the entry has this tag
abbrev pub tagged_octets : List ℕ → ℕ → ℕ → List ℕ → List ℕ → Option (List ℕ)
tagged_octets contents length_len start_len tag entry =
    if bytes_eq (take 3 entry) tag then octets_of contents length_len start_len entry else None

-- the field that an entry with parts of that many digits tells of: its tag and its octets; none where the entry tells
-- of no octets
abbrev pub field_told : List ℕ → ℕ → ℕ → List ℕ → Option Field
field_told contents length_len start_len entry =
    option_map (λ found. record { tag = take 3 entry; octets = found }) (octets_of contents length_len start_len entry)

-- the field that an entry of the directory tells of
abbrev pub field_of : List ℕ → List ℕ → Option Field
field_of octets entry = field_told (contents octets) (length_digits octets) (start_digits octets) entry

-- how many entries the directory has
abbrev pub entry_count : List ℕ → ℕ
entry_count octets = length (directory octets) / entry_len octets

-- the fields, in the order of the directory; entries that tell of none are left out
abbrev pub fields : List ℕ → List Field
fields octets = filter_map (field_of octets) (entries (entry_len octets) (entry_count octets) (directory octets))

-- the field has this tag, octet by octet
abbrev pub has_tag : List ℕ → Field → Bool
has_tag tag f = bytes_eq f.tag tag

-- the octets of each field that has this tag, in order
unfoldable pub tagged_fields : List ℕ → List ℕ → List (List ℕ)
tagged_fields tag octets = map (λ f. f.octets) (filter (has_tag tag) (fields octets))

-- the octets of the first field that has this tag
unfoldable pub first_field : List ℕ → List ℕ → Option (List ℕ)
first_field tag octets = option_map (λ f. f.octets) (find (has_tag tag) (fields octets))

-- how many octets an entry tells of
abbrev pub told_len : Option (List ℕ) → ℕ
told_len None = 0
told_len (Some found) = length found

-- the octets that the entries tell of, counted as often as one tells of them
unfoldable pub told_total : List ℕ → ℕ
told_total octets =
    sum_by (λ e. told_len (octets_of (contents octets) (length_digits octets) (start_digits octets) e))
    (entries (entry_len octets) (entry_count octets) (directory octets))

-- the octets are a record: they are fewer than 2^32, the leader tells where the data begin, and the entries do not tell
-- of the same octets over and over: together of at most 16 times as many as there are, so that reading a record takes
-- time in proportion to its length
unfoldable pub is_record : List ℕ → Bool
is_record octets =
    nat_lt (length octets) (2 ^ 32) && is_some (base_address octets) && nat_le (told_total octets) (16 * length octets)

-- how many entries tell of no octets
abbrev pub lost_count : List ℕ → ℕ
lost_count octets =
    count_by (λ e. is_none (octets_of (contents octets) (length_digits octets) (start_digits octets) e))
    (entries (entry_len octets) (entry_count octets) (directory octets))
