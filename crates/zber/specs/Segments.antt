-- Strings that are cut into segments (X.690, 8.7.3 and 8.23).
use Rattle.std.specs.Prelude.{Bool, true, ◌&&◌, ℕ, List, [], ◌++◌}
use Rattle.zber.specs.AsnTags.{AsnTag, universal}
use Rattle.zber.specs.Elements.{Forest, end, leaf, branch, Element, Primitive, Constructed}
use Rattle.zber.specs.Tags.{same_tag}

-- a segment is an OCTET STRING
abbrev pub is_segment : AsnTag → Bool
is_segment tag = same_tag tag (universal 4)

-- all the elements are segments, at any depth
abbrev pub are_segments : Forest → Bool
are_segments end = true
are_segments (leaf n xs rest) = is_segment n && are_segments rest
are_segments (branch n f rest) = is_segment n && (are_segments f && are_segments rest)

-- the octets of the segments in order
abbrev pub joined : Forest → List ℕ
joined end = []
joined (leaf n xs rest) = xs ++ joined rest
joined (branch n f rest) = joined f ++ joined rest

-- a string is primitive, or all elements within it are segments
abbrev pub is_string : Element → Bool
is_string (Primitive n xs) = true
is_string (Constructed n f) = are_segments f

-- the octets of a string
abbrev pub string_octets : Element → List ℕ
string_octets (Primitive n xs) = xs
string_octets (Constructed n f) = joined f
