-- What can be wrong with octets that are to be messages, in words.
use Rattle.std.specs.Prelude.{ℕ, List, ◌++◌, codes}
use Rattle.std.specs.Fmt.{decimal}
use Rattle.zber.specs.declared.fault.FaultKind.{FaultKind}
use Rattle.zber.specs.declared.fault.FaultKind.TheVariants.{TagForm, TagTooLarge, StrayEnd, LengthForm, IndefinitePrimitive, Overrun, TooLong, TooDeep, Truncated}

-- Of octets that are no message, for this reason. The number is that of the octets in front of the header at fault; if
-- the octets end too early, of those that are left.
abbrev pub frame_words : FaultKind → ℕ → List ℕ
frame_words TagForm at =
    codes "the tag behind " ++ decimal at
    ++ codes " octets has a form that BER forbids; are these octets from the front of a message?"
frame_words TagTooLarge at = codes "the tag behind " ++ decimal at ++ codes " octets is larger than 4294967295"
frame_words StrayEnd at =
    codes "the end of contents behind " ++ decimal at ++ codes " octets ends no element that is open"
frame_words LengthForm at =
    codes "the length of the element behind " ++ decimal at ++ codes " octets has a form that BER forbids"
frame_words IndefinitePrimitive at =
    codes "the element behind " ++ decimal at ++ codes " octets is primitive, and its length is not definite"
frame_words Overrun at =
    codes "the element behind " ++ decimal at ++ codes " octets is longer than the one around it"
frame_words TooLong at =
    codes "the element behind " ++ decimal at ++ codes " octets makes the message longer than 2097152 octets"
frame_words TooDeep at = codes "the element behind " ++ decimal at ++ codes " octets is deeper than 64 others"
frame_words Truncated at =
    codes "the last " ++ decimal at ++ codes " octets are not a whole message; give the others too"
