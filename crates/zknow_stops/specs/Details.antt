-- What can be told to people of a connection that stopped.
use Rattle.std.specs.Prelude.{ℕ, Bool, true, false, List, ◌++◌, codes}
use Rattle.std.specs.Fmt.{decimal}
use Rattle.zknow_stops.specs.declared.detail.Detail.{Detail}
use Rattle.zknow_stops.specs.declared.detail.Detail.TheVariants.{NoPort, NoName, NoFamily, Refused, NoRoute, NoAnswer, Silent, HungUp, Reset, NotZ3950, Unfit, TooMany, NoMemory}

-- a number of seconds, as `30 s`
abbrev pub in_seconds : ℕ → List ℕ
in_seconds n = decimal n ++ codes " s"

-- the words
abbrev pub detail_words : Detail → List ℕ
detail_words NoPort = codes "the address has no port"
detail_words NoName = codes "no such name"
detail_words NoFamily = codes "no address of that family"
detail_words Refused = codes "refused"
detail_words NoRoute = codes "no route"
detail_words (NoAnswer seconds) = codes "no answer in " ++ in_seconds seconds
detail_words (Silent seconds) = codes "silent for " ++ in_seconds seconds
detail_words HungUp = codes "hung up"
detail_words Reset = codes "reset"
detail_words NotZ3950 = codes "sent what is no Z39.50"
detail_words Unfit = codes "sent an answer that fits no request"
detail_words TooMany = codes "sent too much"
detail_words NoMemory = codes "no memory was found for it"

-- the catalogue was not reached
abbrev pub is_unreached : Detail → Bool
is_unreached NoPort = true
is_unreached NoName = true
is_unreached NoFamily = true
is_unreached Refused = true
is_unreached NoRoute = true
is_unreached (NoAnswer seconds) = true
is_unreached (Silent seconds) = false
is_unreached HungUp = false
is_unreached Reset = false
is_unreached NotZ3950 = false
is_unreached Unfit = false
is_unreached TooMany = false
is_unreached NoMemory = false
