-- Why the connection to a host stopped, in words.
use Rattle.std.specs.Prelude.{ℕ, Bool, false, ◌==◌, if◌then◌else◌, List, [], ◌∷◌, ◌++◌, codes, length, drop}
use Rattle.std.specs.Fmt.{decimal}
use Rattle.std.specs.List.{before_first}
use Rattle.zknow_stops.specs.declared.detail.Detail.{Detail}
use Rattle.zknow_stops.specs.declared.detail.Detail.TheVariants.{NoPort, NoName, NoFamily, Refused, NoRoute, NoAnswer, Silent, HungUp, Reset, NotZ3950, Unfit, TooMany, NoMemory}
use Rattle.zmeta_explain.specs.declared.stops.Stopped.{Stopped}
use Rattle.zmeta_explain.specs.Places.{is_colon, from_first}
use Rattle.zmeta_explain.specs.Shown.{name_text}

-- ---- parts of an address

-- the address begins with an address of IPv6 in brackets
abbrev pub is_bracketed : List ℕ → Bool
is_bracketed [] = false
is_bracketed (x ∷ xs) = x == 0x5B

-- what stands in front of the port; the name, if there is no address
abbrev pub host_of : List ℕ → List ℕ → List ℕ
host_of name address =
    if length address == 0 then name
    else if is_bracketed address then address
    else before_first is_colon address

-- the port, behind the first colon; none for an address in brackets
abbrev pub port_of : List ℕ → List ℕ
port_of address =
    if is_bracketed address then [] else drop 1 (from_first is_colon address)

-- ---- words

-- of a host that refused to connect at this port
abbrev pub refused_words : List ℕ → List ℕ → List ℕ
refused_words host port =
    if length port == 0 then name_text host ++ codes " refused the connection; no server is there"
    else name_text host ++ codes " refused the connection at port " ++ name_text port
    ++ codes "; no server is there"

-- of a host, its port and what is known of the reason
abbrev pub detail_words : List ℕ → List ℕ → Detail → List ℕ
detail_words host port NoPort =
    codes "the address of " ++ name_text host ++ codes " has no port; write it as " ++ name_text host ++ codes ":210"
detail_words host port NoName = codes "no host has the name " ++ name_text host ++ codes "; is it spelled right?"
detail_words host port NoFamily =
    name_text host ++ codes " has no address of that family; leave out -4 or -6"
detail_words host port Refused = refused_words host port
detail_words host port NoRoute = codes "no route leads to " ++ name_text host ++ codes "; is the network up?"
detail_words host port (NoAnswer seconds) =
    name_text host ++ codes " gave no answer in " ++ decimal seconds
    ++ codes " s; --connect sets how long that may take"
detail_words host port (Silent seconds) =
    name_text host ++ codes " was silent for " ++ decimal seconds
    ++ codes " s; --patience sets how long that may be"
detail_words host port HungUp = name_text host ++ codes " ended the connection before it had answered"
detail_words host port Reset = codes "the connection to " ++ name_text host ++ codes " broke"
detail_words host port NotZ3950 =
    name_text host ++ codes " sent what is no Z39.50; is the port that of its catalogue?"
detail_words host port Unfit = name_text host ++ codes " sent an answer that fits no request"
detail_words host port TooMany = name_text host ++ codes " sent more than is read of one catalogue"
detail_words host port NoMemory = codes "no memory was found for what " ++ name_text host ++ codes " sent"

-- of a connection that stopped
abbrev pub stop_words : Stopped → List ℕ
stop_words s = detail_words (host_of s.name.now s.address.now) (port_of s.address.now) s.detail
