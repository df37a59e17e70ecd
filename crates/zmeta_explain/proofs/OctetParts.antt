-- Parts of a text of octets are octets.
use Rattle.std.proofs.Common.{ℕ, Bool, List, [], ◌∷◌, length, drop}
use Rattle.std.specs.Prelude.{All, ◌==◌}
use Rattle.std.specs.List.{before_first, position_or_len}
use Rattle.std.proofs.lemmas.Bool.{cond_both}
use Rattle.std.proofs.lemmas.List.Elements.{All-nil, All-tail, All-take, All-drop}
use Rattle.zmeta_explain.specs.Laws.{IsOctet}
use Rattle.zmeta_explain.specs.Places.{is_space, is_quote, is_colon, from_first}
use Rattle.zmeta_explain.specs.Tokens.{token_front, token_at}
use Rattle.zmeta_explain.specs.Stops.{is_bracketed, host_of, port_of}

pub front : (xs : List ℕ) → All IsOctet xs → All IsOctet (token_front xs)
front [] h = h
front (x ∷ xs) h =
    cond_both (is_quote x) (before_first is_quote xs) (before_first is_space (x ∷ xs)) (All IsOctet)
    (λ _. All-take IsOctet (position_or_len is_quote xs) xs (All-tail IsOctet x xs h))
    (λ _. All-take IsOctet (position_or_len is_space (x ∷ xs)) (x ∷ xs) h)

pub token : (at : ℕ) (xs : List ℕ) → All IsOctet xs → All IsOctet (token_at at xs)
token at xs h = front (drop at xs) (All-drop IsOctet at xs h)

pub host : (name address : List ℕ) → All IsOctet name → All IsOctet address → All IsOctet (host_of name address)
host name address h k =
    cond_both (length address == 0) name _ (All IsOctet) (λ _. h)
    (λ _. cond_both (is_bracketed address) address (before_first is_colon address) (All IsOctet) (λ _. k)
    (λ _. All-take IsOctet (position_or_len is_colon address) address k))

pub from_octet : (p : ℕ → Bool) (xs : List ℕ) → All IsOctet xs → All IsOctet (from_first p xs)
from_octet p xs h = All-drop IsOctet (position_or_len p xs) xs h

pub port : (address : List ℕ) → All IsOctet address → All IsOctet (port_of address)
port address h =
    cond_both (is_bracketed address) [] (drop 1 (from_first is_colon address)) (All IsOctet) (λ _. All-nil IsOctet)
    (λ _. All-drop IsOctet 1 (from_first is_colon address) (from_octet is_colon address h))
