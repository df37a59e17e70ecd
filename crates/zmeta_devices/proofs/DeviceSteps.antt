-- A text that is written to a stream in pieces.
use Rattle.std.proofs.Common.{◌≡◌, ℕ, ◌-◌, ◌<◌, arith, inl, inr, List, [], ◌++◌, length, take, drop, sym, ap, ◌∙◌, subst, append_assoc, append-nil, take-append-drop, Option, Some, None, refl}
use Rattle.std.proofs.lemmas.List.{take_rest}
use Rattle.std.specs.Io.KnownBytes.{Appends, Keeps, Consumes}
use Rattle.std.proofs.KnownBytes.{Appends-trans, Appends-kept, Appends-nil}
use Rattle.zoom_devices.specs.Devices.{HasAppendedFront, HasFailed}
use Rattle.zmeta_devices.specs.Input.{HasLostFront}
use Rattle.zmeta_devices.specs.Pieces.{WritePieceResult}

-- a front of the text was written, and the rest was not
abbrev pub HasPut : Option (List ℕ) → Option (List ℕ) → List ℕ → List ℕ → Type 0
HasPut old now text rest = (done : List ℕ) × (text ≡ done ++ rest) × Appends old now done

moves_front : (all done rest : List ℕ) (n : ℕ) → all ≡ done ++ rest → all ≡ (done ++ take n rest) ++ take (length rest - n) (drop n rest)
moves_front all done rest n e =
    e ∙ ap (λ l. done ++ l) (sym (take-append-drop n rest)) ∙ sym (append_assoc done (take n rest) (drop n rest)) ∙ ap (λ l. (done ++ take n rest) ++ l) (sym (take_rest rest n))

pub put_more : (old now then : Option (List ℕ)) (text rest : List ℕ) (n : ℕ) → HasPut old now text rest → Appends now then (take n rest) → HasPut old then text (take (length rest - n) (drop n rest))
put_more old now then text rest n h w = (h.0 ++ take n rest, moves_front text h.0 rest n h.1, Appends-trans old now then h.0 (take n rest) h.2 w)

-- the same after a call with this result
pub put_piece : (old now then : Option (List ℕ)) (text rest : List ℕ) (n : ℕ) (r : Option ℕ) → HasPut old now text rest → WritePieceResult now then rest r → r ≡ Some n → HasPut old then text (take (length rest - n) (drop n rest))
put_piece old now then text rest n r h w is = put_more old now then text rest n h (subst (WritePieceResult now then rest) is w)

pub put_all : (old now : Option (List ℕ)) (text rest : List ℕ) → HasPut old now text rest → rest ≡ [] → Appends old now text
put_all old now text rest h empty = subst (Appends old now) (sym (h.1 ∙ ap (λ l. h.0 ++ l) empty ∙ append-nil h.0)) h.2

pub put_front : (old now : Option (List ℕ)) (text rest : List ℕ) → HasPut old now text rest → HasAppendedFront old now text
put_front old now text rest h = record { front = h.0; rest = rest; cut = h.1; written = h.2 }

pub stopped_front : (old now then : Option (List ℕ)) (text rest : List ℕ) → HasPut old now text rest → Appends now then [] → HasAppendedFront old then text
stopped_front old now then text rest h k =
    record { front = h.0; rest = rest; cut = h.1; written = subst (Appends old then) (append-nil h.0) (Appends-trans old now then h.0 [] h.2 k) }

pub none_put : (now : Option (List ℕ)) (text : List ℕ) → HasPut now now text text
none_put now text = ([], refl, Appends-nil now)

-- the pieces of a text that a writer takes: a front, a front until it failed, none yet
pub ruleset piece_steps = (put_front, stopped_front, none_put)

pub nothing_put : (old new : Option (List ℕ)) → Keeps old new → Appends old new []
nothing_put old new k = Appends-kept old old new [] (Appends-nil old) k

-- ---- reads

-- what a reader has is known, as long as what it had is
pub unknown_before : (old new : Option (List ℕ)) (taken : List ℕ) → Consumes old new taken → new ≡ None → old ≡ None
unknown_before None new taken h none = refl
unknown_before (Some xs) None taken h none = absurd h
unknown_before (Some xs) (Some ys) taken h none = absurd cc

-- where it is not known any more, anything may be lost
pub lost_before : (old now new : Option (List ℕ)) (taken : List ℕ) → Consumes old now taken → now ≡ None
    → HasLostFront old new
lost_before None now new taken h none = ([], tt)
lost_before (Some xs) None new taken h none = absurd h
lost_before (Some xs) (Some ys) new taken h none = absurd cc

-- ---- failed calls

pub failed_some : (old new : ℕ) → HasFailed old new → 0 < new
failed_some old new h = elim h [ inl e ↦ omega (arith, e) | inr e ↦ omega (arith, e) ]
