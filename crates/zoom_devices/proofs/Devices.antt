-- What several calls of a device do, one after the other.
use Rattle.std.proofs.Common.{◌≡◌, ◌∙◌, sym, ap, ℕ, ◌-◌, List, ◌++◌, length, take, drop, Option, None, Some, Ok, append_assoc, take-append-drop}
use Rattle.std.specs.Io.KnownBytes.{Keeps, Appends, Consumes}
use Rattle.std.proofs.KnownBytes.{Appends-trans}
use Rattle.std.proofs.lemmas.List.{take_rest}
use Rattle.zoom_devices.specs.Devices.{DeviceState, AfterWrite}

-- ---- octets written in several calls

-- A front of the octets is written, and the rest is not.
pub record HasWritten (old now : DeviceState) (all rest : List ℕ) : Type 0 where
  pub front : List ℕ
  pub cut : all ≡ front ++ rest
  pub written : Appends old.octets now.octets front
  pub failures : now.failures ≡ old.failures

pub more_written : (E : Type 0) (old now then : DeviceState) (all rest : List ℕ) (n : ℕ) → HasWritten old now all rest
    → AfterWrite {E = E} now then (Ok n) rest → HasWritten old then all (take (length rest - n) (drop n rest))
more_written E old now then all rest n h w = record {
  front = h.front ++ take n rest;
  cut = h.cut ∙ ap (λ l. h.front ++ l) (sym (take-append-drop n rest))
      ∙ sym (append_assoc h.front (take n rest) (drop n rest))
      ∙ ap (λ l. (h.front ++ take n rest) ++ l) (sym (take_rest rest n));
  written = Appends-trans old.octets now.octets then.octets h.front (take n rest) h.written w.octets;
  failures = w.count ∙ h.failures;
}

-- ---- interrupted calls that are repeated

pub keeps_consumes : (a b c : Option (List ℕ)) (xs : List ℕ) → Keeps a b → Consumes b c xs → Consumes a c xs
keeps_consumes None b c xs p q = tt
keeps_consumes (Some x) None c xs p q = absurd p
keeps_consumes (Some x) (Some y) None xs p q = absurd q
keeps_consumes (Some x) (Some y) (Some z) xs p q = sym p ∙ q
