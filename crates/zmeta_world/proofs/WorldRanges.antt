-- Ranges, one after the other.
use Rattle.std.proofs.Common.{◌≡◌, ◌∙◌, sym, ap, ℕ, ◌+◌, ◌-◌, ◌==◌, List, [], ◌∷◌, ◌++◌, Option, Some, None, refl, append_assoc, append-nil}
use Rattle.std.specs.List.{slice_split}
use Rattle.std.specs.Option.{option_map, option_and_then}
use Rattle.zplan.specs.declared.range.Range.{Range}
use Rattle.zmeta_world.specs.World.{pieces}
use Rattle.zmeta_world.specs.WorldWants.{ends_in, count, range, ranges_in}

behind : List Range → Option (List Range) → Option (List Range)
behind ranges rest = option_map (λ rs. ranges ++ rs) rest

onto : (ranges : List Range) (r : Range) (rest : Option (List Range)) → behind ranges (option_map (λ rs. r ∷ rs) rest) ≡ option_map (λ rs. (ranges ++ r ∷ []) ++ rs) rest
unfolding behind
onto ranges r None = refl
onto ranges r (Some rs) = ap Some (sym (append_assoc ranges (r ∷ []) rs))

then : ℕ → List (List ℕ) → ℕ × ℕ → Option (List Range)
then room texts ends = option_map (λ ranges. range ends ∷ ranges) (ranges_in (ends.1 + 2) (room - count ends) texts)

pub ranges_step : (ranges : List Range) (low room : ℕ) (texts text : List ℕ) (after : Option (List ℕ)) (ends : ℕ × ℕ) (total : Option (List Range)) → slice_split (λ b. b == 44) texts ≡ text ∷ pieces 44 after → ends_in low room text ≡ Some ends → option_map (λ rs. ranges ++ rs) (ranges_in low room (pieces 44 (Some texts))) ≡ total → option_map (λ rs. (ranges ++ range ends ∷ []) ++ rs) (ranges_in (ends.1 + 2) (room - count ends) (pieces 44 after)) ≡ total
unfolding behind then
ranges_step ranges low room texts text after ends total cut is h =
    sym (onto ranges (range ends) (ranges_in (ends.1 + 2) (room - count ends) (pieces 44 after)))
    ∙ ap (λ z. behind ranges (option_and_then (then room (pieces 44 after)) z)) (sym is)
    ∙ ap (λ z. behind ranges (ranges_in low room z)) (sym cut)
    ∙ h

pub ranges_stop : (ranges : List Range) (low room : ℕ) (texts text : List ℕ) (after : Option (List ℕ)) (total : Option (List Range)) → slice_split (λ b. b == 44) texts ≡ text ∷ pieces 44 after → ends_in low room text ≡ None → option_map (λ rs. ranges ++ rs) (ranges_in low room (pieces 44 (Some texts))) ≡ total → total ≡ None
unfolding behind then
ranges_stop ranges low room texts text after total cut is h =
    sym h
    ∙ ap (λ z. behind ranges (ranges_in low room z)) cut
    ∙ ap (λ z. behind ranges (option_and_then (then room (pieces 44 after)) z)) is

pub ranges_end : (ranges : List Range) (low room : ℕ) (total : Option (List Range)) → option_map (λ rs. ranges ++ rs) (ranges_in low room (pieces 44 None)) ≡ total → total ≡ Some ranges
ranges_end ranges low room total h = sym h ∙ ap Some (append-nil ranges)
