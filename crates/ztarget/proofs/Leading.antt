-- The numbers that words begin with lie as the words do.
use Rattle.std.proofs.Common.{◌≡◌, refl, ◌∙◌, ap, ℕ, zero, suc, ◌+◌, ◌*◌, ◌<◌, ◌≤◌, List, [], ◌∷◌, arith}
use Rattle.std.proofs.lemmas.Cmp.{nat_list_cmp_total}
use Rattle.std.specs.Cmp.{ranks}
use Rattle.std.specs.Cmp.Lexicographic.{slice_cmp}
use Rattle.std.specs.Ordering.{nat_cmp, ordering_then, ordering_reverse, MatchOrdering}
use Rattle.std.specs.declared.cmp.Ordering.{Ordering}
use Rattle.std.specs.declared.cmp.Ordering.TheVariants.{Less, Equal, Greater}
use Rattle.ztarget.specs.Words.{AreOctetsByIndex, leading}

-- the least that is spelt behind a number is that with zeros
at_least : (n a b : ℕ) (us : List ℕ) → a ≤ b → leading a n [] ≤ leading b n us
at_least zero a b us le = le
at_least (suc n) a b [] le = at_least n (a * 256) (b * 256) [] (omega (arith, le))
at_least (suc n) a b (u ∷ us) le = at_least n (a * 256) (b * 256 + u) us (omega (arith, le))

-- the first octets tell more than those behind
rises : (n a b : ℕ) (us vs : List ℕ) → AreOctetsByIndex us → a < b → leading a n us < leading b n vs
rises zero a b us vs octets less = less
rises (suc n) a b [] [] octets less = rises n (a * 256) (b * 256) [] [] octets (omega (arith, less))
rises (suc n) a b [] (v ∷ vs) octets less = rises n (a * 256) (b * 256 + v) [] vs octets (omega (arith, less))
rises (suc n) a b (u ∷ us) [] octets less =
    let small : u < 256 = octets 0 in
    rises n (a * 256 + u) (b * 256) us [] (λ k. octets (suc k)) (omega (arith, less, small))
rises (suc n) a b (u ∷ us) (v ∷ vs) octets less =
    let small : u < 256 = octets 0 in
    rises n (a * 256 + u) (b * 256 + v) us vs (λ k. octets (suc k)) (omega (arith, less, small))

pub below : (n a : ℕ) (us vs : List ℕ) → AreOctetsByIndex us → AreOctetsByIndex vs → leading a n us < leading a n vs → slice_cmp nat_cmp us vs ≡ Less
below zero a us vs first second less = absurd (omega (arith, less))
below (suc n) a [] [] first second less = absurd (omega (arith, less))
below (suc n) a [] (v ∷ vs) first second less = refl
below (suc n) a (u ∷ us) [] first second less =
    let least = at_least n (a * 256) (a * 256 + u) us (omega arith) in
    absurd (omega (arith, less, least))
below (suc n) a (u ∷ us) (v ∷ vs) first second less = by (below n (a * 256 + u) us vs (λ k. first (suc k)) (λ k. second (suc k))) (nat_cmp u v) refl (ranks u v)
  where
    by : (leading (a * 256 + u) n us < leading (a * 256 + u) n vs → slice_cmp nat_cmp us vs ≡ Less) → (r : Ordering) → nat_cmp u v ≡ r → MatchOrdering r (u < v) (u ≡ v) (v < u) → slice_cmp nat_cmp (u ∷ us) (v ∷ vs) ≡ Less
    by further Less is lies = ap (λ r. ordering_then r (slice_cmp nat_cmp us vs)) is
    by further Equal is lies =
        let same : u ≡ v = lies in
        ap (λ r. ordering_then r (slice_cmp nat_cmp us vs)) is
        ∙ further (rw (← same) at less)
    by further Greater is lies =
        let over : v < u = lies in
        let more = rises n (a * 256 + v) (a * 256 + u) vs us (λ k. second (suc k)) (omega (arith, over)) in
        absurd (omega (arith, less, more))

pub above : (n a : ℕ) (us vs : List ℕ) → AreOctetsByIndex us → AreOctetsByIndex vs → leading a n vs < leading a n us → slice_cmp nat_cmp us vs ≡ Greater
above n a us vs first second more = nat_list_cmp_total.antisymm us vs ∙ ap ordering_reverse (below n a vs us second first more)
