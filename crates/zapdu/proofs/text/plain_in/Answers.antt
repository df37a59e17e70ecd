use Rattle.std.proofs.Common.{ℕ, eqb, ltb, cond, bit_or, refl}
use Rattle.std.proofs.lemmas.Simd.{zip2_splat, zip2_splat_left}
use Rattle.zapdu.proofs.PlainLanes.{joined, plain_within, plain_front}
use Rattle.zapdu.proofs.text.plain_in.Goals as goal

pub returns-clause-within : goal.returns-clause-within
returns-clause-within c =
    let v = c.args.block.now in
    let long = c.told-block in
    plain_within v _ _ long c.first_set.ensures _
    (joined bit_or _ _ v (joined bit_or _ _ v (joined bit_or _ _ v (zip2_splat {Y = ℕ} _ v 16 32 long)
    (zip2_splat_left {X = ℕ} (λ a b. cond (ltb a b) 255 0) 126 16 v long)) (zip2_splat {Y = ℕ} (λ a b. cond (eqb a b) 255 0) v 16 34 long))
    (zip2_splat {Y = ℕ} (λ a b. cond (eqb a b) 255 0) v 16 92 long))

pub returns-clause-plain : goal.returns-clause-plain
returns-clause-plain c =
    let v = c.args.block.now in
    let long = c.told-block in
    plain_front v _ _ long c.first_set.ensures _
    (joined bit_or _ _ v (joined bit_or _ _ v (joined bit_or _ _ v (zip2_splat {Y = ℕ} _ v 16 32 long)
    (zip2_splat_left {X = ℕ} (λ a b. cond (ltb a b) 255 0) 126 16 v long)) (zip2_splat {Y = ℕ} (λ a b. cond (eqb a b) 255 0) v 16 34 long))
    (zip2_splat {Y = ℕ} (λ a b. cond (eqb a b) 255 0) v 16 92 long)) c.fits-block refl
