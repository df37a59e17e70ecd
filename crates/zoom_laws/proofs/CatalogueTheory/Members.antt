-- Members of lists, and the entries at positions.
use Rattle.std.proofs.Common.{◌≡◌, inl, inr, ℕ, zero, suc, ◌-◌, ◌<◌, ◌≤◌, List, [], ◌∷◌, ◌++◌, map, take, drop, length, refl, sym, ap, subst, ◌∙◌, arith}
use Rattle.std.specs.Prelude.{pos}
use Rattle.zapdu.specs.declared.productions.record.Record.{Record}
use Rattle.zknow.specs.declared.fact.Fact.{Fact}
use Rattle.zknow.specs.declared.fact.Fact.TheVariants.{Seen}
use Rattle.zplan.specs.Positions.{IsIn}
use Rattle.zorigin_facts.specs.Facts.{seen_at}
use Rattle.ztarget.specs.Positions.{at_positions}

pub to_map : {X Y : Type 0} (g : X → Y) (xs : List X) (x : X) → IsIn x xs → IsIn (g x) (map g xs)
to_map g [] x i = absurd i
to_map g (z ∷ xs) x (inl e) = inl (ap g e)
to_map g (z ∷ xs) x (inr i) = inr (to_map g xs x i)

pub of_map : {X Y : Type 0} (g : X → Y) (xs : List X) (y : Y) → IsIn y (map g xs) → (x : X) × IsIn x xs × (y ≡ g x)
of_map g [] y i = absurd i
of_map g (z ∷ xs) y (inl e) = (z, inl refl, e)
of_map g (z ∷ xs) y (inr i) = let r = of_map g xs y i in (r.0, inr r.1, r.2)

-- ---- positions of a set

-- each position is one of a set of that size
abbrev pub AreWithin : ℕ → List ℕ → Type 0
AreWithin n [] = Unit {0}
AreWithin n (p ∷ ps) = (1 ≤ p) × (p ≤ n) × AreWithin n ps

at_index : {X : Type 0} (xs : List X) (k : ℕ) → k < length xs → (x : X) × (take 1 (drop k xs) ≡ x ∷ [])
at_index [] k h = absurd (omega arith)
at_index (x ∷ xs) zero h = (x, refl)
at_index (x ∷ xs) (suc k) h = at_index xs k (omega arith)

-- there is an entry at it
at_one : {X : Type 0} (xs : List X) (p : ℕ) → 1 ≤ p → p ≤ length xs → (x : X) × (take 1 (drop (p - 1) xs) ≡ x ∷ [])
at_one xs p lo hi = at_index xs (p - 1) (omega arith)

pub length_at : {X : Type 0} (xs : List X) (l : List ℕ) → AreWithin (length xs) l
    → length (at_positions xs l) ≡ length l
length_at xs [] w = refl
length_at xs (p ∷ ps) w =
    let x = at_one xs p w.0 w.1 in
    ap (λ z. length (z ++ at_positions xs ps)) x.1 ∙ ap suc (length_at xs ps w.2)

module _ {X : Type 0} (xs : List X) (make : X → Record) (target : ℕ) where
  head_is : (a b : Record) (rs ss : List Record) → a ∷ rs ≡ b ∷ ss → a ≡ b
  head_is a b rs ss e = cc

  tail_is : (a b : Record) (rs ss : List Record) → a ∷ rs ≡ b ∷ ss → rs ≡ ss
  tail_is a b rs ss e = cc

  first_is : (p : ℕ) (ps : List ℕ) (kept : List Record) (x : X) → take 1 (drop (p - 1) xs) ≡ x ∷ []
      → map make (at_positions xs (p ∷ ps)) ≡ kept → make x ∷ map make (at_positions xs ps) ≡ kept
  first_is p ps kept x at e = sym (ap (λ z. map make (z ++ at_positions xs ps)) at) ∙ e

  -- the records kept are the entries at their positions
  pub of_seen : (l : List ℕ) (kept left : List Record) → AreWithin (length xs) l
      → map make (at_positions xs l) ≡ kept ++ left
      → (f : Fact) → IsIn f (seen_at target 1 l kept)
      → (p : ℕ) × (x : X) × IsIn p (take (length kept) l) × IsIn x (at_positions xs (p ∷ []))
      × (f ≡ Seen target 1 (pos p) (make x))
  of_seen [] kept left w e f i = absurd i
  of_seen (p ∷ ps) [] left w e f i = absurd i
  of_seen (p ∷ ps) (k ∷ ks) left w e f (inl is) =
      let x = at_one xs p w.0 w.1 in
      let both = first_is p ps (k ∷ (ks ++ left)) x.0 x.1 e in
      let same = head_is (make x.0) k (map make (at_positions xs ps)) (ks ++ left) both in (
        p,
        x.0,
        inl refl,
        subst (λ z. IsIn x.0 (z ++ [])) (sym x.1) (inl refl),
        is
            ∙ ap (Seen target 1 (pos p)) (sym same),
      )
  of_seen (p ∷ ps) (k ∷ ks) left w e f (inr j) =
      let x = at_one xs p w.0 w.1 in
      let both = first_is p ps (k ∷ (ks ++ left)) x.0 x.1 e in
      let r = of_seen ps ks left w.2 (tail_is (make x.0) k (map make (at_positions xs ps)) (ks ++ left) both) f j in
      (r.0, r.1, inr r.2, r.3, r.4)

  -- the converse
  pub to_seen : (l : List ℕ) (kept left : List Record) → AreWithin (length xs) l
      → map make (at_positions xs l) ≡ kept ++ left
      → (p : ℕ) (x : X) → IsIn p (take (length kept) l) → IsIn x (at_positions xs (p ∷ []))
      → IsIn (Seen target 1 (pos p) (make x)) (seen_at target 1 l kept)
  to_seen [] kept left w e p x i j = absurd (none kept i)
    where
      none : (ks : List Record) → IsIn p (take (length ks) []) → ⊥
      none [] h = h
      none (k ∷ ks) h = h
  to_seen (r ∷ rs) [] left w e p x i j = absurd i
  to_seen (r ∷ rs) (k ∷ ks) left w e p x (inl is) j =
      let y = at_one xs r w.0 w.1 in
      let both = first_is r rs (k ∷ (ks ++ left)) y.0 y.1 e in
      let same = head_is (make y.0) k (map make (at_positions xs rs)) (ks ++ left) both in
      let only = one (subst (λ z. IsIn x (z ++ [])) y.1 (subst (λ n. IsIn x (at_positions xs (n ∷ []))) is j)) in
      inl ((λ t. Seen target 1 (pos (is t)) (make (only t))) ∙ ap (Seen target 1 (pos r)) same)
    where
      one : {y : X} → IsIn x (y ∷ []) → x ≡ y
      one (inl a) = a
      one (inr a) = absurd a
  to_seen (r ∷ rs) (k ∷ ks) left w e p x (inr i) j =
      let y = at_one xs r w.0 w.1 in
      let both = first_is r rs (k ∷ (ks ++ left)) y.0 y.1 e in
      inr (to_seen rs ks left w.2 (tail_is (make y.0) k (map make (at_positions xs rs)) (ks ++ left) both) p x i j)
