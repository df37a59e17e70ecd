-- Marks at the end, one after the other.
use Rattle.std.proofs.Common.{◌≡◌, ℕ, ◌+◌, ◌-◌, ◌<◌, ◌≤◌, true, false, cond, Some, None, List, [], ◌∷◌, ◌++◌, length, take, get_or, eqb, eqb→eq, refl, sym, ap, subst, ◌∙◌, arith}
use Rattle.std.proofs.Math.Dec.{T}
use Rattle.std.specs.Borrow.{Bor}
use Rattle.std.specs.Option.{option_to_list}
use Rattle.std.proofs.lemmas.List.{take_more}
use Rattle.zmarc.specs.Fields.{is_mark, octet_before, without_marks, piece_before, without_end_marks}
use Rattle.zmarc.specs.References.{behind_each}
use Rattle.zmarc.specs.Subfields.{filled}

-- ---- octets

-- a mark at the end is left off
mark_off : (xs : List ℕ) (x : ℕ) → is_mark x ≡ true → without_marks (xs ++ x ∷ []) ≡ without_marks xs
unfolding without_marks
mark_off [] x h = ap (λ b. cond b [] (x ∷ [])) h
mark_off (y ∷ ys) x h = ap (octet_before y) (mark_off ys x h)

before_some : (y x : ℕ) (ys : List ℕ) → octet_before y (ys ++ x ∷ []) ≡ y ∷ ys ++ x ∷ []
before_some y x [] = refl
before_some y x (z ∷ zs) = refl

-- octets that end with no mark stay
others_stay : (xs : List ℕ) (x : ℕ) → is_mark x ≡ false → without_marks (xs ++ x ∷ []) ≡ xs ++ x ∷ []
unfolding without_marks
others_stay [] x h = ap (λ b. cond b [] (x ∷ [])) h
others_stay (y ∷ ys) x h = ap (octet_before y) (others_stay ys x h) ∙ before_some y x ys

-- the last of the first n octets
last_of : (octets : List ℕ) (n : ℕ) → 0 < n → n ≤ length octets
    → take n octets ≡ take (n - 1) octets ++ get_or octets (n - 1) 0 ∷ []
last_of octets n some within =
    let back : n ≡ (n - 1) + 1 = omega arith in
    ap (λ m. take m octets) back ∙ take_more octets (n - 1) 0 (omega arith)

pub off_at : (octets : List ℕ) (n : ℕ) → 0 < n → n ≤ length octets → is_mark (get_or octets (n - 1) 0) ≡ true
    → without_marks (take (n - 1) octets) ≡ without_marks (take n octets)
off_at octets n some within h =
    sym (ap without_marks (last_of octets n some within)
    ∙ mark_off (take (n - 1) octets) (get_or octets (n - 1) 0) h)

pub stay_at : (octets : List ℕ) (n : ℕ) → 0 < n → n ≤ length octets → is_mark (get_or octets (n - 1) 0) ≡ false
    → take n octets ≡ without_marks (take n octets)
stay_at octets n some within h =
    let last = last_of octets n some within in
    last ∙ sym (ap without_marks last ∙ others_stay (take (n - 1) octets) (get_or octets (n - 1) 0) h)

pub none_stay : (octets : List ℕ) (n : ℕ) → n ≡ 0 → take n octets ≡ without_marks (take n octets)
unfolding without_marks
none_stay octets n h = rw h refl

-- ---- pieces

nil_from : (xs : List ℕ) → (eqb (length xs) 0) ≡ true → xs ≡ []
nil_from xs h = no_octets xs (eqb→eq (length xs) 0 (subst T (sym h) tt)) where
  no_octets : (ys : List ℕ) → length ys ≡ 0 → ys ≡ []
  no_octets [] q = refl
  no_octets (y ∷ ys) q = absurd (omega arith)

-- a piece at the end that has marks alone is left off
piece_off : (ps : List (List ℕ)) (p : List ℕ) → without_marks p ≡ []
    → without_end_marks (ps ++ p ∷ []) ≡ without_end_marks ps
unfolding without_end_marks
piece_off [] p h = ap (λ l. option_to_list (filled l)) h
piece_off (q ∷ qs) p h = ap (piece_before q) (piece_off qs p h)

piece_before_some : (q p : List ℕ) (ps : List (List ℕ)) → piece_before q (ps ++ p ∷ []) ≡ q ∷ ps ++ p ∷ []
piece_before_some q p [] = refl
piece_before_some q p (z ∷ zs) = refl

filled_some : (octets : List ℕ) → (eqb (length octets) 0) ≡ false → option_to_list (filled octets) ≡ octets ∷ []
filled_some octets h = ap (λ b. option_to_list (cond b None (Some octets))) h

-- of the last piece that has anything else, the marks at its end are left off
piece_stays : (ps : List (List ℕ)) (p : List ℕ) → (eqb (length (without_marks p)) 0) ≡ false
    → without_end_marks (ps ++ p ∷ []) ≡ ps ++ without_marks p ∷ []
unfolding without_end_marks
piece_stays [] p h = filled_some (without_marks p) h
piece_stays (q ∷ qs) p h = ap (piece_before q) (piece_stays qs p h) ∙ piece_before_some q (without_marks p) qs

behind_more : (found : List (Bor (List ℕ))) (last : Bor (List ℕ))
    → behind_each (found ++ last ∷ []) ≡ behind_each found ++ last.now ∷ []
behind_more [] last = refl
behind_more (f ∷ fs) last = ap (λ l. f.now ∷ l) (behind_more fs last)

pub popped_off : (old new : List (Bor (List ℕ))) (last : Bor (List ℕ)) (kept : List ℕ) → old ≡ new ++ last ∷ []
    → kept ≡ without_marks last.now → (eqb (length kept) 0) ≡ true
    → without_end_marks (behind_each new) ≡ without_end_marks (behind_each old)
popped_off old new last kept popped cut none =
    sym (ap (λ l. without_end_marks (behind_each l)) popped ∙ ap without_end_marks (behind_more new last)
    ∙ piece_off (behind_each new) last.now (sym cut ∙ nil_from kept none))

pub popped_kept : (old new pushed : List (Bor (List ℕ))) (last kept : Bor (List ℕ)) → old ≡ new ++ last ∷ []
    → kept.now ≡ without_marks last.now → (eqb (length kept.now) 0) ≡ false → pushed ≡ new ++ kept ∷ []
    → behind_each pushed ≡ without_end_marks (behind_each old)
popped_kept old new pushed last kept popped cut some push =
    ap (λ l. behind_each l) push ∙ behind_more new kept ∙ ap (λ k. behind_each new ++ k ∷ []) cut
    ∙ sym (ap (λ l. without_end_marks (behind_each l)) popped ∙ ap without_end_marks (behind_more new last)
    ∙ piece_stays (behind_each new) last.now (sym (ap (λ k. eqb (length k) 0) cut) ∙ some))

pub popped_none : (old new : List (Bor (List ℕ))) → length old ≡ 0 → length new ≡ 0
    → behind_each new ≡ without_end_marks (behind_each old)
unfolding without_end_marks
popped_none [] [] h k = refl
popped_none [] (n ∷ ns) h k = absurd (omega arith)
popped_none (o ∷ os) new h k = absurd (omega arith)
