-- Facts on the times by connection, and on the same by time.
use Rattle.std.specs.Prelude.{◌≡◌, ℕ, ◌<◌, ◌≤◌, ◌↔◌, ◌⊎◌, Bool, true, false, cond, ◌&&◌, List, [], ◌∷◌, length}
use Rattle.std.specs.Prelude.{Option, None, Some, slice_get, slice_set, IsTrue}
use Rattle.std.proofs.Common.{zero, suc, inl, inr, eqb, refl, sym, ap, ◌∙◌, subst, arith}
use Rattle.std.specs.Ordering.{nat_cmp, is_gt}
use Rattle.std.specs.Cmp.{unsigned_ties, both_tied, nat_eq_equiv}
use Rattle.std.specs.Cmp.Lexicographic.{options_equiv}
use Rattle.std.specs.Option.{option_eq}
use Rattle.std.specs.List.{list_any}
use Rattle.std.specs.BTreeMap.{is_at}
use Rattle.std.specs.BTreeSet.{BTreeSet, contains, IsLowerBound}
use Rattle.std.proofs.lemmas.Bool.{cases_eq, cond-false, ne_eqb, eq-eqb, and_right, false_from_ne_true, both_ways}
use Rattle.std.proofs.lemmas.Bool.Decides.{nat_tests, eqb_tells}
use Rattle.zoom_clock.specs.declared.wakes.Wakes.TheInside.{Inside}
use Rattle.zoom_clock.specs.Wakes.{by_time, IsInOrder, NoneBefore}

-- what was written at i
get_written : {X : Type 0} (xs : List X) (i : ℕ) (x : X) → i < length xs → slice_get (slice_set xs i x) i ≡ Some x
get_written [] i x h = absurd (omega arith)
get_written (y ∷ ys) zero x h = refl
get_written (y ∷ ys) (suc i) x h = get_written ys i x (omega arith)

-- what is elsewhere
get_unwritten : {X : Type 0} (xs : List X) (i j : ℕ) (x : X) → (j ≡ i → ⊥)
    → slice_get (slice_set xs i x) j ≡ slice_get xs j
get_unwritten [] i j x apart = refl
get_unwritten (y ∷ ys) zero zero x apart = absurd (apart refl)
get_unwritten (y ∷ ys) zero (suc j) x apart = refl
get_unwritten (y ∷ ys) (suc i) zero x apart = refl
get_unwritten (y ∷ ys) (suc i) (suc j) x apart = get_unwritten ys i j x (λ e. apart (ap suc e))

-- two keys are equal if their times and connections are
at_key : (t c u d : ℕ) → is_at (by_time (t, c)) (u, d) ≡ (eqb t u && eqb c d)
at_key t c u d = sym (both_tied (eqb t u) (eqb c d) (nat_cmp t u) (nat_cmp c d) (unsigned_ties t u) (unsigned_ties c d))

-- a key that is not above another has no later time
no_later : (p q : ℕ × ℕ) → is_gt (by_time p q) ≡ false → p.0 ≤ q.0
no_later p q h = grind (arith, nat_tests)

-- what the first key says: its connection has its time, and none has an earlier one
pub record IsFirst (times : List (Option ℕ)) (p : ℕ × ℕ) : Type 0 where
  pub has : slice_get times p.1 ≡ Some (Some p.0)
  pub least : NoneBefore times p.0

pub first_is : (i : Inside) (times : List (Option ℕ)) (p : ℕ × ℕ) → i.times.items ≡ times
    → IsInOrder i.times.items i.order → IsTrue (contains by_time i.order p)
    → IsLowerBound by_time i.order p → IsFirst times p
first_is i times p is ok member lower = rw (← is) (record {
  has = (ok p.1 p.0).0 member;
  least = λ c u h. no_later p (u, c) (lower (u, c) ((ok c u).1 h));
})

some_key : {K : Type 0} (test : K → Bool) (keys : List K) → list_any test keys ≡ true → 0 < length keys
some_key test [] h = cc
some_key test (k ∷ ks) h = omega arith

-- where there is no key, no connection has a time
pub none_is : (i : Inside) (times : List (Option ℕ)) → i.times.items ≡ times → IsInOrder i.times.items i.order
    → (0 < length i.order.keys → ⊥) → (c t : ℕ) → slice_get times c ≡ Some (Some t) → ⊥
none_is i times is ok empty c t h = empty (some_key (is_at (by_time (t, c))) i.order.keys ((ok c t).1 (is_here is h)))
  where
    is_here : i.times.items ≡ times → slice_get times c ≡ Some (Some t) → slice_get i.times.items c ≡ Some (Some t)
    is_here e g = rw e g

-- whether the option has the time
has : Option ℕ → ℕ → Bool
has None t = false
has (Some u) t = eqb u t

has_tells : (o : Option ℕ) (t : ℕ) → ((has o t ≡ true) × (o ≡ Some t)) ⊎ ((has o t ≡ false) × (o ≡ Some t → ⊥))
unfolding has
has_tells None t = inr (refl, λ e. cc)
has_tells (Some u) t = elim (eqb_tells u t) [ inl e ↦ inl (e.0, ap Some e.1) | inr e ↦ inr (e.0, λ h. e.1 (cc)) ]

-- n has the time of c, if there is one, exactly if b is true, and else what s has
abbrev pub Puts : Bool → ℕ → Option ℕ → BTreeSet (ℕ × ℕ) → BTreeSet (ℕ × ℕ) → Type 0
Puts b c None s n = n ≡ s
Puts b c (Some t) s n = (q : ℕ × ℕ) → contains by_time n q ≡ cond (is_at (by_time (t, c)) q) b (contains by_time s q)

and_true : (a b : Bool) → b ≡ true → (a && b) ≡ a
and_true true b h = h
and_true false b h = refl

puts_here : (b : Bool) (c : ℕ) (o : Option ℕ) (s n : BTreeSet (ℕ × ℕ)) → Puts b c o s n → (t : ℕ)
    → contains by_time n (t, c) ≡ cond (has o t) b (contains by_time s (t, c))
unfolding has
puts_here b c None s n p t = rw p
puts_here b c (Some u) s n p t =
    let here : is_at (by_time (u, c)) (t, c) ≡ eqb u t =
    at_key u c t c ∙ and_true (eqb u t) (eqb c c) (eq-eqb c c refl) in
    p (t, c) ∙ ap (λ x. cond x b (contains by_time s (t, c))) here

puts_elsewhere : (b : Bool) (c : ℕ) (o : Option ℕ) (s n : BTreeSet (ℕ × ℕ)) → Puts b c o s n → (d t : ℕ) → (d ≡ c → ⊥)
    → contains by_time n (t, d) ≡ contains by_time s (t, d)
puts_elsewhere b c None s n p d t apart = rw p
puts_elsewhere b c (Some u) s n p d t apart =
    p (t, d) ∙ cond-false (is_at (by_time (u, c)) (t, d)) b (contains by_time s (t, d))
    (at_key u c t d ∙ and_right (eqb u t) (eqb c d) (ne_eqb c d (λ e. apart (sym e))))

put_alone : (time : Option ℕ) (t : ℕ) → (cond (has time t) true false ≡ true) ↔ (time ≡ Some t)
put_alone time t = elim (has_tells time t) [
  | inl o ↦ rw o.0 ((λ e. o.1), λ e. refl)
  | inr o ↦ rw o.0 ((λ e. cc), λ e. absurd (o.1 e))
]

-- the new time was put in, and then the old one taken out
exchanged : (old time : Option ℕ) (t : ℕ) (b : Bool) → (old ≡ time → ⊥) → ((b ≡ true) ↔ (old ≡ Some t))
    → (cond (has old t) false (cond (has time t) true b) ≡ true) ↔ (time ≡ Some t)
exchanged old time t b new is = elim (has_tells old t) [
  | inl o ↦ rw o.0 ((λ e. cc), λ e. absurd (new (o.1 ∙ sym e)))
  | inr o ↦ rw (o.0, false_from_ne_true b (λ e. o.1 (is.0 e))) (put_alone time t)
]

-- the time of c was changed in both
pub order_kept : (times : List (Option ℕ)) (c : ℕ) (old time : Option ℕ) (s m n : BTreeSet (ℕ × ℕ)) → IsInOrder times s
    → c < length times → slice_get times c ≡ Some old → (old ≡ time → ⊥) → Puts true c time s m → Puts false c old m n
    → IsInOrder (slice_set times c time) n
order_kept times c old time s m n ok within was new added removed d t = elim (cases_eq d c) [
  | inl e ↦
      let is : (contains by_time s (t, c) ≡ true) ↔ (old ≡ Some t) =
      (λ h. cc (was, (ok c t).0 h), λ h. (ok c t).1 (was ∙ ap Some h)) in
      let changed = exchanged old time t (contains by_time s (t, c)) new is in
      rw (e, get_written times c time within, puts_here false c old m n removed t, puts_here true c time s m added t)
      (λ h. ap Some (changed.0 h), λ h. changed.1 (cc))
  | inr apart ↦
      let out = puts_elsewhere false c old m n removed d t apart in
      let put = puts_elsewhere true c time s m added d t apart in
      rw (get_unwritten times c d time apart, out, put)
      (ok d t)
]

-- a change of the set, with the list as it was
pub record Step (b : Bool) (c : ℕ) (o : Option ℕ) (i j : Inside) : Type 0 where
  pub times : j.times.items ≡ i.times.items
  pub puts : Puts b c o i.order j.order

-- what `==` says if it is false
pub differ : (a b : Option ℕ) → option_eq eqb a b ≡ false → a ≡ b → ⊥
differ a b h e =
    both_ways (option_eq eqb a b) h
    (subst (λ x. option_eq eqb a x ≡ true) e ((options_equiv nat_eq_equiv).refl a))
