-- A place whose values are those of another place that pass a test.
use Rattle.std.specs.Prelude.{◌≡◌, Bool, true, false, Option, Some, None, if◌then◌else◌}
use Rattle.std.proofs.Common.{refl, ap, subst, ◌∙◌, cond}
use Rattle.zber.specs.Elements.{Element}
use Rattle.zasn.specs.Building.{◌>>=◌}
use Rattle.zasn.specs.Place.{Place}

module _ {A : Type 0} (p : Place A) (test : A → Bool) where
  -- the value, if it passes
  abbrev pub passing : A → Option A
  passing x = if test x then Some x else None

  -- the value of an element, if it passes
  abbrev pub limited_meaning : Element → Option A
  limited_meaning n = p.meaning n >>= passing

  -- the element of a value that passes
  abbrev pub limited_spelling : A → Option Element
  limited_spelling x = if test x then p.spelling x else None

  -- the element has the value, and the value passes
  abbrev pub LimitedWrites : A → Element → Type 0
  LimitedWrites x n = p.writes x n × (test x ≡ true)

  by_test : (x y : A) (b : Bool) → test y ≡ b → cond b (Some y) None ≡ Some x → (y ≡ x) × (test x ≡ true)
  by_test x y true is e = let same : y ≡ x = cc in (same, subst (λ (z : A). test z ≡ true) same is)
  by_test x y false is e = absurd cc

  pub passed : (x : A) (o : Option A) → (o >>= passing) ≡ Some x → (o ≡ Some x) × (test x ≡ true)
  passed x None e = absurd cc
  passed x (Some y) e = let by = by_test x y (test y) refl e in (ap (λ (z : A). Some z) by.0, by.1)

  pub limited_makes : (x : A) (n : Element) (b : Bool) → test x ≡ b → cond b (p.spelling x) None ≡ Some n
      → LimitedWrites x n
  limited_makes x n true is e = (p.makes x n e, is)
  limited_makes x n false is e = absurd cc

  pub limited_none : (x : A) (b : Bool) → test x ≡ b → cond b (p.spelling x) None ≡ None → (n : Element)
      → LimitedWrites x n → ⊥
  limited_none x true is e n h = p.none x e n h.0
  limited_none x false is e n h = let bad = h.1 in absurd cc

  -- the place, given a value that passes and its element
  abbrev pub limited : (x : A) (n : Element) → LimitedWrites x n → Place A
  limited x n h = record {
    tags = p.tags;
    writes = LimitedWrites;
    meaning = limited_meaning;
    spelling = limited_spelling;
    some = (x, n, h);
    begins = λ y m k. p.begins y m k.0;
    reads = λ y m b e. let by = passed y (p.meaning m) e in (p.reads y m b by.0, by.1);
    finds =
        λ y m k. ap (λ (o : Option A). o >>= passing) (p.finds y m k.0) ∙ ap (λ (b : Bool). cond b (Some y) None) k.1;
    makes = λ y m e. limited_makes y m (test y) refl e;
    none = λ y e m k. limited_none y (test y) refl e m k;
  }
