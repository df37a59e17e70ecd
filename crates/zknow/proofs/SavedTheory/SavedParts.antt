-- A saved file that is written element by element.
use Rattle.std.proofs.Common.{◌≡◌, ◌<◌, ℕ, List, [], ◌∷◌, ◌++◌, ◌⊎◌, Option, Some, IsSomeAnd, Contains, length, true, false, sym, ap, subst, ◌∙◌, inl, inr, ⊎_elim, append_assoc}
use Rattle.std.specs.List.{flat_map, AllByRecursion}
use Rattle.std.proofs.lemmas.List.{append-nil}
use Rattle.std.proofs.lemmas.Grind.{flat_map-append}
use Rattle.zber.specs.Elements.{Element, height}
use Rattle.zber.specs.Canonical.{canonical}
use Rattle.zber.specs.Spelling.{HasFirstMessage, IsMessage}
use Rattle.zasn.specs.Place.{Place}
use Rattle.zknow.specs.declared.fact.Fact.{Fact}
use Rattle.zknow.specs.declared.saved.saving.Saving.{Saving}
use Rattle.zknow.specs.Encodings.{encoding, canonical_or_empty}
use Rattle.zknow.specs.Tables.DistinctLaws.{none_in_nil, in_cons, in_head, in_tail}
use Rattle.zknow.specs.Saved.SavedFacts.{saved_names, saved_fact}
use Rattle.zknow.specs.Saved.Saved.{saved, longest, IsWithinLimits, IsTooDeepElement, IsTooLongElement, HasTooDeep, HasTooLong}
use Rattle.zknow.specs.Saved.Saving.{AfterPut, IsAdded, IsLeftOut, IsSavedUpTo}
use Rattle.zknow.specs.declared.saved.saving.SaveError.{SaveError}
use Rattle.std.specs.Prelude.{Result, Ok, Err, OnOk}

module _ {A : Type 0} (p : Place A) (x : A) (n : Element) (is : p.spelling x ≡ Some n) where
  pub encoding_is : encoding p x ≡ canonical n
  encoding_is = ap canonical_or_empty is

  -- an element that a framer takes is one within the limits
  pub framed_fits : HasFirstMessage longest (canonical n ++ []) n [] → IsWithinLimits p x
  framed_fits b =
      let whole : b.message ≡ encoding p x = sym (append-nil b.message) ∙ sym b.cut ∙ append-nil (canonical n) ∙ sym encoding_is in
      record { node = n; message = subst (IsMessage longest n) whole b.is; says = p.makes x n is }

  pub long_is : IsTooLongElement p x → longest < length (canonical n)
  long_is h = subst (λ (o : Option Element). IsSomeAnd o (λ m. longest < length (canonical m))) is h

  pub deep_is : IsTooDeepElement p x → 64 < height n
  deep_is h = subst (λ (o : Option Element). IsSomeAnd o (λ m. 64 < height m)) is h

module _ {X : Type 0} (P : X → Type 0) where
  pub each_push : (xs : List X) (x : X) → AllByRecursion P xs → P x → AllByRecursion P (xs ++ x ∷ [])
  each_push [] x all one = (one, tt)
  each_push (y ∷ ys) x all one = (all.0, each_push ys x all.1 one)

module _ {X : Type 0} where
  pub in_push : (xs : List X) (x y : X) → Contains (xs ++ x ∷ []) y → Contains xs y ⊎ (x ≡ y)
  in_push [] x y h = ⊎_elim inr (λ never. absurd (none_in_nil y never)) (in_cons x [] y h)
  in_push (z ∷ zs) x y h = ⊎_elim (λ same. inl (subst (Contains (z ∷ zs)) same (in_head z zs))) (λ later. ⊎_elim (λ i. inl (in_tail z zs y i)) inr (in_push zs x y later)) (in_cons z (zs ++ x ∷ []) y h)

  pub in_front : (xs : List X) (x y : X) → Contains xs y → Contains (xs ++ x ∷ []) y
  in_front [] x y h = absurd (none_in_nil y h)
  in_front (z ∷ zs) x y h = ⊎_elim (λ same. subst (Contains (z ∷ (zs ++ x ∷ []))) same (in_head z (zs ++ x ∷ []))) (λ later. in_tail z (zs ++ x ∷ []) y (in_front zs x y later)) (in_cons z zs y h)

  pub in_last : (xs : List X) (x : X) → Contains (xs ++ x ∷ []) x
  in_last [] x = in_head x []
  in_last (z ∷ zs) x = in_tail z (zs ++ x ∷ []) x (in_last zs x)

pub saved_push : (names : List (List ℕ)) (facts : List Fact) (f : Fact) → saved names (facts ++ f ∷ []) ≡ saved names facts ++ encoding saved_fact f
saved_push names facts f =
    ap (λ l. encoding saved_names names ++ l) (flat_map-append (encoding saved_fact) facts (f ∷ []) ∙ ap (λ l. flat_map (encoding saved_fact) facts ++ l) (append-nil (encoding saved_fact f)))
    ∙ sym (append_assoc (encoding saved_names names) (flat_map (encoding saved_fact) facts) (encoding saved_fact f))

module _ (f : Fact) (old new : Saving) (shallow : IsTooDeepElement saved_fact f → ⊥) (names : List (List ℕ)) (facts : List Fact) (up : IsSavedUpTo names facts old) where
  still_shallow : HasTooDeep names (facts ++ f ∷ []) → ⊥
  still_shallow deep = ⊎_elim
      (λ of_names. up.shallow (inl of_names))
      (λ h. ⊎_elim (λ earlier. up.shallow (inr (h.0, earlier, h.2))) (λ same. shallow (subst (IsTooDeepElement saved_fact) (sym same) h.2)) (in_push facts f h.0 h.1))
      deep

  still_long : HasTooLong names facts → HasTooLong names (facts ++ f ∷ [])
  still_long long = ⊎_elim inl (λ h. inr (h.0, in_front facts f h.0 h.1, h.2)) long

  still_short : (IsTooLongElement saved_fact f → ⊥) → (HasTooLong names facts → ⊥) → HasTooLong names (facts ++ f ∷ []) → ⊥
  still_short fine before long = ⊎_elim
      (λ of_names. before (inl of_names))
      (λ h. ⊎_elim (λ earlier. before (inr (h.0, earlier, h.2))) (λ same. fine (subst (IsTooLongElement saved_fact) (sym same) h.2)) (in_push facts f h.0 h.1))
      long

  never : new.long ≡ true → new.long ≡ false → ⊥
  never is not = let a = is in let b = not in absurd cc

  pub saved_more : IsAdded saved_fact f old new ⊎ IsLeftOut saved_fact f old new → IsSavedUpTo names (facts ++ f ∷ []) new
  saved_more (inl added) = record {
    shallow = still_shallow;
    long = λ e. still_long (up.long (sym added.long ∙ e));
    short = λ e. still_short added.short (up.short (sym added.long ∙ e));
    octets = λ e. added.octets ∙ ap (λ l. l ++ encoding saved_fact f) (up.octets (sym added.long ∙ e)) ∙ sym (saved_push names facts f);
    names_fit = λ e. up.names_fit (sym added.long ∙ e);
    facts_fit = λ e. each_push (IsWithinLimits saved_fact) facts f (up.facts_fit (sym added.long ∙ e)) added.fits;
  }
  saved_more (inr left) = record {
    shallow = still_shallow;
    long = λ e. inr (f, in_last facts f, left.is);
    short = λ e. absurd (never left.long e);
    octets = λ e. absurd (never left.long e);
    names_fit = λ e. absurd (never left.long e);
    facts_fit = λ e. absurd (never left.long e);
  }

pub on_added : (f : Fact) (old new : Saving) (r : Result (Unit {0}) SaveError) → AfterPut saved_fact f old r new → OnOk r ((names : List (List ℕ)) (facts : List Fact) → IsSavedUpTo names facts old → IsSavedUpTo names (facts ++ f ∷ []) new)
on_added f old new (Ok u) h = λ names facts up. saved_more f old new h.0 names facts up h.1
on_added f old new (Err e) h = tt

-- the names, first of all
pub names_added : (names : List (List ℕ)) (old new : Saving) (r : Result (Unit {0}) SaveError) → old.octets.items ≡ [] → old.long ≡ false → AfterPut saved_names names old r new → OnOk r (IsSavedUpTo names [] new)
names_added names old new (Ok u) none short (deep, inl added) = record {
  shallow = λ h. ⊎_elim deep (λ f. none_in_nil f.0 f.1) h;
  long = λ e. let other = added.long in absurd cc;
  short = λ e h. ⊎_elim added.short (λ f. none_in_nil f.0 f.1) h;
  octets = λ e. added.octets ∙ ap (λ l. l ++ encoding saved_names names) none ∙ sym (append-nil (encoding saved_names names));
  names_fit = λ e. added.fits;
  facts_fit = λ e. tt;
}
names_added names old new (Ok u) none short (deep, inr left) = record {
  shallow = λ h. ⊎_elim deep (λ f. none_in_nil f.0 f.1) h;
  long = λ e. inl left.is;
  short = λ e. let other = left.long in absurd cc;
  octets = λ e. let other = left.long in absurd cc;
  names_fit = λ e. let other = left.long in absurd cc;
  facts_fit = λ e. tt;
}
names_added names old new (Err e) none short h = tt
