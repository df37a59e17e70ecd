-- The element at the front of octets, and the value that it says.
use Rattle.std.proofs.Common.{◌≡◌, ◌≤◌, ℕ, zero, suc, min, Bool, true, false, eqb, List, [], ◌∷◌, ◌++◌, length, take, drop, Option, Some, None, refl, sym, ap, subst, ◌∙◌, ⊎_elim, arith, length-append, take-append-drop}
use Rattle.std.specs.Prelude.{Ok, Err}
use Rattle.std.specs.Cmp.Lexicographic.{pointwise}
use Rattle.std.proofs.lemmas.Bool.Decides.{Decides-eqb}
use Rattle.std.proofs.lemmas.Slice.Eq.{starts_is}
use Rattle.std.proofs.Math.Seq.{take-append_seam}
use Rattle.zber.specs.AsnTags.{AsnTag}
use Rattle.zber.specs.Elements.{Element, tag_of}
use Rattle.zber.specs.Canonical.{IsLawful}
use Rattle.zber.specs.Spelling.{HasFirstMessage}
use Rattle.zber.specs.Stream.{Stream, AfterNext}
use Rattle.zber.specs.declared.fault.FaultKind.{FaultKind}
use Rattle.zber.specs.declared.fault.FrameError.TheVariants.{Fault}
use Rattle.zber.specs.Tags.{among}
use Rattle.zasn.specs.Place.{Place}
use Rattle.zber.proofs.OneOutcome.{one_message, message_or_fault}
use Rattle.zknow.specs.Encodings.{encoding}
use Rattle.zknow.specs.Saved.Saved.{longest}
use Rattle.zknow.specs.Saved.Loaded.{HasFrontValue, HasNoFrontValue}
use Rattle.zknow.specs.Saved.Fronts.{IsFrontElement, IsFrontValue, IsTakenFront, IsNoncanonical}
use Rattle.zber.proofs.Stays.{fault_stays}
use Rattle.zknow.proofs.SavedTheory.OneElement.{canonical_front, odd_front}

-- what stands at the front stands in each window that has room for it
front_kept : (size : ℕ) (front rest : List ℕ) → length front ≤ size → (r : List ℕ) × (take size (front ++ rest) ≡ front ++ r)
front_kept size [] rest within = (take size rest, refl)
front_kept zero (x ∷ front) rest within = absurd (omega (arith, within))
front_kept (suc size) (x ∷ front) rest within =
    let kept = front_kept size front rest (omega (arith, within)) in
    (kept.0, ap (λ (l : List ℕ). x ∷ l) kept.1)

-- ---- what a framer answers that was fed the octets

abbrev pub fed : List ℕ → Stream
fed octets = record { limit = longest; octets = octets; fault = None; asked = false }

pub found_is : (s t : Stream) (octets : List ℕ) (o : Option Element) → s ≡ fed octets → AfterNext s (Ok o) t → IsFrontElement octets o
found_is s t octets None is h =
    let none = (subst (λ (q : Stream). AfterNext q (Ok None) t) is h).1 in
    none.no_message
found_is s t octets (Some n) is h =
    let begins = (subst (λ (q : Stream). AfterNext q (Ok (Some n)) t) is h).1 in
    (t.octets, begins)

pub fault_is : (s t : Stream) (octets : List ℕ) (kind : FaultKind) (at : ℕ) → s ≡ fed octets → AfterNext s (Err (Fault kind at)) t → (more : List ℕ) → IsFrontElement (octets ++ more) None
fault_is s t octets kind at is h more n rest begins =
    let shown = (subst (λ (q : Stream). AfterNext q (Err (Fault kind at)) t) is h).1 in
    ⊎_elim (λ other. absurd cc) (λ shows. message_or_fault longest (octets ++ more) n rest kind at begins (fault_stays longest octets more kind at shows.1)) shown

-- ---- windows

module _ (octets window : List ℕ) (size : ℕ) (is : window ≡ take size octets) where
  pub from_fault : ((more : List ℕ) → IsFrontElement (window ++ more) None) → IsFrontElement octets None
  from_fault none = subst (λ (l : List ℕ). IsFrontElement l None) (ap (λ l. l ++ drop size octets) is ∙ take-append-drop size octets) (none (drop size octets))

  -- no element has more than so many octets
  pub from_longest : (limit wide : ℕ) → limit ≡ min (length octets) longest → size ≡ min wide limit → limit ≤ wide → IsFrontElement window None → IsFrontElement octets None
  from_longest limit wide limit_is size_is all none n rest begins =
      let long : length begins.message ≤ size = omega (arith, limit_is, size_is, all, begins.is.within, ap length begins.cut, length-append begins.message rest) in
      let kept = front_kept size begins.message rest long in
      none n kept.0 (record { message = begins.message; is = begins.is; cut = is ∙ ap (take size) begins.cut ∙ kept.1 })

-- ---- the value

module _ {A : Type 0} (p : Place A) (octets : List ℕ) where
  begins_of : (x : A) (s t : List ℕ) (b : HasFrontValue p x octets s t) → HasFirstMessage longest octets b.element.node t
  begins_of x s t b = record { message = s; is = b.element.message; cut = b.cut }

  pub no_front : IsFrontElement octets None → HasNoFrontValue p octets
  no_front none x s t b = none b.element.node t (begins_of x s t b)

  module _ (n : Element) (front : IsFrontElement octets (Some n)) where
    same_node : (x : A) (s t : List ℕ) (b : HasFrontValue p x octets s t) → b.element.node ≡ n
    same_node x s t b = (one_message longest octets b.element.node n t front.0 (begins_of x s t b) front.1).0

    stands_here : (x : A) (s t : List ℕ) → HasFrontValue p x octets s t → p.writes x n
    stands_here x s t b = subst (p.writes x) (same_node x s t b) b.element.says

    pub not_tagged : (tag : AsnTag) (has : Bool) → tag_of n ≡ tag → has ≡ among tag p.tags → has ≡ false → HasNoFrontValue p octets
    not_tagged tag has is test other x s t b =
        let there : among tag p.tags ≡ true = subst (λ (u : AsnTag). among u p.tags ≡ true) is (p.begins x n (stands_here x s t b)) in
        absurd cc

    pub no_meaning : p.meaning n ≡ None → HasNoFrontValue p octets
    no_meaning none x s t b = let found = p.finds x n (stands_here x s t b) in absurd cc

  -- the octets begin with the canonical element, or not
  module _ (x : A) (lawful : (n : Element) → p.spelling x ≡ Some n → IsLawful n) (front : IsFrontValue p octets (Some x)) (canonical : List ℕ) (is : canonical ≡ encoding p x) (test : Bool) (tested : test ≡ pointwise eqb canonical (take (length canonical) octets)) where
    pub taken_is : test ≡ true → length canonical ≤ length octets → IsTakenFront p octets x (length canonical)
    taken_is passed within =
        let whole : octets ≡ canonical ++ drop (length canonical) octets = (starts_is Decides-eqb octets canonical test tested).0 passed in
        record {
          within = within;
          canonical = ap (take (length canonical)) whole ∙ take-append_seam canonical (drop (length canonical) octets) ∙ is;
          element = canonical_front p x lawful octets front.0 front.1 front.2 (drop (length canonical) octets) (whole ∙ ap (λ l. l ++ drop (length canonical) octets) is);
        }

    not_front : test ≡ false → (after : List ℕ) → octets ≡ encoding p x ++ after → ⊥
    not_front failed after whole =
        let passed = (starts_is Decides-eqb octets canonical test tested).1 after (whole ∙ ap (λ l. l ++ after) (sym is)) in
        cc

    pub odd_is : test ≡ false → IsNoncanonical p octets
    odd_is failed = record {
      value = x;
      spelling = front.0;
      rest = front.1;
      begins = front.2;
      odd = odd_front p x lawful octets front.0 front.1 front.2 (not_front failed);
    }
