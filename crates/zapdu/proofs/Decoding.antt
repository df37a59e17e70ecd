-- The results of decoding.
use Rattle.std.proofs.Common.{◌≡◌, ℕ, zero, suc, ◌-◌, ◌<◌, ◌≤◌, List, [], ◌∷◌, ◌++◌, length, take, Some, None, Result, Ok, Err, refl, sym, ap, subst, ◌∙◌, append_assoc, length-append, arith}
use Rattle.std.proofs.lemmas.List.{take_at}
use Rattle.zber.specs.AsnTags.{AsnTag}
use Rattle.zber.specs.Elements.{Element, Primitive, Constructed, elements, cons, tag_of}
use Rattle.zasn.specs.Laws.{IsMisfit}
use Rattle.zber.proofs.Runs.{elements-forest}
use Rattle.zasn.specs.declared.error.PartError.{PartError}
use Rattle.zasn.specs.declared.error.PartError.TheVariants.{Misfit}
use Rattle.zasn.specs.Results.{CountedReadingResult, counted_reading}
use Rattle.zasn.proofs.Withins.{value_is_no_misfit, err_is}
use Rattle.zapdu.specs.declared.apdu.Apdu.{Apdu}
use Rattle.zapdu.specs.declared.apdu.Kind.{Kind}
use Rattle.zapdu.specs.Writes.{kind_of, tag_of_kind, AreApduParts, Writes, kind_at, IsApduFront, IsLargestFront, HasLargestFront, IsNoApdu, apdu_at}
use Rattle.zapdu.proofs.ApduKinds.{AreKindParts, apdu_exact, kind_at-tag_of_kind, tag_from_kind}

-- ---- the misfit's place

long : (front r : List Element) (k : ℕ) → length front < k → k ≤ length (front ++ r) → (n : Element) × (after : List Element) × (rest : List Element) × (r ≡ n ∷ after) × (take k (front ++ r) ≡ front ++ n ∷ rest)
long [] [] k lt le = absurd (omega arith)
long [] (n ∷ after) zero lt le = absurd (omega arith)
long [] (n ∷ after) (suc k) lt le = (n, after, take k after, refl, refl)
long (m ∷ front) r zero lt le = absurd (omega arith)
long (m ∷ front) r (suc k) lt le = let h = long front r k (omega arith) (omega arith) in (h.0, h.1, h.2, h.3, ap (λ (x : List Element). m ∷ x) h.4)

past_text : (ns front r rest more : List Element) (n : Element) (k : ℕ) → ns ≡ front ++ r → take k (front ++ r) ≡ front ++ n ∷ rest → take k ns ++ more ≡ front ++ n ∷ (rest ++ more)
past_text ns front r rest more n k e f = ap (λ (x : List Element). take k x ++ more) e ∙ ap (λ (x : List Element). x ++ more) f ∙ append_assoc front (n ∷ rest) more

front_text : (ns front r : List Element) → ns ≡ front ++ r → take (length ns - length r) ns ≡ front
front_text ns front r e = ap (λ (x : List Element). take (length x - length r) x) e ∙ take_at front r (length (front ++ r) - length r) (omega (arith, length-append front r))

misfit_at : (kind : Kind) (ns r : List Element) → IsMisfit (AreKindParts kind) ns r → IsLargestFront kind ns (length ns - length r)
misfit_at kind ns r m =
    let len : length m.front ≡ length ns - length r = omega (arith, ap length m.parts, length-append m.front r) in
    let front : take (length ns - length r) ns ≡ m.front = front_text ns m.front r m.parts in
    record {
      within = omega arith;
      begins = (m.goes.0, m.goes.2.0, m.goes.1, rw front m.goes.2.1);
      largest = λ k lt le h. past k (omega arith) le h;
    }
  where
    past : (k : ℕ) → length m.front < k → k ≤ length ns → IsApduFront kind (take k ns) → ⊥
    past k lt le h =
        let l = long m.front r k lt (omega (arith, ap length m.parts)) in
        let text : take k ns ++ h.2 ≡ m.front ++ l.0 ∷ (l.2 ++ h.2) = past_text ns m.front r l.2 h.2 l.0 k m.parts l.4 in
        m.stops l.0 l.1 l.3 h.0 (l.2 ++ h.2) (h.1, subst (λ (x : List Element). AreApduParts h.0 x) text h.3)

-- ---- the results

pub decodes_ok : (n : Element) (t : AsnTag) (ns : List Element) (kind : Kind) (v : Apdu) → n ≡ cons t ns → kind_at t ≡ Some kind → apdu_at kind ns ≡ Ok v → Writes v n
decodes_ok n t ns kind v e k r =
    let h = (apdu_exact kind).reads ns v r in
    rw (e, elements-forest ns) (tag_from_kind t kind k ∙ ap tag_of_kind (sym h.0), h.1)

pub decodes_malformed : (n : Element) (t : AsnTag) (ns r : List Element) (kind : Kind) → n ≡ cons t ns → kind_at t ≡ Some kind → apdu_at kind ns ≡ Err r → ((v : Apdu) → Writes v n → ⊥) × HasLargestFront kind (length ns - length r) n
decodes_malformed n t ns r kind e k f = rw (e, elements-forest ns) (not, (tag_from_kind t kind k, misfit_at kind ns r ((apdu_exact kind).fails ns r f)))
  where
    not : (v : Apdu) → (t ≡ tag_of_kind (kind_of v)) × AreApduParts v ns → ⊥
    not v h =
        let named : kind_at t ≡ Some (kind_of v) = rw h.0 (kind_at-tag_of_kind (kind_of v)) in
        let is : kind_of v ≡ kind = cc in
        let found : apdu_at kind ns ≡ Ok v = (apdu_exact kind).finds ns v (is, h.1) in
        cc

pub decodes_none : (n : Element) → kind_at (tag_of n) ≡ None → IsNoApdu n
decodes_none (Primitive t b) e = tt
decodes_none (Constructed t f) e = λ kind h. let found : kind_at t ≡ Some kind = rw h (kind_at-tag_of_kind kind) in cc

-- the same for elements that are consumed

stopped : (kind : Kind) (ns : List Element) (k : ℕ) → counted_reading (apdu_at kind ns) ≡ Err k → (r : List Element) × (apdu_at kind ns ≡ Err r) × (length r ≡ k)
stopped kind ns k h = by_reading (apdu_at kind ns) refl h
  where
    by_reading : (a : Result Apdu (List Element)) → apdu_at kind ns ≡ a → counted_reading a ≡ Err k → (r : List Element) × (apdu_at kind ns ≡ Err r) × (length r ≡ k)
    by_reading (Ok v) is h = absurd (value_is_no_misfit v k h)
    by_reading (Err r) is h = (r, is, err_is (length r) k h)

pub taken_ok : (n : Element) (t : AsnTag) (ns xs : List Element) (kind : Kind) (a : Result Apdu PartError) (k : ℕ) (v : Apdu) → n ≡ cons t ns → kind_at t ≡ Some kind → xs ≡ ns → CountedReadingResult (apdu_at kind xs) a k → a ≡ Ok v → Writes v n
taken_ok n t ns xs kind a k v e is same h found =
    let read : apdu_at kind ns ≡ Ok v = subst (λ (ys : List Element). apdu_at kind ys ≡ Ok v) same (subst (λ (b : Result Apdu PartError). CountedReadingResult (apdu_at kind xs) b k) found h) in
    decodes_ok n t ns kind v e is read

pub taken_malformed : (n : Element) (t : AsnTag) (ns xs zs : List Element) (kind : Kind) (a : Result Apdu PartError) (e : PartError) (all k at : ℕ) → n ≡ cons t ns → kind_at t ≡ Some kind → xs ≡ ns → CountedReadingResult (apdu_at kind xs) a k → a ≡ Err e → e ≡ Misfit
    → zs ≡ ns → all ≡ length zs → at ≡ all - k → ((v : Apdu) → Writes v n → ⊥) × HasLargestFront kind at n
taken_malformed n t ns xs zs kind a e all k at one is same h found misfit slice many place =
    let told : CountedReadingResult (apdu_at kind ns) (Err e) k = subst (λ (ys : List Element). CountedReadingResult (apdu_at kind ys) (Err e) k) same (subst (λ (b : Result Apdu PartError). CountedReadingResult (apdu_at kind xs) b k) found h) in
    let count : counted_reading (apdu_at kind ns) ≡ Err k = subst (λ (f : PartError). CountedReadingResult (apdu_at kind ns) (Err f) k) misfit told in
    let s = stopped kind ns k count in
    let here : at ≡ length ns - length s.0 = omega (arith, place, many, s.2, ap length slice) in
    rw here (decodes_malformed n t ns s.0 kind one is s.1)

abbrev ok : Apdu → Result Apdu (List Element)
ok v = Ok v

ok_is : (x y : Apdu) → ok x ≡ ok y → x ≡ y
ok_is x y e = cc

-- ---- one value

pub one_value : (v w : Apdu) (n : Element) → Writes v n → Writes w n → v ≡ w
one_value v w (Primitive t b) h k = absurd h
one_value v w (Constructed t f) h k =
    let first : kind_at t ≡ Some (kind_of v) = rw h.0 (kind_at-tag_of_kind (kind_of v)) in
    let second : kind_at t ≡ Some (kind_of w) = rw k.0 (kind_at-tag_of_kind (kind_of w)) in
    let same : kind_of w ≡ kind_of v = cc in
    let one : apdu_at (kind_of v) (elements f) ≡ Ok v = (apdu_exact (kind_of v)).finds (elements f) v (refl, h.1) in
    let other : apdu_at (kind_of v) (elements f) ≡ Ok w = (apdu_exact (kind_of v)).finds (elements f) w (same, k.1) in
    ok_is v w (sym one ∙ other)
