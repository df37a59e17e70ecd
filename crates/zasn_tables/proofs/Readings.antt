-- One law for all productions: reading from left to right finds exactly what is written, and stops at the
-- first element that nothing written begins with.
use Rattle.std.proofs.Common.{◌≡◌, ℕ, List, [], ◌∷◌, ◌++◌, Option, Some, None, Result, Ok, Err, Bool, true, false, cond, refl, ap, ◌∙◌, inl, inr}
use Rattle.std.specs.Prelude.{◌||◌, ◌&&◌, ◌==◌, ◌⊎◌}
use Rattle.std.proofs.lemmas.Bool.{eqb-true, eq-eqb}
use Rattle.zber.specs.declared.tag.Class.{Class}
use Rattle.zber.specs.declared.tag.Class.TheVariants.{Universal, Application, Context, Private}
use Rattle.zber.specs.AsnTags.{AsnTag}
use Rattle.zber.specs.Elements.{Element, Constructed, end, tag_of}
use Rattle.zber.proofs.Tests.{both_true}
use Rattle.zasn_tables.specs.Standing.{tagged, required, optional, ended}
use Rattle.zber.specs.Tags.{apart, same_class, same_tag, among}
use Rattle.zasn_tables.specs.Laws.{IsLawfulPlace, IsMisfit, IsReader}
use Rattle.zasn_tables.specs.Reading.{constructed, option_map, filled, ◌>>=◌, optional_at, required_at, ended_at}

-- ---- tags

same_class-true : (c d : Class) → same_class c d ≡ true → c ≡ d
same_class-true Universal Universal e = refl
same_class-true Application Application e = refl
same_class-true Context Context e = refl
same_class-true Private Private e = refl
same_class-true Universal Application e = absurd cc
same_class-true Universal Context e = absurd cc
same_class-true Universal Private e = absurd cc
same_class-true Application Universal e = absurd cc
same_class-true Application Context e = absurd cc
same_class-true Application Private e = absurd cc
same_class-true Context Universal e = absurd cc
same_class-true Context Application e = absurd cc
same_class-true Context Private e = absurd cc
same_class-true Private Universal e = absurd cc
same_class-true Private Application e = absurd cc
same_class-true Private Context e = absurd cc

pub same_tag-true : (t u : AsnTag) → same_tag t u ≡ true → t ≡ u
same_tag-true t u e =
    let p = both_true (same_class t.class u.class) (t.number == u.number) e in
    let c : t.class ≡ u.class = same_class-true t.class u.class p.0 in
    let n : t.number ≡ u.number = eqb-true t.number u.number p.1 in
    ap (λ (k : Class). record { class = k; number = t.number }) c ∙ ap (λ (k : ℕ). record { class = u.class; number = k }) n

same_class-refl : (c : Class) → same_class c c ≡ true
same_class-refl Universal = refl
same_class-refl Application = refl
same_class-refl Context = refl
same_class-refl Private = refl

both : (a b : Bool) → a ≡ true → b ≡ true → a && b ≡ true
both true true e f = refl
both true false e f = absurd cc
both false b e f = absurd cc

pub same_tag-refl : (t : AsnTag) → same_tag t t ≡ true
same_tag-refl t = both (same_class t.class t.class) (t.number == t.number) (same_class-refl t.class) (eq-eqb t.number t.number refl)

cond_true : (a b : Bool) → cond a false b ≡ true → (a ≡ false) × (b ≡ true)
cond_true true b e = absurd cc
cond_true false b e = (refl, e)

pub either : (a b : Bool) → a || b ≡ true → (a ≡ true) ⊎ (b ≡ true)
either true b e = inl refl
either false b e = inr e

pub apart-among : (us vs : List AsnTag) (t : AsnTag) → apart us vs ≡ true → among t us ≡ true → among t vs ≡ false
apart-among [] vs t e h = absurd cc
apart-among (u ∷ us) vs t e h =
    let p = cond_true (among u vs) (apart us vs) e in
    elim (either (same_tag t u) (among t us) h) [
      | inl same ↦ rw (same_tag-true t u same) p.0
      | inr later ↦ apart-among us vs t p.1 later
    ]

pub or_left : (a b : Bool) → a ≡ true → a || b ≡ true
or_left true b e = refl
or_left false b e = absurd cc

or_right : (a b : Bool) → b ≡ true → a || b ≡ true
or_right true b e = refl
or_right false b e = e

pub among-left : (us vs : List AsnTag) (t : AsnTag) → among t us ≡ true → among t (us ++ vs) ≡ true
among-left [] vs t h = absurd cc
among-left (u ∷ us) vs t h =
    elim (either (same_tag t u) (among t us) h) [
      | inl same ↦ or_left (same_tag t u) (among t (us ++ vs)) same
      | inr later ↦ or_right (same_tag t u) (among t (us ++ vs)) (among-left us vs t later)
    ]

pub among-right : (us vs : List AsnTag) (t : AsnTag) → among t vs ≡ true → among t (us ++ vs) ≡ true
among-right [] vs t h = h
among-right (u ∷ us) vs t h = or_right (same_tag t u) (among t (us ++ vs)) (among-right us vs t h)

-- ---- places and productions

abbrev ok : {V : Type 0} → V → Result V (List Element)
ok v = Ok v

abbrev err : {V : Type 0} → List Element → Result V (List Element)
err r = Err r

ok_is : {V : Type 0} (x y : V) → ok x ≡ ok y → x ≡ y
ok_is x y e = cc

err_is : {V : Type 0} (x y : List Element) → err {V = V} x ≡ err y → x ≡ y
err_is x y e = cc

not_both : (b : Bool) → b ≡ true → b ≡ false → ⊥
not_both b e f = cc

-- the end
module _ {V : Type 0} (v : V) where
  end_reads : (ns : List Element) (w : V) → (ended_at ns >>= λ _. Ok v) ≡ Ok w → (x : Unit {0}) × (v ≡ w) × ended ns
  end_reads [] w e = (tt, ok_is v w e, tt)
  end_reads (n ∷ ns) w e = absurd cc

  end_finds : (x : Unit {0}) (ns : List Element) → ended ns → (ended_at ns >>= λ _. Ok v) ≡ Ok v
  end_finds x [] h = refl
  end_finds x (n ∷ ns) h = absurd h

  end_fails : (ns r : List Element) → (ended_at ns >>= λ _. Ok v) ≡ Err r → IsMisfit (λ (x : Unit {0}). ended) ns r
  end_fails [] r e = absurd cc
  end_fails (n ∷ ns) r e = record {
    front = [];
    parts = err_is {V = V} (n ∷ ns) r e;
    goes = (tt, [], tt);
    stops = λ m after _ x more h. h;
  }

  pub end_read : IsReader (λ (x : Unit {0}). ended) (λ _. v) (λ ns. ended_at ns >>= λ _. Ok v) []
  end_read = record {
    some = (tt, [], tt);
    begins = λ x n ns h. absurd h;
    reads = end_reads;
    finds = end_finds;
    fails = end_fails;
  }

-- a place that may be left out
module _ {A R V : Type 0} (P : A → Element → Type 0) (us : List AsnTag) (meaning : Element → Option A) (place : IsLawfulPlace P us meaning) (L : R → List Element → Type 0) (make : Option A × R → V) (walk : Option A → List Element → Result V (List Element)) (vs : List AsnTag) (rest : (o : Option A) → IsReader L (λ x. make (o, x)) (walk o) vs) (new : apart us vs ≡ true) where
  abbrev OptionalL : Option A × R → List Element → Type 0
  OptionalL p = optional P p.0 (L p.1)

  abbrev optional_turn : Bool → Option A → Element → List Element → Result V (List Element)
  optional_turn b m n ns = cond b (filled (option_map Some m) (n ∷ ns) ns) (Ok (None, n ∷ ns)) >>= λ a. walk a.0 a.1

  abbrev optional_walk : List Element → Result V (List Element)
  optional_walk ns = optional_at us meaning ns >>= λ a. walk a.0 a.1

  reads_turn : (n : Element) (ns : List Element) (v : V) (b : Bool) (m : Option A) → among (tag_of n) us ≡ b → meaning n ≡ m → optional_turn b m n ns ≡ Ok v
      → (p : Option A × R) × (make p ≡ v) × OptionalL p (n ∷ ns)
  reads_turn n ns v false m bi mi e = let r = (rest None).reads (n ∷ ns) v e in ((None, r.0), r.1, r.2)
  reads_turn n ns v true None bi mi e = absurd cc
  reads_turn n ns v true (Some x) bi mi e = let r = (rest (Some x)).reads ns v e in ((Some x, r.0), r.1, (place.reads x n bi mi, r.2))

  optional_reads : (ns : List Element) (v : V) → optional_walk ns ≡ Ok v → (p : Option A × R) × (make p ≡ v) × OptionalL p ns
  optional_reads [] v e = let r = (rest None).reads [] v e in ((None, r.0), r.1, r.2)
  optional_reads (n ∷ ns) v e = reads_turn n ns v (among (tag_of n) us) (meaning n) refl refl e

  -- what the later places begin with does not stand at this one
  not_here : (n : Element) → among (tag_of n) vs ≡ true → among (tag_of n) us ≡ false
  not_here n h = elim_on (among (tag_of n) us) refl
    where
      elim_on : (b : Bool) → among (tag_of n) us ≡ b → among (tag_of n) us ≡ false
      elim_on false e = e
      elim_on true e = absurd (not_both (among (tag_of n) vs) h (apart-among us vs (tag_of n) new e))

  optional_finds : (p : Option A × R) (ns : List Element) → OptionalL p ns → optional_walk ns ≡ Ok (make p)
  optional_finds p ns h = by_option p.0 p.1 ns h
    where
      by_option : (o : Option A) (y : R) (ns : List Element) → optional P o (L y) ns → optional_walk ns ≡ Ok (make (o, y))
      by_option None y [] h = (rest None).finds y [] h
      by_option None y (n ∷ ns) h = rw (not_here n ((rest None).begins y n ns h)) ((rest None).finds y (n ∷ ns) h)
      by_option (Some x) y [] h = absurd h
      by_option (Some x) y (n ∷ ns) h = rw (place.begins x n h.0, place.finds x n h.0) ((rest (Some x)).finds y ns h.1)

  optional_begins : (p : Option A × R) (n : Element) (ns : List Element) → OptionalL p (n ∷ ns) → among (tag_of n) (us ++ vs) ≡ true
  optional_begins p n ns h = by_option p.0 p.1 h
    where
      by_option : (o : Option A) (y : R) → optional P o (L y) (n ∷ ns) → among (tag_of n) (us ++ vs) ≡ true
      by_option None y h = among-right us vs (tag_of n) ((rest None).begins y n ns h)
      by_option (Some x) y h = among-left us vs (tag_of n) (place.begins x n h.0)

  -- a misfit of the rest, where the place is left out
  left_out : (ns r : List Element) → ((n : Element) (after : List Element) → ns ≡ n ∷ after → among (tag_of n) us ≡ false) → IsMisfit L ns r → IsMisfit OptionalL ns r
  left_out ns r out m = record {
    front = m.front;
    parts = m.parts;
    goes = ((None, m.goes.0), m.goes.1, m.goes.2);
    stops = λ n after e p more h. stop n after e p.0 p.1 more h;
  }
    where
      begun : (front : List Element) (n : Element) (after more : List Element) (x : A) (y : R) → ns ≡ front ++ r → r ≡ n ∷ after → optional P (Some x) (L y) (front ++ n ∷ more) → ⊥
      begun [] n after more x y e f h = not_both (among (tag_of n) us) (place.begins x n h.0) (out n after (e ∙ f))
      begun (k ∷ front) n after more x y e f h = not_both (among (tag_of k) us) (place.begins x k h.0) (out k (front ++ r) e)

      stop : (n : Element) (after : List Element) → r ≡ n ∷ after → (o : Option A) (y : R) (more : List Element) → optional P o (L y) (m.front ++ n ∷ more) → ⊥
      stop n after e None y more h = m.stops n after e y more h
      stop n after e (Some x) y more h = begun m.front n after more x y m.parts e h

  -- a misfit of the rest, behind an element that stands at the place
  stood : (n : Element) (ns r : List Element) (x : A) → among (tag_of n) us ≡ true → P x n → IsMisfit L ns r → IsMisfit OptionalL (n ∷ ns) r
  stood n ns r x here written m = record {
    front = n ∷ m.front;
    parts = ap (λ (ks : List Element). n ∷ ks) m.parts;
    goes = ((Some x, m.goes.0), m.goes.1, (written, m.goes.2));
    stops = λ k after e p more h. stop k after e p.0 p.1 more h;
  }
    where
      stop : (k : Element) (after : List Element) → r ≡ k ∷ after → (o : Option A) (y : R) (more : List Element) → optional P o (L y) ((n ∷ m.front) ++ k ∷ more) → ⊥
      stop k after e None y more h = not_both (among (tag_of n) us) here (not_here n ((rest None).begins y n (m.front ++ k ∷ more) h))
      stop k after e (Some z) y more h = m.stops k after e y more h.1

  fails_turn : (n : Element) (ns r : List Element) (b : Bool) (m : Option A) → among (tag_of n) us ≡ b → meaning n ≡ m → optional_turn b m n ns ≡ Err r → IsMisfit OptionalL (n ∷ ns) r
  fails_turn n ns r false m bi mi e = left_out (n ∷ ns) r out ((rest None).fails (n ∷ ns) r e)
    where
      out : (k : Element) (after : List Element) → n ∷ ns ≡ k ∷ after → among (tag_of k) us ≡ false
      out k after f = let same : n ≡ k = cc in rw (← same) bi
  fails_turn n ns r true None bi mi e = record {
    front = [];
    parts = err_is {V = V} (n ∷ ns) r e;
    goes = let s = (rest None).some in ((None, s.0), s.1, s.2);
    stops = λ k after f p more h. stop k after f p.0 p.1 more h;
  }
    where
      stop : (k : Element) (after : List Element) → r ≡ k ∷ after → (o : Option A) (y : R) (more : List Element) → optional P o (L y) (k ∷ more) → ⊥
      stop k after f o y more h =
          let g : n ∷ ns ≡ k ∷ after = err_is {V = V} (n ∷ ns) r e ∙ f in
          let same : n ≡ k = cc in
          at (rw (← same) bi) (rw (← same) mi) o h
        where
          at : among (tag_of k) us ≡ true → meaning k ≡ None → (o : Option A) → optional P o (L y) (k ∷ more) → ⊥
          at here absent None h = not_both (among (tag_of k) us) here (not_here k ((rest None).begins y k more h))
          at here absent (Some x) h = let found : meaning k ≡ Some x = place.finds x k h.0 in cc
  fails_turn n ns r true (Some x) bi mi e = stood n ns r x bi (place.reads x n bi mi) ((rest (Some x)).fails ns r e)

  optional_fails : (ns r : List Element) → optional_walk ns ≡ Err r → IsMisfit OptionalL ns r
  optional_fails [] r e = left_out [] r out ((rest None).fails [] r e)
    where
      out : (n : Element) (after : List Element) → [] ≡ n ∷ after → among (tag_of n) us ≡ false
      out n after f = absurd cc
  optional_fails (n ∷ ns) r e = fails_turn n ns r (among (tag_of n) us) (meaning n) refl refl e

  pub optional_read : IsReader OptionalL make optional_walk (us ++ vs)
  optional_read = record {
    some = let s = (rest None).some in ((None, s.0), s.1, s.2);
    begins = optional_begins;
    reads = optional_reads;
    finds = optional_finds;
    fails = optional_fails;
  }

-- a place that is always filled
module _ {A R V : Type 0} (P : A → Element → Type 0) (us : List AsnTag) (meaning : Element → Option A) (place : IsLawfulPlace P us meaning) (L : R → List Element → Type 0) (make : A × R → V) (walk : A → List Element → Result V (List Element)) (vs : List AsnTag) (rest : (x : A) → IsReader L (λ y. make (x, y)) (walk x) vs) where
  abbrev RequiredL : A × R → List Element → Type 0
  RequiredL p = required P p.0 (L p.1)

  abbrev required_turn : Bool → Option A → Element → List Element → Result V (List Element)
  required_turn b m n ns = cond b (filled m (n ∷ ns) ns) (Err (n ∷ ns)) >>= λ a. walk a.0 a.1

  abbrev required_walk : List Element → Result V (List Element)
  required_walk ns = required_at us meaning ns >>= λ a. walk a.0 a.1

  required_reads_turn : (n : Element) (ns : List Element) (v : V) (b : Bool) (m : Option A) → among (tag_of n) us ≡ b → meaning n ≡ m → required_turn b m n ns ≡ Ok v
      → (p : A × R) × (make p ≡ v) × RequiredL p (n ∷ ns)
  required_reads_turn n ns v false m bi mi e = absurd cc
  required_reads_turn n ns v true None bi mi e = absurd cc
  required_reads_turn n ns v true (Some x) bi mi e = let r = (rest x).reads ns v e in ((x, r.0), r.1, (place.reads x n bi mi, r.2))

  required_reads : (ns : List Element) (v : V) → required_walk ns ≡ Ok v → (p : A × R) × (make p ≡ v) × RequiredL p ns
  required_reads [] v e = absurd cc
  required_reads (n ∷ ns) v e = required_reads_turn n ns v (among (tag_of n) us) (meaning n) refl refl e

  required_finds : (p : A × R) (ns : List Element) → RequiredL p ns → required_walk ns ≡ Ok (make p)
  required_finds p [] h = absurd h
  required_finds p (n ∷ ns) h = rw (place.begins p.0 n h.0, place.finds p.0 n h.0) ((rest p.0).finds p.1 ns h.1)

  required_begins : (p : A × R) (n : Element) (ns : List Element) → RequiredL p (n ∷ ns) → among (tag_of n) (us ++ vs) ≡ true
  required_begins p n ns h = among-left us vs (tag_of n) (place.begins p.0 n h.0)

  -- something is written, whatever is left
  begun_here : (p : A × R) × (more : List Element) × RequiredL p more
  begun_here = let s = place.some in let t = (rest s.0).some in ((s.0, t.0), s.1 ∷ t.1, (s.2, t.2))

  misfit_here : (ns r : List Element) → ns ≡ r → ((n : Element) (after : List Element) → r ≡ n ∷ after → (x : A) → P x n → ⊥) → IsMisfit RequiredL ns r
  misfit_here ns r e not = record {
    front = [];
    parts = e;
    goes = begun_here;
    stops = λ n after f p more h. not n after f p.0 h.0;
  }

  required_stood : (n : Element) (ns r : List Element) (x : A) → P x n → IsMisfit L ns r → IsMisfit RequiredL (n ∷ ns) r
  required_stood n ns r x written m = record {
    front = n ∷ m.front;
    parts = ap (λ (ks : List Element). n ∷ ks) m.parts;
    goes = ((x, m.goes.0), m.goes.1, (written, m.goes.2));
    stops = λ k after e p more h. m.stops k after e p.1 more h.1;
  }

  required_fails_turn : (n : Element) (ns r : List Element) (b : Bool) (m : Option A) → among (tag_of n) us ≡ b → meaning n ≡ m → required_turn b m n ns ≡ Err r → IsMisfit RequiredL (n ∷ ns) r
  required_fails_turn n ns r false m bi mi e = misfit_here (n ∷ ns) r (err_is {V = V} (n ∷ ns) r e) not
    where
      not : (k : Element) (after : List Element) → r ≡ k ∷ after → (x : A) → P x k → ⊥
      not k after f x h =
          let g : n ∷ ns ≡ k ∷ after = err_is {V = V} (n ∷ ns) r e ∙ f in
          let same : n ≡ k = cc in
          not_both (among (tag_of k) us) (place.begins x k h) (rw (← same) bi)
  required_fails_turn n ns r true None bi mi e = misfit_here (n ∷ ns) r (err_is {V = V} (n ∷ ns) r e) not
    where
      not : (k : Element) (after : List Element) → r ≡ k ∷ after → (x : A) → P x k → ⊥
      not k after f x h =
          let g : n ∷ ns ≡ k ∷ after = err_is {V = V} (n ∷ ns) r e ∙ f in
          let same : n ≡ k = cc in
          let absent : meaning k ≡ None = rw (← same) mi in
          let found : meaning k ≡ Some x = place.finds x k h in
          cc
  required_fails_turn n ns r true (Some x) bi mi e = required_stood n ns r x (place.reads x n bi mi) ((rest x).fails ns r e)

  required_fails : (ns r : List Element) → required_walk ns ≡ Err r → IsMisfit RequiredL ns r
  required_fails [] r e = misfit_here [] r (err_is {V = V} [] r e) not
    where
      not : (k : Element) (after : List Element) → r ≡ k ∷ after → (x : A) → P x k → ⊥
      not k after f x h = let g : [] ≡ k ∷ after = err_is {V = V} [] r e ∙ f in cc
  required_fails (n ∷ ns) r e = required_fails_turn n ns r (among (tag_of n) us) (meaning n) refl refl e

  pub required_read : IsReader RequiredL make required_walk (us ++ vs)
  required_read = record {
    some = begun_here;
    begins = required_begins;
    reads = required_reads;
    finds = required_finds;
    fails = required_fails;
  }

-- ---- the common places

pub one_tag : (tag : AsnTag) (k : Element) → among (tag_of k) (tag ∷ []) ≡ true → tag_of k ≡ tag
one_tag tag k b = elim (either (same_tag (tag_of k) tag) false b) [ inl same ↦ same_tag-true (tag_of k) tag same | inr other ↦ absurd cc ]

-- a value under a tag, where some contents mean a value
pub tagged_place : {A : Type 0} (tag : AsnTag) (meaning : Element → Option A) (x : A) (n : Element) → tag_of n ≡ tag → meaning n ≡ Some x → IsLawfulPlace (tagged tag meaning) (tag ∷ []) meaning
tagged_place tag meaning x n t m = record {
  some = (x, n, (t, m));
  begins = λ y k h. rw h.0 (or_left (same_tag tag tag) false (same_tag-refl tag));
  reads = λ y k b f. (one_tag tag k b, f);
  finds = λ y k h. h.1;
}

pub constructed_at_tag : (tag : AsnTag) → IsLawfulPlace (tagged tag constructed) (tag ∷ []) constructed
constructed_at_tag tag = tagged_place tag constructed (Constructed tag end) (Constructed tag end) refl refl

-- ---- whole productions

-- the same read by one who makes something of the value
module _ {R V W : Type 0} (L : R → List Element → Type 0) (make : R → V) (walk : List Element → Result V (List Element)) (tags : List AsnTag) (g : V → W) (read : IsReader L make walk tags) where
  mapped_ok : (ns : List Element) (w : W) (r : Result V (List Element)) → walk ns ≡ r → (r >>= λ v. Ok (g v)) ≡ Ok w → (x : R) × (g (make x) ≡ w) × L x ns
  mapped_ok ns w (Ok v) e f = let h = read.reads ns v e in (h.0, ap g h.1 ∙ ok_is (g v) w f, h.2)
  mapped_ok ns w (Err r) e f = absurd cc

  mapped_err : (ns s : List Element) (r : Result V (List Element)) → walk ns ≡ r → (r >>= λ v. ok (g v)) ≡ Err s → IsMisfit L ns s
  mapped_err ns s (Ok v) e f = absurd cc
  mapped_err ns s (Err r) e f = read.fails ns s (e ∙ ap (λ (t : List Element). err t) (err_is {V = W} r s f))

  pub mapped_read : IsReader L (λ x. g (make x)) (λ ns. walk ns >>= λ v. Ok (g v)) tags
  mapped_read = record {
    some = read.some;
    begins = read.begins;
    reads = λ ns w e. mapped_ok ns w (walk ns) refl e;
    finds = λ x ns h. rw (read.finds x ns h);
    fails = λ ns r e. mapped_err ns r (walk ns) refl e;
  }
