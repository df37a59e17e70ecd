-- One law for all productions: what is built is written, and where nothing is built nothing is written.
use Rattle.std.proofs.Common.{◌≡◌, ℕ, List, [], ◌∷◌, ◌++◌, Option, Some, None, Bool, true, false, cond, refl, sym, subst, ◌∙◌, append_assoc}
use Rattle.std.proofs.lemmas.List.{append-nil}
use Rattle.zber.specs.AsnTags.{AsnTag}
use Rattle.zber.specs.Elements.{Element, Primitive, Constructed}
use Rattle.zasn_tables.specs.Standing.{tagged, required, optional, ended}
use Rattle.zber.specs.Tags.{same_tag}
use Rattle.zasn_tables.specs.Laws.{IsSpelled, IsBuilder}
use Rattle.zasn_tables.specs.Reading.{constructed, option_map}
use Rattle.zasn_tables.specs.Building.{◌>>=◌, constructed_spelling, required_put, optional_put}
use Rattle.zasn_tables.proofs.Readings.{same_tag-true, same_tag-refl}

abbrev some : {A : Type 0} → A → Option A
some x = Some x

some_is : {A : Type 0} (x y : A) → some x ≡ some y → x ≡ y
some_is x y e = cc

pub end_made : IsBuilder (λ (x : Unit {0}). ended) (λ out x. Some out)
end_made = record {
  makes = λ out x new e. ([], sym (some_is out new e) ∙ sym (append-nil out), tt);
  none = λ out x e ns h. absurd cc;
}

module _ {A R : Type 0} (P : A → Element → Type 0) (spelling : A → Option Element) (place : IsSpelled P spelling) (L : R → List Element → Type 0) (made : List Element → R → Option (List Element)) (rest : IsBuilder L made) where
  put_makes : (out : List Element) (x : A) (y : R) (new : List Element) (s : Option Element) → spelling x ≡ s → (option_map (λ n. out ++ n ∷ []) s >>= λ a. made a y) ≡ Some new → (ns : List Element) × (new ≡ out ++ ns) × required P x (L y) ns
  put_makes out x y new (Some n) e f = let r = rest.makes (out ++ n ∷ []) y new f in (n ∷ r.0, r.1 ∙ append_assoc out (n ∷ []) r.0, (place.makes x n e, r.2))
  put_makes out x y new None e f = absurd cc

  put_none : (out : List Element) (x : A) (y : R) (s : Option Element) → spelling x ≡ s → (option_map (λ n. out ++ n ∷ []) s >>= λ a. made a y) ≡ None → (ns : List Element) → required P x (L y) ns → ⊥
  put_none out x y s e f [] h = h
  put_none out x y (Some n) e f (m ∷ ns) h = rest.none (out ++ n ∷ []) y f ns h.1
  put_none out x y None e f (m ∷ ns) h = place.none x e m h.0

  pub required_made : IsBuilder (λ (p : A × R). required P p.0 (L p.1)) (λ out p. required_put spelling p.0 out >>= λ a. made a p.1)
  required_made = record {
    makes = λ out p new e. put_makes out p.0 p.1 new (spelling p.0) refl e;
    none = λ out p e ns h. put_none out p.0 p.1 (spelling p.0) refl e ns h;
  }

  optional_makes : (out : List Element) (o : Option A) (y : R) (new : List Element) → (optional_put spelling o out >>= λ a. made a y) ≡ Some new → (ns : List Element) × (new ≡ out ++ ns) × optional P o (L y) ns
  optional_makes out None y new e = rest.makes out y new e
  optional_makes out (Some x) y new e = put_makes out x y new (spelling x) refl e

  optional_none : (out : List Element) (o : Option A) (y : R) → (optional_put spelling o out >>= λ a. made a y) ≡ None → (ns : List Element) → optional P o (L y) ns → ⊥
  optional_none out None y e ns h = rest.none out y e ns h
  optional_none out (Some x) y e ns h = put_none out x y (spelling x) refl e ns h

  pub optional_made : IsBuilder (λ (p : Option A × R). optional P p.0 (L p.1)) (λ out p. optional_put spelling p.0 out >>= λ a. made a p.1)
  optional_made = record {
    makes = λ out p new e. optional_makes out p.0 p.1 new e;
    none = λ out p e ns h. optional_none out p.0 p.1 e ns h;
  }

-- ---- the common places

constructed_makes : (tag : AsnTag) (x n : Element) → constructed_spelling tag x ≡ Some n → tagged tag constructed x n
constructed_makes tag (Primitive t b) n e = absurd cc
constructed_makes tag (Constructed t f) n e = by_test (same_tag t tag) refl e
  where
    by_test : (b : Bool) → same_tag t tag ≡ b → cond b (Some (Constructed t f)) None ≡ Some n → tagged tag constructed (Constructed t f) n
    by_test true q e = subst (λ (m : Element). tagged tag constructed (Constructed t f) m) (some_is (Constructed t f) n e) (same_tag-true t tag q, refl)
    by_test false q e = absurd cc

constructed_none : (tag : AsnTag) (x : Element) → constructed_spelling tag x ≡ None → (n : Element) → tagged tag constructed x n → ⊥
constructed_none tag x e (Primitive t b) h = let g : None ≡ some x = h.1 in cc
constructed_none tag x e (Constructed t f) h =
    let is : Constructed t f ≡ x = some_is (Constructed t f) x h.1 in
    let own : constructed_spelling tag (Constructed t f) ≡ None = subst (λ (y : Element). constructed_spelling tag y ≡ None) (sym is) e in
    let test : same_tag t tag ≡ true = rw h.0 (same_tag-refl tag) in
    let spelling : some (Constructed t f) ≡ None = rw test at own in
    cc

pub constructed_spelled : (tag : AsnTag) → IsSpelled (tagged tag constructed) (constructed_spelling tag)
constructed_spelled tag = record { makes = constructed_makes tag; none = constructed_none tag }

-- values that all have a primitive spelling under the tag
pub contents_spelled : {A : Type 0} (tag : AsnTag) (meaning : Element → Option A) (octets : A → List ℕ) → ((x : A) → meaning (Primitive tag (octets x)) ≡ Some x) → IsSpelled (tagged tag meaning) (λ x. Some (Primitive tag (octets x)))
contents_spelled tag meaning octets back = record {
  makes = λ x n e. let same : Primitive tag (octets x) ≡ n = some_is (Primitive tag (octets x)) n e in subst (λ (m : Element). tagged tag meaning x m) same (refl, back x);
  none = λ x e n h. absurd cc;
}

-- values of which those that fit have a primitive spelling under the tag, and no others are read
module _ {A : Type 0} (tag : AsnTag) (meaning : Element → Option A) (octets : A → List ℕ) (fits : A → Bool) (back : (x : A) → fits x ≡ true → meaning (Primitive tag (octets x)) ≡ Some x) (found : (x : A) (n : Element) → meaning n ≡ Some x → fits x ≡ true) where
  fitting_makes : (x : A) (n : Element) (b : Bool) → fits x ≡ b → cond b (Some (Primitive tag (octets x))) None ≡ Some n → tagged tag meaning x n
  fitting_makes x n true e f = let same : Primitive tag (octets x) ≡ n = some_is (Primitive tag (octets x)) n f in subst (λ (m : Element). tagged tag meaning x m) same (refl, back x e)
  fitting_makes x n false e f = absurd cc

  fitting_none : (x : A) (b : Bool) → fits x ≡ b → cond b (Some (Primitive tag (octets x))) None ≡ None → (n : Element) → tagged tag meaning x n → ⊥
  fitting_none x true e f n h = absurd cc
  fitting_none x false e f n h = let g : fits x ≡ true = found x n h.1 in cc

  pub fitting_spelled : IsSpelled (tagged tag meaning) (λ x. cond (fits x) (Some (Primitive tag (octets x))) None)
  fitting_spelled = record {
    makes = λ x n e. fitting_makes x n (fits x) refl e;
    none = λ x e n h. fitting_none x (fits x) refl e n h;
  }
