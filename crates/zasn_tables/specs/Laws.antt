-- The laws of reading and building: they find and make exactly the elements of values.
use Rattle.std.specs.Prelude.{◌≡◌, List, ◌∷◌, ◌++◌, Option, Some, None, Result, Ok, Err, true}
use Rattle.zber.specs.AsnTags.{AsnTag}
use Rattle.zber.specs.Elements.{Element, tag_of}
use Rattle.zber.specs.Tags.{among}

-- the elements of values at a place have one of the tags, and mean their values
pub record IsLawfulPlace {A : Type 0} (P : A → Element → Type 0) (tags : List AsnTag)
    (meaning : Element → Option A) : Type 0 where
  pub some : (x : A) × (n : Element) × P x n
  pub begins : (x : A) (n : Element) → P x n → among (tag_of n) tags ≡ true
  pub reads : (x : A) (n : Element) → among (tag_of n) tags ≡ true → meaning n ≡ Some x → P x n
  pub finds : (x : A) (n : Element) → P x n → meaning n ≡ Some x

-- `r` begins at the first element that no elements of a value can continue with
pub record IsMisfit {R : Type 0} (L : R → List Element → Type 0) (ns r : List Element) : Type 0 where
  pub front : List Element
  pub parts : ns ≡ front ++ r
  pub goes : (x : R) × (more : List Element) × L x (front ++ more)
  pub stops : (n : Element) (after : List Element) → r ≡ n ∷ after → (x : R) (more : List Element)
      → L x (front ++ n ∷ more) → ⊥

-- reading finds what is written, and nothing else; otherwise it stops at the misfit
pub record IsReader {R V : Type 0} (L : R → List Element → Type 0) (make : R → V)
    (walk : List Element → Result V (List Element)) (tags : List AsnTag) : Type 0 where
  pub some : (x : R) × (ns : List Element) × L x ns
  pub begins : (x : R) (n : Element) (ns : List Element) → L x (n ∷ ns) → among (tag_of n) tags ≡ true
  pub reads : (ns : List Element) (v : V) → walk ns ≡ Ok v → (x : R) × (make x ≡ v) × L x ns
  pub finds : (x : R) (ns : List Element) → L x ns → walk ns ≡ Ok (make x)
  pub fails : (ns r : List Element) → walk ns ≡ Err r → IsMisfit L ns r

-- a spelling is an element of the value; a value without a spelling has no element
pub record IsSpelled {A : Type 0} (P : A → Element → Type 0) (spelling : A → Option Element) : Type 0 where
  pub makes : (x : A) (n : Element) → spelling x ≡ Some n → P x n
  pub none : (x : A) → spelling x ≡ None → (n : Element) → P x n → ⊥

-- the same for elements that are added to a list
pub record IsBuilder {R : Type 0} (L : R → List Element → Type 0)
    (made : List Element → R → Option (List Element)) : Type 0 where
  pub makes : (out : List Element) (x : R) (new : List Element) → made out x ≡ Some new → (ns : List Element)
      × (new ≡ out ++ ns) × L x ns
  pub none : (out : List Element) (x : R) → made out x ≡ None → (ns : List Element) → L x ns → ⊥

-- reading gives the value that has these elements, or fails at the misfit
pub record IsExact {V : Type 0} (parts : V → List Element → Type 0)
    (walk : List Element → Result V (List Element)) : Type 0 where
  pub reads : (ns : List Element) (v : V) → walk ns ≡ Ok v → parts v ns
  pub finds : (ns : List Element) (v : V) → parts v ns → walk ns ≡ Ok v
  pub fails : (ns r : List Element) → walk ns ≡ Err r → IsMisfit parts ns r
