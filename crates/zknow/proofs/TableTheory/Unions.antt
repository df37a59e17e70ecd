-- Unions, and what two lists have that are gone through together.
use Rattle.std.proofs.Common.{◌⊎◌, ◌↔◌, inl, inr, ⊎_elim}
use Rattle.std.specs.Prelude.{Result, Ok, Err, OnOk}
use Rattle.zknow.specs.Tables.Join.{IsUnion, IsPartOfUnion}

pub part_from_union : {I : Type 0} (old more new : I → Type 0) → IsUnion old more new → IsPartOfUnion old more new
part_from_union old more new union = record { keeps = λ x h. (union x).1 (inl h); within = λ x h. (union x).0 h }

pub part_from_same : {I : Type 0} (old more : I → Type 0) → IsPartOfUnion old more old
part_from_same old more = record { keeps = λ x h. h; within = λ x h. inl h }

-- `now` has the old items and those that were taken of the others; the rest of these is to come
pub record IsJoining {I : Type 0} (old other now rest : I → Type 0) : Type 0 where
  pub part : IsPartOfUnion old other now
  pub rest_of : (x : I) → rest x → other x
  pub here : (x : I) → other x → now x ⊎ rest x

module _ {I : Type 0} (old other : I → Type 0) where
  pub joining_none : IsJoining old other old other
  joining_none = record { part = part_from_same old other; rest_of = λ x h. h; here = λ x h. inr h }

  -- `some` is what is taken next
  module _ (now some next rest after : I → Type 0) (split : (x : I) → rest x ↔ (some x ⊎ after x)) where
    pub joining_part : IsPartOfUnion now some next → IsJoining old other now rest → IsPartOfUnion old other next
    joining_part step m = record {
      keeps = λ x h. step.keeps x (m.part.keeps x h);
      within = λ x h. ⊎_elim (m.part.within x) (λ one. inr (m.rest_of x ((split x).1 (inl one)))) (step.within x h);
    }

    taken : IsUnion now some next → (x : I) → now x ⊎ rest x → next x ⊎ after x
    taken union x (inl h) = inl ((union x).1 (inl h))
    taken union x (inr r) = ⊎_elim (λ h. inl ((union x).1 (inr h))) inr ((split x).0 r)

    pub joining_more : IsUnion now some next → IsJoining old other now rest → IsJoining old other next after
    joining_more union m = record {
      part = joining_part (part_from_union now some next union) m;
      rest_of = λ x h. m.rest_of x ((split x).1 (inr h));
      here = λ x h. taken union x (m.here x h);
    }

  pub joining_all : (now rest : I → Type 0) → ((x : I) → rest x → ⊥) → IsJoining old other now rest → IsUnion old other now
  joining_all now rest never m x = (m.part.within x, ⊎_elim (m.part.keeps x) (λ h. ⊎_elim (λ n. n) (λ r. absurd (never x r)) (m.here x h)))

-- a union is a part of it that has all of the second
pub union_from_part : {I : Type 0} (old more new : I → Type 0) → IsPartOfUnion old more new → ((x : I) → more x → new x) → IsUnion old more new
union_from_part old more new part all x = (part.within x, ⊎_elim (part.keeps x) (all x))

-- a clause on `Ok`, case by case
pub OnOk_map : {T E : Type 0} (r : Result T E) (P Q : Type 0) → (P → Q) → OnOk r P → OnOk r Q
OnOk_map (Ok x) P Q f h = f h
OnOk_map (Err e) P Q f h = h

pub part_weaker : {I : Type 0} (old more wider new : I → Type 0) → ((x : I) → more x → wider x) → IsPartOfUnion old more new → IsPartOfUnion old wider new
part_weaker old more wider new widen part = record { keeps = part.keeps; within = λ x h. ⊎_elim inl (λ m. inr (widen x m)) (part.within x h) }

-- the same of other words for the same items
pub union_as : {I : Type 0} (old more new old' more' new' : I → Type 0) → ((x : I) → old' x ↔ old x) → ((x : I) → more' x ↔ more x) → ((x : I) → new' x ↔ new x) → IsUnion old more new → IsUnion old' more' new'
union_as old more new old' more' new' o m n union x = (
  λ h. ⊎_elim (λ a. inl ((o x).1 a)) (λ b. inr ((m x).1 b)) ((union x).0 ((n x).0 h)),
  ⊎_elim (λ a. (n x).1 ((union x).1 (inl ((o x).0 a)))) (λ b. (n x).1 ((union x).1 (inr ((m x).0 b)))),
)

pub part_as : {I : Type 0} (old more new old' more' new' : I → Type 0) → ((x : I) → old' x ↔ old x) → ((x : I) → more' x ↔ more x) → ((x : I) → new' x ↔ new x) → IsPartOfUnion old more new → IsPartOfUnion old' more' new'
part_as old more new old' more' new' o m n part = record {
  keeps = λ x h. (n x).1 (part.keeps x ((o x).0 h));
  within = λ x h. ⊎_elim (λ a. inl ((o x).1 a)) (λ b. inr ((m x).1 b)) (part.within x ((n x).0 h));
}

pub itself : {I : Type 0} (P : I → Type 0) (x : I) → P x ↔ P x
itself P x = (λ h. h, λ h. h)
