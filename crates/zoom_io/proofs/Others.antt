-- Calls on one connection leave the others unchanged.
use Rattle.std.proofs.Common.{◌∙◌, ℕ, refl}
use Rattle.zoom_pool.specs.Links.{Links, SameOthers, SameElse}

pub others_none : (c : ℕ) (a : Links) → SameOthers c a a
others_none c a = record { size = refl; others = λ i far. refl }

pub others_more : (c : ℕ) (a b d : Links) → SameOthers c a b → SameOthers c b d → SameOthers c a d
others_more c a b d one two = record {
  size = two.size ∙ one.size;
  others = λ i far. two.others i far ∙ one.others i far;
}

pub else_others : (c : ℕ) (a b : Links) → SameElse c a b → SameOthers c a b
else_others c a b same = record { size = same.size; others = same.others }
