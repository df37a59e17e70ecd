-- Driven connections after Takes that found no memory: a Take may have been completed since, or not.
use Rattle.std.proofs.Common.{◌≡◌, ⊎_elim, ℕ, ◌==◌, Bool, true, false, cond, not, List, [], ◌∷◌, filter, subst}
use Rattle.std.specs.Prelude.{Contains, ◌||◌}
use Rattle.zknow.specs.Tables.DistinctLaws.{in_cons, in_head, in_tail}
use Rattle.zoom_questions.specs.declared.question.Question.{Question}
use Rattle.zoom_questions.specs.declared.question.MetaSettings.{MetaSettings}
use Rattle.zoom_pool.specs.States.{is_stopped}
use Rattle.zoom_pool.specs.Transcripts.{Transcript, Took, state_at}
use Rattle.zoom_pool.specs.History.{History, partial_after}
use Rattle.zoom_pool.specs.Metas.{MetaLinks, MetaAfterPartial, MetaTakeStep, settings_of}
use Rattle.zoom_pool.proofs.Pools.{up_to_more}

wider : (q : List Question) (s : MetaSettings) (some more : List ℕ) (h : History) (meta : MetaLinks)
    → ((c : ℕ) → Contains some c → Contains more c) → MetaAfterPartial q s some h meta → MetaAfterPartial q s more h meta
wider q s some more h meta all a = record {
  fit = a.fit;
  askable = a.askable;
  pool = up_to_more (settings_of s) some more h meta.pool all a.pool;
  driven = a.driven;
  size = a.size;
}

-- one connection more
pub more_partial : (q : List Question) (s : MetaSettings) (partial : List ℕ) (c : ℕ) (h : History) (meta : MetaLinks)
    → MetaAfterPartial q s partial h meta → MetaAfterPartial q s (c ∷ partial) h meta
more_partial q s partial c h meta a = wider q s partial (c ∷ partial) h meta (λ d is. in_tail c partial d is) a

filtered : (t : ℕ → Bool) (xs : List ℕ) (x : ℕ) → Contains (filter t xs) x → Contains xs x
filtered t [] x h = h
filtered t (y ∷ ys) x h = elim (t y) as (λ b. Contains (cond b (y ∷ filter t ys) (filter t ys)) x → Contains (y ∷ ys) x) [
  | true ↦ λ k. ⊎_elim (λ same. in_here x same) (λ later. in_tail y ys x (filtered t ys x later)) (in_cons y (filter t ys) x k)
  | false ↦ λ k. in_tail y ys x (filtered t ys x k)
] h
  where
    in_here : (z : ℕ) → y ≡ z → Contains (y ∷ ys) z
    in_here z same = subst (Contains (y ∷ ys)) same (in_head y ys)

-- a Take of `c`, whether or not it completed an earlier one
pub took_within : (c : ℕ) (old new : MetaLinks) → MetaTakeStep c old new → (q : List Question) (s : MetaSettings)
    (partial : List ℕ) (h : History) → MetaAfterPartial q s partial h old → MetaAfterPartial q s partial ((c, Took) ∷ h) new
took_within c old new took q s partial h a =
    let p : Transcript = a.pool.transcript c in
    wider q s (partial_after c p partial) partial ((c, Took) ∷ h) new
    (λ d is. filtered (λ i. is_stopped (state_at p) || not (c == i)) partial d is) (took q s partial h a)
