-- What waits to be served, and what is behind it later.
use Rattle.std.proofs.Common.{◌≡◌, sym, ◌∙◌, ap, subst, ℕ, List, [], ◌∷◌, ◌++◌, drop, append-nil, append_assoc, Option, Some, None}
use Rattle.zoom_trace.specs.declared.recording.Recorder.{Recorder}
use Rattle.zoom_tcp.specs.declared.sockets.Happening.{Happening}
use Rattle.zoom_tcp.specs.declared.sockets.Sockets.{Sockets}
use Rattle.zoom_tcp.specs.Telling.{IsHappened}
use Rattle.zoom_tcp.specs.Waking.{IsLonger, IsOneTold, IsServeOf}

module _ {A : Type 0} where
  pub longer_same : (old new : List A) → new ≡ old → IsLonger old new
  longer_same old new same = ([], same ∙ sym (append-nil old))

  pub longer_one : (x : A) (old new : List A) → new ≡ old ++ x ∷ [] → IsLonger old new
  longer_one x old new made = (x ∷ [], made)

  pub longer_more : (old mid new : List A) → IsLonger old mid → IsLonger mid new → IsLonger old new
  longer_more old mid new a b =
      (a.0 ++ b.0, b.1 ∙ ap (λ (xs : List A). xs ++ b.0) a.1 ∙ append_assoc old a.0 b.0)

-- what serving one socket brought

module _
    {R W : Type 0} (IsServed : R → Option (ℕ × Happening) → R → Type 0) (contents : W → Option (List ℕ)) (at : ℕ)
    (first last : R) (old new : Recorder W) where
  pub one_happened : (it : ℕ × Happening) → IsServed first (Some it) last → IsHappened contents at it.0 it.1 old new
      → IsOneTold IsServed contents at first old last new
  one_happened it s h = record { happened = Some it; served = s; told = h }

  pub none_happened : IsServed first None last → new ≡ old → IsOneTold IsServed contents at first old last new
  none_happened s same = record { happened = None; served = s; told = same }

-- what serving the first of those that are to be served brought

module _ {N : Type 0} (old new : Sockets N) where
  pub first_served : (c k : ℕ) (rest : List (ℕ × ℕ)) (happening : Happening) → old.queue.items ≡ (c, k) ∷ rest
      → IsLonger rest new.queue.items → IsServeOf old (Some (c, happening)) new
  first_served c k rest happening is l = record {
    first = (k, rest, is);
    queue = subst (λ (xs : List (ℕ × ℕ)). IsLonger (drop 1 xs) new.queue.items) (sym is) l;
  }

  pub first_silent : (c k : ℕ) (rest : List (ℕ × ℕ)) → old.queue.items ≡ (c, k) ∷ rest
      → IsLonger rest new.queue.items → IsServeOf old None new
  first_silent c k rest is l = record {
    first = tt;
    queue = subst (λ (xs : List (ℕ × ℕ)). IsLonger (drop 1 xs) new.queue.items) (sym is) l;
  }

  pub none_served : old.queue.items ≡ [] → new.queue.items ≡ [] → IsServeOf old None new
  none_served is same = record {
    first = tt;
    queue = subst (λ (xs : List (ℕ × ℕ)). IsLonger (drop 1 xs) new.queue.items) (sym is) ([], same);
  }
