-- Connections that have trouble, and the lines of those that failed.
use Rattle.std.proofs.Common.{◌≡◌, ◌∙◌, sym, ap, subst, refl, ℕ, ◌+◌, ◌<◌, Bool, true, false, not, ◌||◌, Option, List, [], ◌∷◌, ◌++◌, length, take, get_or, arith, append-nil, append_assoc}
use Rattle.std.proofs.lemmas.List.{take_more, length-take-le}
use Rattle.zoom.specs.State.{State}
use Rattle.zoom.specs.PoolSteps.{IsStateAt}
use Rattle.zoom.specs.Laws.{OneTranscript}
use Rattle.zoom.specs.Metas.{MetaLinks, IsTranscriptValue, is_skipped, is_complete}
use Rattle.zoom.proofs.Metas.{state_tells}
use Rattle.zmeta_commands.specs.Finished.{is_failed, has_failed, is_troubled, is_asked, IsTroubledAt, Told, told_line, failure_line, AreLinesFrom}

pub trouble_at : OneTranscript → (c : ℕ) (meta : MetaLinks) (state : State) (failed complete skipped answer : Bool) → c < length meta.pool.connections
    → IsStateAt c meta.pool state → failed ≡ is_failed state → IsTranscriptValue c meta is_complete complete → IsTranscriptValue c meta is_skipped skipped → answer ≡ (failed || not complete || skipped)
    → IsTranscriptValue c meta is_troubled answer
trouble_at hearing c meta state failed complete skipped answer lt is f k n e q s h p a transcript =
    e ∙ ap (λ z. z || not complete || skipped) (f ∙ state_tells hearing is_failed c meta state lt is q s [] h p a transcript)
    ∙ ap (λ z. has_failed p || not z || skipped) (k q s h p a transcript)
    ∙ ap (λ z. has_failed p || not (is_complete p) || z) (n q s h p a transcript)

-- the question is chosen
pub troubled_at : (addresses : List (Option (List ℕ))) (c : ℕ) (meta : MetaLinks) (answer : Bool) → is_asked addresses c ≡ true
    → IsTranscriptValue c meta is_troubled answer → IsTroubledAt addresses c meta answer
troubled_at addresses c meta true asked tells = (asked, tells)
troubled_at addresses c meta false asked tells = λ _. tells

-- ---- lines

-- the lines, with those of one more connection
pub one_line : (t : Told) (meta : MetaLinks) (c at : ℕ) (front : List (List ℕ)) (name : List ℕ) (state : State) (text : List ℕ)
    → AreLinesFrom t meta c front text → at ≡ c + length front → IsStateAt at meta.pool state
    → AreLinesFrom t meta c (front ++ name ∷ []) (text ++ (failure_line name state ++ told_line t at name))
one_line t meta c at [] name state text h e is =
    let here : at ≡ c = omega (arith, e) in (
      state,
      [],
      subst (λ z. IsStateAt z meta.pool state) here is,
      refl,
      ap (λ z. z ++ (failure_line name state ++ told_line t at name)) h
          ∙ ap (λ z. failure_line name state ++ told_line t z name) here
          ∙ sym (append-nil (failure_line name state ++ told_line t c name)),
    )
one_line t meta c at (n ∷ front) name state text h e is =
    let rest = one_line t meta (c + 1) at front name state h.1 h.3 (omega (arith, e)) is in (
      h.0,
      h.1 ++ (failure_line name state ++ told_line t at name),
      h.2,
      rest,
      ap (λ z. z ++ (failure_line name state ++ told_line t at name)) h.4
          ∙ append_assoc (failure_line n h.0 ++ told_line t c n) h.1 (failure_line name state ++ told_line t at name),
    )

pub next_line : (t : Told) (meta : MetaLinks) (names : List (List ℕ)) (at : ℕ) (name : List ℕ) (state : State)
    (text new : List ℕ) → at < length names → name ≡ get_or names at name → AreLinesFrom t meta 0 (take at names) text
    → IsStateAt at meta.pool state → new ≡ text ++ (failure_line name state ++ told_line t at name)
    → AreLinesFrom t meta 0 (take (at + 1) names) new
next_line t meta names at name state text new lt is h stands e =
    let one : take (at + 1) names ≡ take at names ++ name ∷ [] = take_more names at name lt ∙ ap (λ z. take at names ++ z ∷ []) (sym is) in
    let size : length (take at names) ≡ at = length-take-le at names (omega (arith, lt)) in
    let more : AreLinesFrom t meta 0 (take at names ++ name ∷ []) (text ++ (failure_line name state ++ told_line t at name)) =
    one_line t meta 0 at (take at names) name state text h (omega (arith, size)) stands in
    subst (λ z. AreLinesFrom t meta 0 z new) (sym one) (subst (AreLinesFrom t meta 0 (take at names ++ name ∷ [])) (sym e) more)
