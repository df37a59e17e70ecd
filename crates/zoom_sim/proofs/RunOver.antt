-- A connection that is finished stays so.
use Rattle.std.proofs.Common.{◌≡◌, ◌∙◌, sym, ap, ℕ, true, false, cond, List, [], ◌∷◌, ◌++◌, refl, true≢false}
use Rattle.std.specs.Prelude.{◌||◌}
use Rattle.zorigin.specs.declared.settings.Settings.{Settings}
use Rattle.zoom_pool.specs.States.{is_stopped}
use Rattle.zoom_pool.specs.Transcripts.{Event, Called, Fed, Took, InputEnded, HandedOut, Stopped, Transcript, IsTranscript, state_at, after_feed}
use Rattle.zoom_pool.specs.Laws.{OneTranscript}
use Rattle.zoom_sim.specs.Run.{is_over}
use Rattle.zoom_sim.proofs.RunTranscripts.{goes_before_call, goes_before_take}

over_piece : (p : Transcript) (piece : List ℕ) → is_over (after_feed p piece) ≡ is_over p
over_piece p piece = elim (is_stopped (state_at p) || p.ended) as
    (λ b. is_over (cond b p (record p { stream = p.stream ++ piece })) ≡ is_over p) [ true ↦ refl | false ↦ refl ]

-- a connection that is not stopped was not stopped before an event
goes_before : (settings : Settings) (event : Event) (events : List Event) (p : Transcript) (h : IsTranscript settings (event ∷ events) p)
    → is_over p ≡ false → (q : Transcript) × IsTranscript settings events q × (is_over q ≡ false)
goes_before settings (Called call) events p h e =
    (h.0, h.1, goes_before_call h.0 call (ap is_over (sym h.2) ∙ e))
goes_before settings (Fed piece) events p h e =
    (h.0, h.1, sym (over_piece h.0 piece) ∙ ap is_over (sym h.2) ∙ e)
goes_before settings Took events p h e =
    let x = h.2 in (h.0, h.1, goes_before_take h.0 x.0 x.1 (ap is_over (sym x.2) ∙ e))
goes_before settings InputEnded events p h e = (h.0, h.1, ap is_over (sym h.2) ∙ e)
goes_before settings (HandedOut octets) events p h e = (h.0, h.1, ap is_over (sym h.2) ∙ e)
goes_before settings (Stopped reason) events p h e =
    absurd (let f : true ≡ false = ap is_over (sym h.2) ∙ e in true≢false f)

pub over_stays : OneTranscript → (settings : Settings) (more events : List Event) (p later : Transcript)
    → IsTranscript settings events p → IsTranscript settings (more ++ events) later → is_over later ≡ false → is_over p ≡ false
over_stays uniqueness settings [] events p later h k e =
    ap is_over (uniqueness settings events p later h k) ∙ e
over_stays uniqueness settings (event ∷ more) events p later h k e =
    let b = goes_before settings event (more ++ events) later k e in
    over_stays uniqueness settings more events p b.0 h b.1 b.2
