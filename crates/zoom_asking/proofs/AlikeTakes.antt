-- Messages that are taken from events that amount to the same are the same, and so are the calls that they lead to.
use Rattle.std.proofs.Common.{◌≡◌, ℕ, ◌<◌, true, false, List, ◌∷◌, Result, Ok, Err, refl, sym, ap, subst, ◌∙◌, true≢false}
use Rattle.zplan.specs.Positions.{IsWanted}
use Rattle.zplan.specs.Ranges.{positions}
use Rattle.zoom_questions.specs.declared.question.Question.{Question}
use Rattle.zoom_questions.specs.declared.question.MetaSettings.{MetaSettings}
use Rattle.zoom_pool.specs.declared.step.Step.{Step}
use Rattle.zoom_pool.specs.declared.step.Step.TheVariants as steps
use Rattle.zoom_pool.specs.declared.step.TakeError.{TakeError}
use Rattle.zoom_pool.specs.Transcripts.{Event, Fed, Took, take_result, is_message}
use Rattle.zoom_pool.specs.Steering.{errand_of}
use Rattle.zoom_pool.specs.Metas.{settings_of}
use Rattle.zoom_asking.specs.Talks.{IsNextResult, IsLastResult, AreTaken, none, last, one}
use Rattle.zoom_asking.proofs.Alike.{same_more, same_result, one_take}
use Rattle.zoom_asking.proofs.Steady.{AreSound, sound_taken}
use Rattle.zoom_asking.proofs.AlikeDrives.{Laws, AreWhole, driven_same}

-- ---- no message

-- no message was taken
abbrev IsHalt : Result Step TakeError → Type 0
IsHalt (Ok step) = is_message step ≡ false
IsHalt (Err error) = Unit {0}

halts : (r : Result Step TakeError) → IsLastResult r → IsHalt r
halts (Ok steps.Nothing) is = absurd is
halts (Ok steps.Opened) is = absurd is
halts (Ok steps.Rejected) is = absurd is
halts (Ok steps.Answered) is = absurd is
halts (Ok steps.Closed) is = absurd is
halts (Ok steps.Ended) is = refl
halts (Ok steps.Stopped) is = refl
halts (Err error) is = tt

never_both : (r : Result Step TakeError) (step : Step) → IsHalt r → r ≡ Ok step → is_message step ≡ true → ⊥
never_both r step halt same message = true≢false (sym message ∙ subst IsHalt same halt)

-- ---- takes

module _ (l : Laws) (s : MetaSettings) (question : Question) (w : IsWanted (positions question.wanted))
    (lo : 0 < s.step) where
  took_whole : (old more : List Event) → AreWhole s question old more
      → AreWhole s question (Took ∷ old) (Took ∷ more)
  took_whole old more a = record {
    same = same_more (errand_of s question) l.input (settings_of s) Took tt old more a.same;
    first = a.first;
    second = a.second;
  }

  fed_whole : (piece : List ℕ) (old more : List Event) → AreWhole s question old more
      → AreWhole s question (Fed piece ∷ old) (Fed piece ∷ more)
  fed_whole piece old more a = record {
    same = same_more (errand_of s question) l.input (settings_of s) (Fed piece) tt old more a.same;
    first = a.first;
    second = a.second;
  }

  -- the next take returns the same
  same_next : (old more : List Event) (r t : Result Step TakeError) → AreWhole s question old more
      → AreSound s question old → AreSound s question more → IsNextResult s old r → IsNextResult s more t → r ≡ t
  same_next old more r t a here there x y =
      let p = here.transcript in
      let q = there.transcript in
      let e = errand_of s question in
      let alike = a.same.alike p q here.is there.is in
      let m = x p here.is in
      let n = y q there.is in
      m.2 ∙ same_result e p q alike m.0
      ∙ ap (take_result q) (one_take e l.input p q alike m.0 n.0 m.1 n.1) ∙ sym n.2

  -- if the next take of the one is no message, neither is that of the other
  not_next : (old more : List Event) (r : Result Step TakeError) (step : Step) → AreWhole s question old more
      → AreSound s question old → AreSound s question more → IsNextResult s old r → IsHalt r
      → IsNextResult s more (Ok step) → is_message step ≡ true → ⊥
  not_next old more r step a here there x halt y message =
      never_both r step halt (same_next old more r (Ok step) a here there x y) message

  not_before : (old more : List Event) (step : Step) (r : Result Step TakeError) → AreWhole s question old more
      → AreSound s question old → AreSound s question more → IsNextResult s old (Ok step) → is_message step ≡ true
      → IsNextResult s more r → IsHalt r → ⊥
  not_before old more step r a here there x message y halt =
      never_both r step halt (sym (same_next old more (Ok step) r a here there x y)) message

  pub taken_same : (old new more most : List Event) → AreTaken s question old new → AreTaken s question more most
      → AreWhole s question old more → AreSound s question old → AreSound s question more → AreSound s question new
      → AreSound s question most → AreWhole s question new most
  taken_same old new more most (none xs x) (none ys y) a here there over done = took_whole xs ys a
  taken_same old new more most (none xs x) (last ys t y is) a here there over done = took_whole xs ys a
  taken_same old new more most (last xs r x was) (none ys y) a here there over done = took_whole xs ys a
  taken_same old new more most (last xs r x was) (last ys t y is) a here there over done = took_whole xs ys a
  taken_same old new more most (none xs x) (one ys mid later step y is drives rest) a here there over done =
      absurd (not_next xs ys (Ok steps.Nothing) step a here there x refl y is)
  taken_same old new more most (last xs r x was) (one ys mid later step y is drives rest) a here there over done =
      absurd (not_next xs ys r step a here there x (halts r was) y is)
  taken_same old new more most (one xs mid later step x is drives rest) (none ys y) a here there over done =
      absurd (not_before xs ys step (Ok steps.Nothing) a here there x is y refl)
  taken_same old new more most (one xs mid later step x is drives rest) (last ys t y was) a here there over done =
      absurd (not_before xs ys step t a here there x is y (halts t was))
  taken_same old new more most (one xs mid later step x is drives rest) (one ys half next other y be moves others)
      a here there over done =
      let first = sound_taken s question mid later rest over in
      let second = sound_taken s question half next others done in
      taken_same mid later half next rest others
      (driven_same l s question w lo (Took ∷ xs) mid (Took ∷ ys) half drives moves (took_whole xs ys a) first second)
      first second over done

  -- what is heard of the same octets
  pub heard_same : (piece : List ℕ) (old new more most : List Event) → AreTaken s question (Fed piece ∷ old) new
      → AreTaken s question (Fed piece ∷ more) most → AreWhole s question old more → AreSound s question new
      → AreSound s question most → AreWhole s question new most
  heard_same piece old new more most x y a over done =
      taken_same (Fed piece ∷ old) new (Fed piece ∷ more) most x y (fed_whole piece old more a)
      (sound_taken s question (Fed piece ∷ old) new x over) (sound_taken s question (Fed piece ∷ more) most y done)
      over done
