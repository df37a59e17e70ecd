-- What is found for the questions of a world, in order.
use Rattle.std.proofs.Common.{◌≡◌, ◌∙◌, sym, ap, ap₂, subst, append_assoc, ℕ, ◌+◌, ◌<◌, ◌^◌, List, [], ◌∷◌, ◌++◌, length, map, take, drop, get_or, Option, Some, Result, Ok, Err, IfErr}
use Rattle.std.proofs.lemmas.List.{take_more, take-append-drop, map-append, length-map}
use Rattle.zmeta_world.specs.declared.world.World.{World}
use Rattle.zmeta_world.specs.declared.world.AskedQuestion.{AskedQuestion}
use Rattle.zmeta_world.specs.declared.world.WorldError.{WorldError}
use Rattle.zmeta_world.specs.declared.world.WorldError.TheVariants as errors
use Rattle.zmeta_world.specs.declared.parts.Parts.{Parts}
use Rattle.zmeta_world.specs.Finding.{questions_of, AreParts, IsOneMore, FindResult, AreFound, IsFirstUnfound}
use Rattle.zmeta_world.specs.InMemoryRuns.{IsFit}

pub one_found : {A : Type 0} (find : AskedQuestion → Option A) (qs : List AskedQuestion) (i : ℕ) (q : AskedQuestion) (found new : List A) (x : A)
    → i < length qs → q ≡ get_or qs i q → AreFound find (take i qs) found → FindResult find q (Ok x) → new ≡ found ++ x ∷ []
    → AreFound find (take (i + 1) qs) new
one_found find qs i q found new x lt is h f e =
    ap (map find) (take_more qs i q lt ∙ ap (λ z. take i qs ++ z ∷ []) (sym is))
    ∙ map-append find (take i qs) (q ∷ [])
    ∙ ap₂ (λ y z. y ++ z ∷ []) h f
    ∙ sym (map-append Some found (x ∷ []))
    ∙ ap (map Some) (sym e)

pub one_more : (qs : List AskedQuestion) (q : AskedQuestion) (old new : Parts) → AreParts qs old → IsOneMore q old new → AreParts (qs ++ q ∷ []) new
one_more qs q old new h m = record {
  questions = m.questions ∙ ap (λ z. z ++ q.question ∷ []) h.questions ∙ sym (map-append (λ i. i.question) qs (q ∷ []));
  names = m.names ∙ ap (λ z. z ++ q.name ∷ []) h.names ∙ sym (map-append (λ i. i.name) qs (q ∷ []));
}

-- ---- the first question for which nothing is found

pub first_at_none : {A : Type 0} (find : AskedQuestion → Option A) (qs : List AskedQuestion) (i : ℕ) (q : AskedQuestion) (found : List A) (e : WorldError)
    → i < length qs → q ≡ get_or qs i q → AreFound find (take i qs) found → FindResult find q (Err e) → IsFirstUnfound find qs e
first_at_none find qs i q found (errors.Refused line) lt is h f = record {
  front = take i qs;
  found = found;
  asked_question = q;
  rest = drop (i + 1) qs;
  cut = sym (take-append-drop (i + 1) qs) ∙ ap (λ z. z ++ drop (i + 1) qs) (take_more qs i q lt ∙ ap (λ z. take i qs ++ z ∷ []) (sym is))
      ∙ append_assoc (take i qs) (q ∷ []) (drop (i + 1) qs);
  before = h;
  none = f.0;
  place = f.1;
}
first_at_none find qs i q found errors.Memory lt is h f = tt

pub refused_as : {A : Type 0} (P : WorldError → Type 0) (e f : WorldError) (r : Result A WorldError) → r ≡ Err f → f ≡ e → P e → IfErr r P
refused_as P e f r is of h = rw (is, of) h

-- as many are found as there are questions
pub as_many : {A : Type 0} (find : AskedQuestion → Option A) (qs : List AskedQuestion) (found : List A) → AreFound find qs found
    → length found ≡ length (questions_of qs)
as_many find qs found h =
    sym (length-map found Some) ∙ sym (ap length h) ∙ length-map qs find ∙ sym (length-map qs (λ i. i.question))

-- a world that can be planned has fewer than 2 ^ 32 questions
pub few_questions : (w : World) → IsFit w → length (questions_of w.questions) < 2 ^ 32
few_questions w fit = subst (λ z. z < 2 ^ 32) (sym (length-map w.questions (λ i. i.question))) fit.few
