-- Targets for questions, one after the other.
use Rattle.std.proofs.Common.{◌≡◌, ◌∙◌, sym, ap, subst, refl, ℕ, zero, suc, ◌+◌, ◌<◌, ◌≤◌, ◌^◌, Bool, true, false, if◌then◌else◌, List, [], ◌∷◌, length, drop, get_or, slice_get, Option, Some, None, IfSome}
use Rattle.std.specs.Borrow.{Bor}
use Rattle.std.specs.Option.{option_map}
use Rattle.std.specs.Str.{bytes_eq}
use Rattle.std.proofs.lemmas.List.{at_drop_more}
use Rattle.ztarget.specs.Receiving.{TargetState, new_target}
use Rattle.ztarget.specs.Searching.{entries_in}
use Rattle.zoom_questions.specs.declared.question.Question.{Question}
use Rattle.zoom_questions.specs.Askable.{AreAskable}
use Rattle.zmeta_world.specs.Finding.{questions_of, AreFound, AreParts}
use Rattle.zmeta_world.specs.InMemoryRuns.{AreSmall, target_at, target_for, target_named, state_of, IsFit, IsInMemoryRun, settings_by}
use Rattle.zoom_questions.specs.NewTargets.{AreNew}
use Rattle.zmeta_world.proofs.Finding.{as_many, few_questions}
use Rattle.zmeta_world.specs.declared.world.End.{End}
use Rattle.zmeta_world.specs.declared.world.End.TheVariants as ends
use Rattle.zmeta_world.specs.declared.world.World.{World}
use Rattle.zmeta_world.specs.declared.world.AskedQuestion.{AskedQuestion}
use Rattle.zmeta_world.specs.declared.world.NamedTarget.{NamedTarget}
use Rattle.zmeta_world.specs.declared.parts.Parts.{Parts}
use Rattle.zmeta_world.proofs.WorldParsing.{none_some, some_same}
use Rattle.zmeta_world.proofs.FitWants.{mapped}

small_place : (ts : List NamedTarget) (place : ℕ) (t : NamedTarget) → AreSmall ts → slice_get ts place ≡ Some t → length (entries_in t.databases) < 2 ^ 32
small_place [] place t h e = absurd (none_some e)
small_place (u ∷ ts) zero t h e = subst (λ z. length (entries_in z.databases) < 2 ^ 32) (some_same u t e) h.0
small_place (u ∷ ts) (suc place) t h e = small_place ts place t h.1 e

pub small_at : (ts : List NamedTarget) (end : End) (t : NamedTarget) → AreSmall ts → Some t ≡ target_at ts end → length (entries_in t.databases) < 2 ^ 32
small_at ts (ends.Target place) t h e = small_place ts place t h (sym e)
small_at ts (ends.Host place) t h e = absurd (none_some (sym e))

-- ---- the target with a name

at_next : (name : List ℕ) (ts : List NamedTarget) (i : ℕ) (t : NamedTarget) → i < length ts → t ≡ get_or ts i t
    → target_named name (drop i ts) ≡ target_named name (t ∷ drop (i + 1) ts)
at_next name ts i t lt is = at_drop_more (target_named name) ts i t lt ∙ ap (λ z. target_named name (z ∷ drop (i + 1) ts)) (sym is)

pub passed_over : (name : List ℕ) (ts : List NamedTarget) (i : ℕ) (t : NamedTarget) → i < length ts → t ≡ get_or ts i t
    → bytes_eq name t.name ≡ false → target_named name (drop i ts) ≡ target_named name ts
    → target_named name (drop (i + 1) ts) ≡ target_named name ts
passed_over name ts i t lt is other h =
    ap (λ b. if b then Some t else target_named name (drop (i + 1) ts)) (sym other) ∙ sym (at_next name ts i t lt is) ∙ h

pub found_here : (name : List ℕ) (ts : List NamedTarget) (i : ℕ) (t : NamedTarget) → i < length ts → t ≡ get_or ts i t
    → bytes_eq name t.name ≡ true → target_named name (drop i ts) ≡ target_named name ts → Some t ≡ target_named name ts
found_here name ts i t lt is same h =
    ap (λ b. if b then Some t else target_named name (drop (i + 1) ts)) (sym same) ∙ sym (at_next name ts i t lt is) ∙ h

pub small_named : (name : List ℕ) (ts : List NamedTarget) (t : NamedTarget) → AreSmall ts → target_named name ts ≡ Some t
    → length (entries_in t.databases) < 2 ^ 32
small_named name [] t h e = absurd (none_some e)
small_named name (u ∷ ts) t h e = by (bytes_eq name u.name) (small_named name ts t h.1) e
  where
    by : (b : Bool) → (target_named name ts ≡ Some t → length (entries_in t.databases) < 2 ^ 32)
        → (if b then Some u else target_named name ts) ≡ Some t → length (entries_in t.databases) < 2 ^ 32
    by true on e = subst (λ z. length (entries_in z.databases) < 2 ^ 32) (some_same u t e) h.0
    by false on e = on e

pub small_target : (name : List ℕ) (ts all : List NamedTarget) (found : Option (Bor NamedTarget)) → ts ≡ all → AreSmall all
    → option_map (λ t. t.now) found ≡ target_named name ts → IfSome found (λ t. length (entries_in t.now.databases) < 2 ^ 32)
small_target name ts all None same h e = tt
small_target name ts all (Some t) same h e = small_named name ts t.now (subst AreSmall (sym same) h) (sym e)

-- ---- all targets

new_of : (all : List NamedTarget) (q : AskedQuestion) (s : TargetState) → target_for all q ≡ Some s → s ≡ new_target s.databases s.settings
new_of all q s e =
    let m = mapped state_of (target_at all q.end) s e in
    subst (λ z. z ≡ new_target z.databases z.settings) m.gives refl

abbrev head_is : {A : Type 0} → A → List A → A
head_is d [] = d
head_is d (x ∷ xs) = x

abbrev tail_is : {A : Type 0} → List A → List A
tail_is [] = []
tail_is (x ∷ xs) = xs

all_new : (all : List NamedTarget) (qs : List AskedQuestion) (ss : List TargetState) → AreFound (target_for all) qs ss → AreNew ss
all_new all [] [] h = tt
all_new all [] (s ∷ ss) h = absurd (Prim.cc h)
all_new all (q ∷ qs) [] h = absurd (Prim.cc h)
all_new all (q ∷ qs) (s ∷ ss) h = (new_of all q s (ap (head_is None) h), all_new all qs ss (ap tail_is h))

pub in_memory_run : (name : List ℕ) (w : World) (p : Parts) (all : List NamedTarget) (asked taken : List AskedQuestion) (found : List TargetState)
    (qs : List Question) (ss : List TargetState) (names : List (List ℕ))
    → IsFit w → length name ≤ 2000000 → all ≡ w.targets → asked ≡ w.questions → taken ≡ w.questions
    → AreFound (target_for all) asked found → AreParts taken p → qs ≡ p.questions.items → ss ≡ found → names ≡ p.names.items
    → IsInMemoryRun name w (record { questions = qs; settings = settings_by name w; targets = ss; names = names; moves = w.moves })
in_memory_run name w p all asked taken found qs ss names fit short t i j f h q s n =
    let parts : AreParts w.questions p = subst (λ z. AreParts z p) j h in
    let same : qs ≡ questions_of w.questions = q ∙ parts.questions in
    let put : AreFound (target_for w.targets) w.questions ss =
    subst (AreFound (target_for w.targets) w.questions) (sym s)
    (subst (λ z. AreFound (target_for w.targets) z found) i (subst (λ z. AreFound (target_for z) asked found) t f)) in
    record {
      questions = same;
      settings = refl;
      targets = put;
      names = n ∙ parts.names;
      moves = refl;
      few = subst (λ z. length z < 2 ^ 32) (sym same) (few_questions w fit);
      askable = subst AreAskable (sym same) fit.askable;
      fit = fit.settings name short;
      equal = as_many (target_for w.targets) w.questions ss put ∙ sym (ap length same);
      fresh = all_new w.targets w.questions ss put;
    }
