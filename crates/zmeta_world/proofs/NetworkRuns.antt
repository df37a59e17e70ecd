-- Worlds whose hosts can be asked.
use Rattle.std.proofs.Common.{◌≡◌, ◌∙◌, sym, ap, subst, refl, ℕ, ◌<◌, ◌≤◌, ◌^◌, List, length}
use Rattle.zoom_questions.specs.declared.question.Question.{Question}
use Rattle.zoom_questions.specs.Askable.{AreAskable}
use Rattle.zmeta_world.specs.declared.world.World.{World}
use Rattle.zmeta_world.specs.declared.world.AskedQuestion.{AskedQuestion}
use Rattle.zmeta_world.specs.declared.world.NamedHost.{NamedHost}
use Rattle.zmeta_world.specs.declared.parts.Parts.{Parts}
use Rattle.zmeta_world.specs.Finding.{questions_of, AreFound, AreParts}
use Rattle.zmeta_world.specs.InMemoryRuns.{IsFit, settings_by}
use Rattle.zmeta_world.specs.NetworkRuns.{address_for, IsNetworkRun}
use Rattle.zmeta_world.proofs.Finding.{as_many, few_questions}

pub network_run : (name : List ℕ) (w : World) (p : Parts) (all : List NamedHost) (asked taken : List AskedQuestion) (found : List (List ℕ))
    (qs : List Question) (addresses names : List (List ℕ))
    → IsFit w → length name ≤ 2000000 → all ≡ w.hosts → asked ≡ w.questions → taken ≡ w.questions
    → AreFound (address_for all) asked found → AreParts taken p → qs ≡ p.questions.items → addresses ≡ found → names ≡ p.names.items
    → IsNetworkRun name w (record { questions = qs; settings = settings_by name w; addresses = addresses; names = names })
network_run name w p all asked taken found qs addresses names fit short t i j f h q s n =
    let parts : AreParts w.questions p = subst (λ z. AreParts z p) j h in
    let same : qs ≡ questions_of w.questions = q ∙ parts.questions in
    let put : AreFound (address_for w.hosts) w.questions addresses =
    subst (AreFound (address_for w.hosts) w.questions) (sym s)
    (subst (λ z. AreFound (address_for w.hosts) z found) i (subst (λ z. AreFound (address_for z) asked found) t f)) in
    record {
      questions = same;
      settings = refl;
      addresses = put;
      names = n ∙ parts.names;
      few = subst (λ z. length z < 2 ^ 32) (sym same) (few_questions w fit);
      askable = subst AreAskable (sym same) fit.askable;
      fit = fit.settings name short;
      equal = as_many (address_for w.hosts) w.questions addresses put ∙ sym (ap length same);
    }
