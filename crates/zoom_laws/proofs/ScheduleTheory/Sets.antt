-- The facts of an answer follow from its operation and its reply.
use Rattle.std.proofs.Common.{◌≡◌, inl, inr, ℕ, List, [], ◌∷◌, Option, None, Some, refl, sym, ap, subst, ◌∙◌}
use Rattle.zknow.specs.declared.fact.Fact.{Fact}
use Rattle.zplan.specs.Plan as plan
use Rattle.zplan.specs.Plan.{Operation}
use Rattle.zplan.specs.Positions.{IsIn}
use Rattle.zplan.proofs.Cuts.{in_either}
use Rattle.zapdu.specs.declared.apdu.Apdu.{Apdu}
use Rattle.zapdu.specs.declared.apdu.Apdu.TheVariants as apdus
use Rattle.zorigin.specs.declared.settings.Settings.{Settings}
use Rattle.zorigin.specs.declared.answer.Asked.{Asked}
use Rattle.zorigin.specs.declared.answer.What.{What}
use Rattle.zorigin.specs.declared.answer.What.TheVariants as what
use Rattle.zorigin.specs.declared.answer.Answer.{Answer}
use Rattle.zorigin.specs.declared.refusal.CallRefused.{CallRefused}
use Rattle.zorigin.specs.Standings.{Call, Init, Search, Present, Close}
use Rattle.zorigin.specs.Calls.{refusal}
use Rattle.zorigin.specs.Replies.{verdict}
use Rattle.zorigin.specs.Log.{Log, Made, Got, past, standing, asked, operation_of, admit_unless}
use Rattle.zorigin_facts.specs.Facts.{facts_by, facts_of, init_facts, search_facts, present_facts}
use Rattle.zoom_pool.specs.Driving.{operation_for}
use Rattle.zoom_pool.specs.Steering.{Errand, IsCallOf, IsSteered, IsSteeredCall}
use Rattle.zoom_pool.specs.Laws.{plain}
use Rattle.zoom_pool.proofs.Drivings.{asked_more, same_asked}

-- ---- the result set of an operation

abbrev pub set_for : What → ℕ
set_for what.Init = 0
set_for what.Search = 1
set_for (what.Present ranges) = 1

of_call : (e : Errand) (call : Call) (q : Asked) → IsCallOf e call → IsIn q (operation_of call) → q.set ≡ set_for q.what
of_call e Init q of (inl is) = ap (λ (z : Asked). z.set) is ∙ ap (λ (z : Asked). set_for z.what) (sym is)
of_call e Init q of (inr i) = absurd i
of_call e (Search op set ask) q of (inl is) =
    ap (λ (z : Asked). z.set) is ∙ of.0 ∙ ap (λ (z : Asked). set_for z.what) (sym is)
of_call e (Search op set ask) q of (inr i) = absurd i
of_call e (Present op set ranges) q of (inl is) =
    ap (λ (z : Asked). z.set) is ∙ of ∙ ap (λ (z : Asked). set_for z.what) (sym is)
of_call e (Present op set ranges) q of (inr i) = absurd i
of_call e Close q of i = absurd i

pub of_set : (e : Errand) (settings : Settings) (log : Log) → IsSteered e settings log → (q : Asked)
    → IsIn q (asked (past settings log)) → q.set ≡ set_for q.what
of_set e settings [] s q i = absurd i
of_set e settings (Made call ∷ log) s q i =
    made (of_set e settings log s.1 q) (refusal (standing (past settings log)) call) s.0 i
  where
    made : (IsIn q (asked (past settings log)) → q.set ≡ set_for q.what) → (r : Option CallRefused)
        → IsSteeredCall e settings log r call
        → IsIn q (asked (admit_unless (past settings log) call r)) → q.set ≡ set_for q.what
    made before (Some r) c j = before j
    made before None c j =
        elim (in_either q (asked (past settings log)) (operation_of call) (subst (IsIn q) (asked_more (past settings log) call) j)) [
          | inl k ↦ before k
          | inr k ↦ of_call e call q c.0.of k
        ]
of_set e settings (Got reply ∷ log) s q i =
    of_set e settings log s q (subst (IsIn q) (same_asked (past settings log) (verdict (standing (past settings log)) reply)) i)

-- ---- the facts of an answer

abbrev pub facts_for : ℕ → Operation → Apdu → List Fact
facts_for target plan.Init (apdus.InitResponse v) = init_facts target v
facts_for target plan.Search (apdus.SearchResponse v) = search_facts target 1 v
facts_for target (plan.Present l) (apdus.PresentResponse v) = present_facts target 1 l v
facts_for _ _ _ = []

facts_as : (target : ℕ) (w : What) (reply : Apdu) → facts_by target (set_for w) w reply ≡ facts_for target (operation_for w) reply
facts_as target what.Init (apdus.InitRequest v) = refl
facts_as target what.Init (apdus.InitResponse v) = refl
facts_as target what.Init (apdus.SearchRequest v) = refl
facts_as target what.Init (apdus.SearchResponse v) = refl
facts_as target what.Init (apdus.PresentRequest v) = refl
facts_as target what.Init (apdus.PresentResponse v) = refl
facts_as target what.Init (apdus.Close v) = refl
facts_as target what.Search (apdus.InitRequest v) = refl
facts_as target what.Search (apdus.InitResponse v) = refl
facts_as target what.Search (apdus.SearchRequest v) = refl
facts_as target what.Search (apdus.SearchResponse v) = refl
facts_as target what.Search (apdus.PresentRequest v) = refl
facts_as target what.Search (apdus.PresentResponse v) = refl
facts_as target what.Search (apdus.Close v) = refl
facts_as target (what.Present ranges) (apdus.InitRequest v) = refl
facts_as target (what.Present ranges) (apdus.InitResponse v) = refl
facts_as target (what.Present ranges) (apdus.SearchRequest v) = refl
facts_as target (what.Present ranges) (apdus.SearchResponse v) = refl
facts_as target (what.Present ranges) (apdus.PresentRequest v) = refl
facts_as target (what.Present ranges) (apdus.PresentResponse v) = refl
facts_as target (what.Present ranges) (apdus.Close v) = refl

facts_plain : (target : ℕ) (a : Operation) (reply : Apdu) → facts_for target a reply ≡ facts_for target a (plain reply)
facts_plain target plan.Init (apdus.InitRequest v) = refl
facts_plain target plan.Init (apdus.InitResponse v) = refl
facts_plain target plan.Init (apdus.SearchRequest v) = refl
facts_plain target plan.Init (apdus.SearchResponse v) = refl
facts_plain target plan.Init (apdus.PresentRequest v) = refl
facts_plain target plan.Init (apdus.PresentResponse v) = refl
facts_plain target plan.Init (apdus.Close v) = refl
facts_plain target plan.Search (apdus.InitRequest v) = refl
facts_plain target plan.Search (apdus.InitResponse v) = refl
facts_plain target plan.Search (apdus.SearchRequest v) = refl
facts_plain target plan.Search (apdus.SearchResponse v) = refl
facts_plain target plan.Search (apdus.PresentRequest v) = refl
facts_plain target plan.Search (apdus.PresentResponse v) = refl
facts_plain target plan.Search (apdus.Close v) = refl
facts_plain target (plan.Present l) (apdus.InitRequest v) = refl
facts_plain target (plan.Present l) (apdus.InitResponse v) = refl
facts_plain target (plan.Present l) (apdus.SearchRequest v) = refl
facts_plain target (plan.Present l) (apdus.SearchResponse v) = refl
facts_plain target (plan.Present l) (apdus.PresentRequest v) = refl
facts_plain target (plan.Present l) (apdus.PresentResponse v) = refl
facts_plain target (plan.Present l) (apdus.Close v) = refl

facts_asked : (target : ℕ) (x : Answer) → x.asked.set ≡ set_for x.asked.what
    → facts_of target x ≡ facts_for target (operation_for x.asked.what) x.reply
facts_asked target x e =
    ap (λ n. facts_by target n x.asked.what x.reply) e ∙ facts_as target x.asked.what x.reply

-- answers to one operation with equal replies have the same facts
pub same_answer : (target : ℕ) (x y : Answer) → x.asked.set ≡ set_for x.asked.what → y.asked.set ≡ set_for y.asked.what
    → operation_for x.asked.what ≡ operation_for y.asked.what → plain x.reply ≡ plain y.reply
    → facts_of target x ≡ facts_of target y
same_answer target x y p q op e =
    facts_asked target x p ∙ facts_plain target (operation_for x.asked.what) x.reply
    ∙ ap (facts_for target (operation_for x.asked.what)) e
    ∙ ap (λ a. facts_for target a (plain y.reply)) op
    ∙ sym (facts_plain target (operation_for y.asked.what) y.reply) ∙ sym (facts_asked target y q)
