-- A world file, with one search put to its questions, has one network plan.
use Rattle.std.proofs.Common.{◌≡◌, refl, sym, ◌∙◌, ap, subst, ℕ, ◌+◌, List, [], ◌∷◌, ◌++◌, length, map, Option, Some, None}
use Rattle.std.proofs.lemmas.Option.{same_Some}
use Rattle.zquery.specs.declared.notation.token.Token.{Token}
use Rattle.zquery.specs.Notation.Laws.{OneLexing, OneQueryOrFault}
use Rattle.zmeta_world.specs.declared.world.World.{World}
use Rattle.zmeta_world.specs.declared.world.AskedQuestion.{AskedQuestion}
use Rattle.zmeta_world.specs.declared.world.line.Line.{Line}
use Rattle.zmeta_world.specs.declared.world.line.Line.TheVariants as lines
use Rattle.zmeta_world.specs.declared.network.NetworkRun.{NetworkRun}
use Rattle.zmeta_world.specs.NetworkRuns.{IsNetworkRun}
use Rattle.zmeta_world.specs.Search.{SearchTexts, IsReplaced, IsAskedBy, AreAskedBy, IsWorldWith, IsWanted, IsElements, IsAskedSyntax}
use Rattle.zmeta_world.specs.WorldLines.{line_of, token_texts}
use Rattle.zmeta_world.specs.Worlds.{put_question, IsQueryOf, AfterLine, AfterLineText, AreWorld, none, more, empty}
use Rattle.zmeta_world.specs.Plans.{PlanLaw}

-- what is one in zquery: the tokens of a text, and its query
pub record Ones : Type 0 where
  pub lexing : OneLexing
  pub query : OneQueryOrFault

-- ---- lines

some_one : {A : Type 0} {o : Option A} {x y : A} → o ≡ Some x → o ≡ Some y → x ≡ y
some_one {x = x} {y = y} p q = same_Some x y (sym p ∙ q)

module _ (one : Ones) where
  query_one : (text : List ℕ) (q r : _) → IsQueryOf text q → IsQueryOf text r → q ≡ r
  query_one text q r a b = one.query.one_query text q r a.0 b.0

  line_one : (number : ℕ) (line : Line) (w v u : World) → AfterLine number line w v → AfterLine number line w u
      → v ≡ u
  line_one number lines.Empty w v u a b = some_one a b
  line_one number (lines.Step n) w v u a b = some_one a b
  line_one number (lines.Window n) w v u a b = some_one a b
  line_one number (lines.Target name settings) w v u a b = some_one a b
  line_one number (lines.Host name address) w v u a b = some_one a b
  line_one number (lines.Database name) w v u a b = some_one a b
  line_one number (lines.Content content) w v u a b = some_one a b
  line_one number (lines.Ask line) w v u a b =
      let same = query_one line.text a.0 b.0 a.1 b.1 in
      some_one (sym (ap (λ q. put_question number line q w) same) ∙ a.2) b.2
  line_one number (lines.Carry way name k) w v u a b = some_one a b

  text_one : (number : ℕ) (text : List ℕ) (w v u : World) → AfterLineText number text w v
      → AfterLineText number text w u → v ≡ u
  text_one number text w v u a b =
      let tokens = one.lexing.one_list text a.tokens b.tokens a.lexed b.lexed in
      let line = some_one (sym (ap (λ (ts : List Token). line_of (token_texts ts)) tokens) ∙ a.meaning) b.meaning in
      line_one number b.line w v u (subst (λ (l : Line). AfterLine number l w v) line a.effect) b.effect

  -- ---- worlds

  -- the last line is the same, and so are those before it
  last_same : (xs ys : List (List ℕ)) (x y : List ℕ) → xs ++ x ∷ [] ≡ ys ++ y ∷ [] → (xs ≡ ys) × (x ≡ y)
  last_same [] [] x y e = let is : x ≡ y = cc in (refl, is)
  last_same [] (b ∷ []) x y e = absurd cc
  last_same [] (b ∷ c ∷ ys) x y e = absurd cc
  last_same (a ∷ []) [] x y e = absurd cc
  last_same (a ∷ c ∷ xs) [] x y e = absurd cc
  last_same (a ∷ xs) (b ∷ ys) x y e =
      let head : a ≡ b = cc in
      let tail : xs ++ x ∷ [] ≡ ys ++ y ∷ [] = cc in
      let is = last_same xs ys x y tail in
      (ap (λ (z : List ℕ). z ∷ xs) head ∙ ap (λ (zs : List (List ℕ)). b ∷ zs) is.0, is.1)

  never_empty : (xs : List (List ℕ)) (x : List ℕ) → [] ≡ xs ++ x ∷ [] → ⊥
  never_empty [] x e = cc
  never_empty (y ∷ xs) x e = cc

  world_one : (all most : List (List ℕ)) (v u : World) → AreWorld all v → AreWorld most u → all ≡ most → v ≡ u
  world_one all most v u none none e = refl
  world_one all most v u none (more {front = ys} {text = y} b c) e = absurd (never_empty ys y e)
  world_one all most v u (more {front = xs} {text = x} a c) none e = absurd (never_empty xs x (sym e))
  world_one all most v u (more {front = xs} {text = x} {w = w} a c) (more {front = ys} {text = y} {w = z} b d) e =
      let is = last_same xs ys x y e in
      let before : w ≡ z = world_one xs ys w z a b is.0 in
      let place : length xs + 1 ≡ length ys + 1 = ap (λ (l : List (List ℕ)). length l + 1) is.0 in
      let first = subst (λ (n : ℕ). AfterLineText n x w v) place c in
      let second = subst (λ (t : List ℕ). AfterLineText (length ys + 1) t w v) is.1 first in
      text_one (length ys + 1) y z v u (subst (λ (k : World). AfterLineText (length ys + 1) y k v) before second) d

  -- ---- the search

  replaced_one : {A : Type 0} (Means : List ℕ → A → Type 0)
      → ((text : List ℕ) (x y : A) → Means text x → Means text y → x ≡ y)
      → (text : Option (List ℕ)) (was x y : A) → IsReplaced Means text was x → IsReplaced Means text was y → x ≡ y
  replaced_one Means f None was x y a b = a ∙ sym b
  replaced_one Means f (Some text) was x y a b = f text x y a b

  asked_one : (s : SearchTexts) (was now then : AskedQuestion) → IsAskedBy s was now → IsAskedBy s was then
      → now ≡ then
  asked_one s was now then a b =
      let query = replaced_one IsQueryOf query_one s.query was.question.query now.question.query then.question.query
      a.query b.query in
      let wanted = replaced_one IsWanted (λ text x y p q. some_one p q) s.records was.question.wanted
      now.question.wanted then.question.wanted a.wanted b.wanted in
      let elements = replaced_one IsElements (λ text x y p q. p ∙ sym q) s.elements was.question.elements
      now.question.elements then.question.elements a.elements b.elements in
      let syntax = replaced_one IsAskedSyntax (λ text x y p q. some_one p q) s.syntax was.question.syntax
      now.question.syntax then.question.syntax a.syntax b.syntax in
      λ i. record {
        line = (a.line ∙ sym b.line) i;
        name = (a.name ∙ sym b.name) i;
        end = (a.end ∙ sym b.end) i;
        question = record {
          databases = (a.databases ∙ sym b.databases) i;
          query = query i;
          syntax = syntax i;
          elements = elements i;
          wanted = wanted i;
        };
      }

  all_asked_one : (s : SearchTexts) (was now then : List AskedQuestion) → AreAskedBy s was now → AreAskedBy s was then
      → now ≡ then
  all_asked_one s [] [] [] a b = refl
  all_asked_one s [] [] (t ∷ ts) a b = absurd b
  all_asked_one s [] (n ∷ ns) then a b = absurd a
  all_asked_one s (w ∷ ws) [] then a b = absurd a
  all_asked_one s (w ∷ ws) (n ∷ ns) [] a b = absurd b
  all_asked_one s (w ∷ ws) (n ∷ ns) (t ∷ ts) a b =
      let first = asked_one s w n t a.0 b.0 in
      let others = all_asked_one s ws ns ts a.1 b.1 in
      λ i. first i ∷ others i

  put_one : (s : SearchTexts) (was now then : World) → IsWorldWith s was now → IsWorldWith s was then → now ≡ then
  put_one s was now then a b =
      let questions = all_asked_one s was.questions now.questions then.questions a.questions b.questions in
      λ i. record {
        step = (a.step ∙ sym b.step) i;
        window = (a.window ∙ sym b.window) i;
        targets = (a.targets ∙ sym b.targets) i;
        hosts = (a.hosts ∙ sym b.hosts) i;
        questions = questions i;
        moves = (a.moves ∙ sym b.moves) i;
      }

  -- ---- the plan

  found_same : {A : Type 0} (xs ys : List A) → map Some xs ≡ map Some ys → xs ≡ ys
  found_same [] [] e = refl
  found_same [] (y ∷ ys) e = absurd cc
  found_same (x ∷ xs) [] e = absurd cc
  found_same (x ∷ xs) (y ∷ ys) e =
      let head : Some x ≡ Some y = cc in
      let tail : map Some xs ≡ map Some ys = cc in
      let first = same_Some x y head in
      let others = found_same xs ys tail in
      λ i. first i ∷ others i

  run_one : (name : List ℕ) (w : World) (d e : NetworkRun) → IsNetworkRun name w d → IsNetworkRun name w e → d ≡ e
  run_one name w d e a b =
      let addresses = found_same d.addresses e.addresses (sym a.addresses ∙ b.addresses) in
      λ i. record {
        questions = (a.questions ∙ sym b.questions) i;
        settings = (a.settings ∙ sym b.settings) i;
        addresses = addresses i;
        names = (a.names ∙ sym b.names) i;
      }

  pub plan_one : PlanLaw
  plan_one name search file d e a b =
      let said : a.said ≡ b.said = world_one _ _ a.said b.said a.world b.world refl in
      let put : a.put ≡ b.put =
      put_one search b.said a.put b.put (subst (λ (w : World). IsWorldWith search w a.put) said a.searched) b.searched in
      run_one name b.put d e (subst (λ (w : World). IsNetworkRun name w d) put a.plan) b.plan
