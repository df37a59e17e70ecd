-- The questions of a search, one after the other.
use Rattle.std.proofs.Common.{◌≡◌, ◌∙◌, sym, ap, refl, subst, ℕ, ◌+◌, ◌^◌, ◌<◌, ◌≤◌, min, List, [], ◌∷◌, ◌++◌, length, get_or, drop, map, Result, Err, IfErr, arith, length-append, ⊎_elim}
use Rattle.std.proofs.Math.ListN.{get_or-append}
use Rattle.std.proofs.lemmas.Bool.{cases_lt}
use Rattle.std.proofs.lemmas.List.{drop_more, at_drop_all, get_or_push, get_or_default}
use Rattle.zoom_questions.specs.Askable.{IsAskable, AreAskable}
use Rattle.zmeta_world.specs.declared.world.AskedQuestion.{AskedQuestion}
use Rattle.zmeta_world.specs.declared.world.NamedHost.{NamedHost}
use Rattle.zmeta_world.specs.Finding.{questions_of}
use Rattle.zmeta_catalogues.specs.declared.catalogue.Catalogue.{Catalogue}
use Rattle.zmeta_world.specs.declared.world.NamedTarget.{NamedTarget}
use Rattle.zmeta_world.specs.declared.world.World.{World}
use Rattle.zmeta_world.specs.InMemoryRuns.{AreSmall, IsFit}
use Rattle.zmeta_catalogues.specs.Asked.{AskedSearch, IsAsked, IsAskedWorld, host_of, least_of, least_step, least_window}
use Rattle.zmeta_catalogues.specs.declared.search.AskError.{AskError}
use Rattle.zmeta_catalogues.specs.AskErrors.{IsAskError, AreAskErrors}
use Rattle.zmeta_catalogues.specs.Asking.{AreAskedTo}
use Rattle.zmeta_catalogues.proofs.OneQuestion.{one_error}

-- a question more that can be asked
pub one_askable : (qs : List AskedQuestion) (q : AskedQuestion) → AreAskable (questions_of qs) → IsAskable q.question
    → AreAskable (questions_of (qs ++ q ∷ []))
one_askable [] q h is = (is, tt)
one_askable (x ∷ qs) q h is = (h.0, one_askable qs q h.1 is)

-- one element more at the end of a list, and what holds of each by its index
one_more : {X : Type 0} (P : ℕ → X → Type 0) (xs : List X) (x : X) (n : ℕ) → length xs ≡ n
    → ((at : ℕ) (d : X) → at < n → P at (get_or xs at d)) → P n x
    → (at : ℕ) (d : X) → at < n + 1 → P at (get_or (xs ++ x ∷ []) at d)
one_more P xs x n many each last at d lt =
    ⊎_elim
    (λ (b : at < n). subst (P at) (sym (get_or-append xs (x ∷ []) d at (omega arith))) (each at d b))
    (λ (b : n ≤ at).
    let same : n ≡ at = omega arith in
    subst (λ (k : ℕ). P k (get_or (xs ++ x ∷ []) k d)) same (subst (P n) (sym (get_or_push xs x d n many)) last))
    (cases_lt at n)

-- a catalogue more is asked
pub one_asked : (s : AskedSearch) (cs : List Catalogue) (n : ℕ) (hosts : List NamedHost) (qs : List AskedQuestion)
    (c : Catalogue) (h : NamedHost) (q : AskedQuestion) → n < length cs → c ≡ get_or cs n c → h ≡ host_of c
    → IsAsked s n c q → IsAskable q.question → AreAskedTo s cs n hosts qs
    → AreAskedTo s cs (n + 1) (hosts ++ h ∷ []) (qs ++ q ∷ [])
one_asked s cs n hosts qs c h q lt is host asked askable before =
    let here : (d : Catalogue) → c ≡ get_or cs n d = (λ d. is ∙ get_or_default cs n c d lt) in
    let many_hosts = before.as_many_hosts in
    let many = before.as_many in record {
      as_many_hosts = omega (arith, length-append hosts (h ∷ []));
      as_many = omega (arith, length-append qs (q ∷ []));
      each_host =
          λ at d e less. one_more (λ (k : ℕ) (x : NamedHost). (d : Catalogue) → x ≡ host_of (get_or cs k d)) hosts h n
          many_hosts (λ k x below d. before.each_host k d x below) (λ d. host ∙ ap host_of (here d)) at e less d;
      each_question =
          λ at d e less. one_more (λ (k : ℕ) (x : AskedQuestion). (d : Catalogue) → IsAsked s k (get_or cs k d) x) qs q
          n many (λ k x below d. before.each_question k d x below)
          (λ d. subst (λ (x : Catalogue). IsAsked s n x q) (here d) asked) at e less d;
      askable = one_askable qs q before.askable askable;
    }

-- no catalogue is asked yet
pub none_asked : (s : AskedSearch) (cs : List Catalogue) (hosts : List NamedHost) (qs : List AskedQuestion) → hosts ≡ []
    → qs ≡ [] → AreAskedTo s cs 0 hosts qs
none_asked s cs [] [] e f = record {
  as_many_hosts = refl;
  as_many = refl;
  each_host = λ at d h lt. absurd (omega arith);
  each_question = λ at d q lt. absurd (omega arith);
  askable = tt;
}
none_asked s cs (h ∷ hosts) qs e f = absurd (cc)
none_asked s cs [] (q ∷ qs) e f = absurd (cc)

-- a catalogue more is asked, and these are all hosts and questions then
pub next_asked : (s : AskedSearch) (cs : List Catalogue) (n : ℕ) (hosts more_hosts : List NamedHost)
    (qs more_qs : List AskedQuestion) (c : Catalogue) (h : NamedHost) (q : AskedQuestion) → n < length cs
    → c ≡ get_or cs n c → h ≡ host_of c → IsAsked s n c q → IsAskable q.question → more_hosts ≡ hosts ++ h ∷ []
    → more_qs ≡ qs ++ q ∷ [] → AreAskedTo s cs n hosts qs → AreAskedTo s cs (n + 1) more_hosts more_qs
next_asked s cs n hosts more_hosts qs more_qs c h q lt is host asked askable e f before =
    subst (λ (x : List NamedHost). AreAskedTo s cs (n + 1) x more_qs) (sym e)
    (subst (λ (x : List AskedQuestion). AreAskedTo s cs (n + 1) (hosts ++ h ∷ []) x) (sym f)
    (one_asked s cs n hosts qs c h q lt is host asked askable before))

-- all catalogues are asked
pub all_asked : (s : AskedSearch) (cs : List Catalogue) (n : ℕ) (hosts : List NamedHost) (qs : List AskedQuestion)
    → length cs ≤ n → n ≤ length cs → AreAskedTo s cs n hosts qs → AreAskedTo s cs (length cs) hosts qs
all_asked s cs n hosts qs least most h =
    let same : n ≡ length cs = omega arith in subst (λ (k : ℕ). AreAskedTo s cs k hosts qs) same h

-- a catalogue cannot be asked
pub not_asked : (s : AskedSearch) (cs : List Catalogue) (n : ℕ) (c : Catalogue) (e : AskError) → n < length cs
    → c ≡ get_or cs n c → IsAskError s c e → AreAskErrors s cs e
not_asked s cs n c e lt is h =
    one_error s cs n e lt
    (λ d. subst (λ (x : Catalogue). IsAskError s x e) (is ∙ get_or_default cs n c d lt) h)

-- an error is passed on
pub refused : {A : Type 0} (P : AskError → Type 0) (e f : AskError) (r : Result A AskError) → r ≡ Err f → f ≡ e → P e
    → IfErr r P
refused P e f r is of h = rw (is, of) h

-- the hosts and questions are put into lists
pub put_into : (s : AskedSearch) (cs : List Catalogue) (n : ℕ) (hosts put_hosts : List NamedHost)
    (qs put_qs : List AskedQuestion) → put_hosts ≡ hosts → put_qs ≡ qs → AreAskedTo s cs n hosts qs
    → AreAskedTo s cs n put_hosts put_qs
put_into s cs n hosts put_hosts qs put_qs e f h =
    subst (λ (x : List NamedHost). AreAskedTo s cs n x put_qs) (sym e)
    (subst (λ (x : List AskedQuestion). AreAskedTo s cs n hosts x) (sym f) h)

-- the world of these hosts and questions is the one that is asked
pub asked_world : (s : AskedSearch) (cs : List Catalogue) (w : World) → w.step ≡ least_step cs
    → w.window ≡ least_window cs → w.targets ≡ [] → w.moves ≡ [] → AreAskedTo s cs (length cs) w.hosts w.questions
    → IsAskedWorld s cs w
asked_world s cs w step window targets moves h = record {
  step = step;
  window = window;
  targets = targets;
  asked = record {
    as_many_hosts = h.as_many_hosts;
    as_many = h.as_many;
    each_host = h.each_host;
    each_question = h.each_question;
  };
  moves = moves;
}

-- it can be planned
pub fit_world : (s : AskedSearch) (cs : List Catalogue) (w : World) → length cs < 2 ^ 32 → 0 < w.step → w.step ≤ 1000
    → 0 < w.window → w.window ≤ 64 → w.targets ≡ [] → AreAskedTo s cs (length cs) w.hosts w.questions → IsFit w
fit_world s cs w few steps most room widest targets h = record {
  few = let many = h.as_many in omega arith;
  askable = h.askable;
  settings = λ name short. record { name = short; steps = steps; most = most; room = room; widest = widest };
  small = subst (λ (ts : List NamedTarget). AreSmall ts) (sym targets) tt;
}

-- a catalogue more, and the least number then
pub least_next : (f : Catalogue → ℕ) (cs : List Catalogue) (i : ℕ) (c : Catalogue) (least n next all : ℕ)
    → i < length cs → c ≡ get_or cs i c → n ≡ f c → next ≡ min least n → all ≡ least_of least (map f (drop i cs))
    → all ≡ least_of next (map f (drop (i + 1) cs))
least_next f cs i c least n next all lt is number less before =
    before ∙ ap (λ (xs : List Catalogue). least_of least (map f xs)) (drop_more cs i c lt)
    ∙ ap (λ (m : ℕ). least_of (min least m) (map f (drop (i + 1) cs))) (sym (number ∙ ap f is))
    ∙ ap (λ (m : ℕ). least_of m (map f (drop (i + 1) cs))) (sym less)

-- the least number of all catalogues
pub least_end : (f : Catalogue → ℕ) (cs : List Catalogue) (i least all : ℕ) → length cs ≤ i
    → all ≡ least_of least (map f (drop i cs)) → least ≡ all
least_end f cs i least all h before =
    sym (before ∙ at_drop_all (λ (xs : List Catalogue). least_of least (map f xs)) cs i h)
