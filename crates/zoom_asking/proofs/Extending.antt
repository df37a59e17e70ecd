-- Histories of the pool in which one connection has new events.
use Rattle.std.proofs.Common.{◌≡◌, ◌∙◌, sym, ap, subst, ℕ, List, [], ◌∷◌, ◌++◌, append_assoc, append-nil, refl}
use Rattle.zoom_questions.specs.declared.question.Question.{Question}
use Rattle.zoom_questions.specs.declared.question.MetaSettings.{MetaSettings}
use Rattle.zoom_pool.specs.Transcripts.{Event, given}
use Rattle.zoom_pool.specs.History.{History, events_on}
use Rattle.zoom_pool.specs.Metas.{MetaLinks, MetaAfter, MetaRecorded}
use Rattle.zoom_pool.proofs.Pools.{only_same, only_other}
use Rattle.zoom_asking.specs.Talks.{Relation}
use Rattle.zoom_asking.specs.Steps.{Extended, IsExtended}

-- ---- one event

-- this event was added
abbrev pub IsAdded : Event → Relation
IsAdded event s question old new = new ≡ event ∷ old

-- One event was added, and these octets were handed out.
pub extended_by : (c : ℕ) (questions : List Question) (s : MetaSettings) (pool : History) (event : Event)
    (R : List Event → List Event → Type 0) (new : MetaLinks) (waits : List ℕ)
    → MetaAfter questions s ((c, event) ∷ pool) new → R (events_on c pool) (event ∷ events_on c pool)
    → given (event ∷ events_on c pool) ≡ given (events_on c pool)
    → Extended c questions s pool R new waits waits
extended_by c questions s pool event R new waits meta mine gives = record {
  more = (c, event) ∷ pool;
  meta = meta;
  others = λ d far. only_other c d event pool far;
  mine = subst (λ z. R (events_on c pool) z) (sym (only_same c event pool)) mine;
  out = [];
  gave = ap given (only_same c event pool) ∙ gives ∙ sym (append-nil (given (events_on c pool)));
  kept = sym (append-nil waits);
}

-- An event that hands nothing out was recorded.
pub recorded : (c : ℕ) (event : Event) (old new : MetaLinks) (waits : List ℕ)
    → ((events : List Event) → given (event ∷ events) ≡ given events)
    → MetaRecorded c event old new → IsExtended c (IsAdded event) old new waits waits
recorded c event old new waits gives after questions s pool question a asks =
    extended_by c questions s pool event (λ xs ys. ys ≡ event ∷ xs) new waits (after questions s [] pool a) refl
    (gives (events_on c pool))

-- ---- several

-- Nothing was added.
pub extended_none : (c : ℕ) (R : Relation) (meta : MetaLinks) (waits : List ℕ)
    → ((s : MetaSettings) (question : Question) (events : List Event) → R s question events events)
    → IsExtended c R meta meta waits waits
extended_none c R meta waits none questions s pool question a asks = record {
  more = pool;
  meta = a;
  others = λ d far. refl;
  mine = none s question (events_on c pool);
  out = [];
  gave = sym (append-nil (given (events_on c pool)));
  kept = sym (append-nil waits);
}

-- One after the other.
pub extended_on : (c : ℕ) (R S T : Relation) (old mid new : MetaLinks) (waited held waits : List ℕ)
    → ((s : MetaSettings) (question : Question) (xs ys zs : List Event) → R s question xs ys → S s question ys zs
    → T s question xs zs)
    → IsExtended c R old mid waited held → IsExtended c S mid new held waits → IsExtended c T old new waited waits
extended_on c R S T old mid new waited held waits joins one two questions s pool question a asks =
    let x : Extended c questions s pool (R s question) mid waited held = one questions s pool question a asks in
    let y : Extended c questions s x.more (S s question) new held waits = two questions s x.more question x.meta asks in
    record {
      more = y.more;
      meta = y.meta;
      others = λ d far. y.others d far ∙ x.others d far;
      mine = joins s question (events_on c pool) (events_on c x.more) (events_on c y.more) x.mine y.mine;
      out = x.out ++ y.out;
      gave = y.gave ∙ ap (λ z. z ++ y.out) x.gave ∙ append_assoc (given (events_on c pool)) x.out y.out;
      kept = y.kept ∙ ap (λ z. z ++ y.out) x.kept ∙ append_assoc waited x.out y.out;
    }

-- Another relation.
pub extended_as : (c : ℕ) (R T : Relation) (old new : MetaLinks) (waited waits : List ℕ)
    → ((s : MetaSettings) (question : Question) (xs ys : List Event) → R s question xs ys → T s question xs ys)
    → IsExtended c R old new waited waits → IsExtended c T old new waited waits
extended_as c R T old new waited waits turns one questions s pool question a asks =
    let x : Extended c questions s pool (R s question) new waited waits = one questions s pool question a asks in
    record {
      more = x.more;
      meta = x.meta;
      others = x.others;
      mine = turns s question (events_on c pool) (events_on c x.more) x.mine;
      out = x.out;
      gave = x.gave;
      kept = x.kept;
    }
