-- Equal replies to equal operations make the same facts known.
use Rattle.std.proofs.Common.{◌≡◌, inl, inr, ℕ, Bool, true, false, cond, List, [], ◌∷◌, length, Some, refl, sym, ap, ◌∙◌}
use Rattle.std.specs.Prelude.{◌&&◌, Contains}
use Rattle.std.specs.List.{find}
use Rattle.zplan.specs.Plan as plan
use Rattle.zplan.specs.Plan.{Operation, Reply, InitReply, SearchReply, PresentReply, replies_in, AreCompatible}
use Rattle.zplan.specs.Positions.{IsIn}
use Rattle.zplan.proofs.Order.{sent_asked}
use Rattle.zapdu.specs.declared.apdu.Apdu.{Apdu}
use Rattle.zapdu.specs.declared.apdu.Apdu.TheVariants as apdus
use Rattle.zorigin.specs.declared.settings.Settings.{Settings}
use Rattle.zorigin.specs.declared.settings.Ask.{Ask}
use Rattle.zorigin.specs.declared.answer.What.{What}
use Rattle.zorigin.specs.declared.answer.What.TheVariants as what
use Rattle.zorigin.specs.declared.answer.Answer.{Answer}
use Rattle.zorigin.specs.Replies.{verdict}
use Rattle.zorigin.specs.Fitting.{IsFitReply, records_in}
use Rattle.zorigin.specs.Accepts.{IsAccepted}
use Rattle.zorigin.specs.Changes.{options_in_force}
use Rattle.zorigin.specs.Log.{Log, Got, Past, past, standing, opening, is_opening, is_init, force_after}
use Rattle.zorigin.specs.Laws.{IsOrderly}
use Rattle.zoom_pool.specs.Driving.{operation_for, reply_for, can_search, can_present, counted, events_of, IsDrivenLog}
use Rattle.zoom_pool.specs.Laws.{plain}
use Rattle.zorigin.proofs.Members.{contained}
use Rattle.zoom_pool.proofs.Drivings.{replied, driven}
use Rattle.zoom_laws.proofs.ScheduleTheory.Replies.{CameFrom, came, kept_reply}
use Rattle.zoom_laws.proofs.ScheduleTheory.Openings.{init_replied, at_opening, search_same, shows_after, shows_same}

-- ---- a reply, by what is in force

abbrev reply_by : Bool → Bool → Apdu → Reply
reply_by search present (apdus.InitResponse v) = InitReply (v.result && search) (options_in_force v).v3
reply_by search present (apdus.SearchResponse v) = SearchReply (counted (v.search_status && present) v.result_count)
reply_by search present (apdus.PresentResponse v) = PresentReply (length (records_in v.records))
reply_by search present _ = PresentReply 0

by_reply : (ask : Ask) (p : Past) (x : Apdu) → reply_for ask p x ≡ reply_by (can_search ask p) (can_present p) x
by_reply ask p (apdus.InitRequest v) = refl
by_reply ask p (apdus.InitResponse v) = refl
by_reply ask p (apdus.SearchRequest v) = refl
by_reply ask p (apdus.SearchResponse v) = refl
by_reply ask p (apdus.PresentRequest v) = refl
by_reply ask p (apdus.PresentResponse v) = refl
by_reply ask p (apdus.Close v) = refl

by_plain : (c d : Bool) (x : Apdu) → reply_by c d x ≡ reply_by c d (plain x)
by_plain c d (apdus.InitRequest v) = refl
by_plain c d (apdus.InitResponse v) = refl
by_plain c d (apdus.SearchRequest v) = refl
by_plain c d (apdus.SearchResponse v) = refl
by_plain c d (apdus.PresentRequest v) = refl
by_plain c d (apdus.PresentResponse v) = refl
by_plain c d (apdus.Close v) = refl

by_same : (c d : Bool) (x y : Apdu) → plain x ≡ plain y → reply_by c d x ≡ reply_by c d y
by_same c d x y e = by_plain c d x ∙ ap (reply_by c d) e ∙ sym (by_plain c d y)

-- whether searches can be sent does not matter for a reply to a search or to a Present
by_fit : (w : What) (x : Apdu) (b c d : Bool) → IsFitReply w x → operation_for w ≡ plan.Search → reply_by b d x ≡ reply_by c d x
by_fit what.Init x b c d f e = absurd cc
by_fit what.Search (apdus.SearchResponse v) b c d f e = refl
by_fit what.Search (apdus.InitRequest v) b c d f e = absurd f
by_fit what.Search (apdus.InitResponse v) b c d f e = absurd f
by_fit what.Search (apdus.SearchRequest v) b c d f e = absurd f
by_fit what.Search (apdus.PresentRequest v) b c d f e = absurd f
by_fit what.Search (apdus.PresentResponse v) b c d f e = absurd f
by_fit what.Search (apdus.Close v) b c d f e = absurd f
by_fit (what.Present ranges) x b c d f e = absurd cc

by_fit_present : (w : What) (x : Apdu) (l : List ℕ) (a b c d : Bool) → IsFitReply w x → operation_for w ≡ plan.Present l
    → reply_by a b x ≡ reply_by c d x
by_fit_present what.Init x l a b c d f e = absurd cc
by_fit_present what.Search x l a b c d f e = absurd cc
by_fit_present (what.Present ranges) (apdus.PresentResponse v) l a b c d f e = refl
by_fit_present (what.Present ranges) (apdus.InitRequest v) l a b c d f e = absurd f
by_fit_present (what.Present ranges) (apdus.InitResponse v) l a b c d f e = absurd f
by_fit_present (what.Present ranges) (apdus.SearchRequest v) l a b c d f e = absurd f
by_fit_present (what.Present ranges) (apdus.SearchResponse v) l a b c d f e = absurd f
by_fit_present (what.Present ranges) (apdus.PresentRequest v) l a b c d f e = absurd f
by_fit_present (what.Present ranges) (apdus.Close v) l a b c d f e = absurd f

-- ---- the answer to Init

pub opens_for : (x : Answer) → operation_for x.asked.what ≡ plan.Init → is_opening x ≡ true
opens_for x e = by x.asked.what e
  where
    by : (w : What) → operation_for w ≡ plan.Init → is_init w ≡ true
    by what.Init f = refl
    by what.Search f = absurd cc
    by (what.Present ranges) f = absurd cc

pub for_opens : (x : Answer) → is_opening x ≡ true → operation_for x.asked.what ≡ plan.Init
for_opens x e = by x.asked.what e
  where
    by : (w : What) → is_init w ≡ true → operation_for w ≡ plan.Init
    by what.Init f = refl
    by what.Search f = absurd cc
    by (what.Present ranges) f = absurd cc

-- the first of them
pub find_there : (xs : List Answer) (x : Answer) → IsIn x xs → is_opening x ≡ true
    → (y : Answer) × (find is_opening xs ≡ Some y) × IsIn y xs × (is_opening y ≡ true)
find_there [] x i o = absurd i
find_there (z ∷ xs) x i o = by (λ j. find_there xs x j o) (is_opening z) refl
  where
    more : IsIn x (z ∷ xs) → is_opening z ≡ false → IsIn x xs
    more (inl e) is = absurd (let t : true ≡ false = sym o ∙ ap is_opening e ∙ is in cc)
    more (inr j) is = j

    by : (IsIn x xs → (y : Answer) × (find is_opening xs ≡ Some y) × IsIn y xs × (is_opening y ≡ true)) → (b : Bool) → is_opening z ≡ b
        → (y : Answer) × (find is_opening (z ∷ xs) ≡ Some y) × IsIn y (z ∷ xs) × (is_opening y ≡ true)
    by later true is = (z, ap (λ t. cond t (Some z) (find is_opening xs)) is, inl refl, is)
    by later false is =
        let r = later (more i is) in
        (r.0, ap (λ t. cond t (Some z) (find is_opening xs)) is ∙ r.1, inr r.2, r.3)

-- ---- one connection

module _ (ask : Ask) (wanted : List ℕ) (step : ℕ)
    (orderly : (s : Settings) (l : Log) → IsOrderly (past s l))
    (accepts : (s : Settings) (l : Log) (x : Answer) → Contains (past s l).accepted x → IsAccepted s l x) where
  -- if another operation than Init was answered, Init was
  opened_then : (settings : Settings) (log : Log) (a : Operation) (r : Reply)
      (c : CameFrom ask wanted step settings log a r) → (a ≡ plan.Init → ⊥)
      → (x : Answer) × (opening (past settings (Got c.reply ∷ c.earlier)) ≡ Some x)
      × IsIn x (past settings log).accepted × (operation_for x.asked.what ≡ plan.Init)
  opened_then settings log a r c other =
      let events = events_of ask settings c.earlier in
      let d = driven ask settings wanted step orderly c.earlier c.driven in
      let three : (t : Bool) × (replies_in events plan.Init ≡ Some (InitReply true t)) =
      elim (init_replied wanted step (replies_in events) a (sent_asked wanted step events d a c.sent)) [
        | inl e ↦ absurd (other e)
        | inr t ↦ t
      ] in
      let b = replied ask settings c.earlier plan.Init (InitReply true three.0) three.1 in
      let p = past settings c.earlier in
      let f = find_there (past settings (Got c.reply ∷ c.earlier)).accepted b.0
      (kept_reply p (verdict (standing p) c.reply) b.0 b.1) (opens_for b.0 b.2) in
      (f.0, f.1, c.within f.0 f.2, for_opens f.0 f.3)

  shows_then : (settings : Settings) (log : Log) (a : Operation) (r : Reply)
      (c : CameFrom ask wanted step settings log a r) (x : Answer)
      → opening (past settings (Got c.reply ∷ c.earlier)) ≡ Some x
      → can_present (past settings (Got c.reply ∷ c.earlier)) ≡ shows_after x.reply
  shows_then settings log a r c x is = ap (λ o. (force_after o).present) is

  fit : (settings : Settings) (log : Log) (x : Answer) → IsIn x (past settings log).accepted → IsFitReply x.asked.what x.reply
  fit settings log x i = (accepts settings log x (contained x (past settings log).accepted i)).fits

  -- ---- two connections

  module _ (one other : Settings) (this that : Log)
      (d : IsDrivenLog ask wanted step one this) (e : IsDrivenLog ask wanted step other that)
      (equal : (x y : Answer) → Contains (past one this).accepted x → Contains (past other that).accepted y
      → operation_for x.asked.what ≡ operation_for y.asked.what → plain x.reply ≡ plain y.reply) where
    same_at : (x y : Answer) → IsIn x (past one this).accepted → IsIn y (past other that).accepted
        → operation_for x.asked.what ≡ operation_for y.asked.what → plain x.reply ≡ plain y.reply
    same_at x y i j = equal x y (contained x (past one this).accepted i) (contained y (past other that).accepted j)

    agree_by : (a : Operation) (r s : Reply) (k : CameFrom ask wanted step one this a r)
        (l : CameFrom ask wanted step other that a s) → plain k.answer.reply ≡ plain l.answer.reply
        → reply_by (can_search ask (past one (Got k.reply ∷ k.earlier))) (can_present (past one (Got k.reply ∷ k.earlier))) k.answer.reply
        ≡ reply_by (can_search ask (past other (Got l.reply ∷ l.earlier))) (can_present (past other (Got l.reply ∷ l.earlier))) l.answer.reply
    agree_by plan.Init r s k l is =
        let o = at_opening ask wanted step one orderly this r k in
        let m = at_opening ask wanted step other orderly that s l in
        let p = past one k.earlier in
        let q = past other l.earlier in
        let can = ap (can_search ask) o ∙ search_same ask p.settings q.settings p.sent q.sent k.answer.reply l.answer.reply is
        ∙ ap (can_search ask) (sym m) in
        let show = ap can_present o ∙ shows_same k.answer.reply l.answer.reply is ∙ ap can_present (sym m) in
        by_same (can_search ask (past one (Got k.reply ∷ k.earlier))) (can_present (past one (Got k.reply ∷ k.earlier))) k.answer.reply l.answer.reply is
        ∙ ap (λ b. reply_by b (can_present (past one (Got k.reply ∷ k.earlier))) l.answer.reply) can
        ∙ ap (λ b. reply_by (can_search ask (past other (Got l.reply ∷ l.earlier))) b l.answer.reply) show
    agree_by plan.Search r s k l is =
        let o = opened_then one this plan.Search r k (λ z. cc) in
        let m = opened_then other that plan.Search s l (λ z. cc) in
        let first = same_at o.0 m.0 o.2 m.2 (o.3 ∙ sym m.3) in
        let show = shows_then one this plan.Search r k o.0 o.1 ∙ shows_same o.0.reply m.0.reply first
        ∙ sym (shows_then other that plan.Search s l m.0 m.1) in
        by_same (can_search ask (past one (Got k.reply ∷ k.earlier))) (can_present (past one (Got k.reply ∷ k.earlier))) k.answer.reply l.answer.reply is
        ∙ ap (λ b. reply_by (can_search ask (past one (Got k.reply ∷ k.earlier))) b l.answer.reply) show
        ∙ by_fit l.answer.asked.what l.answer.reply (can_search ask (past one (Got k.reply ∷ k.earlier)))
        (can_search ask (past other (Got l.reply ∷ l.earlier))) (can_present (past other (Got l.reply ∷ l.earlier)))
        (fit other that l.answer l.there) l.for
    agree_by (plan.Present ps) r s k l is =
        by_same (can_search ask (past one (Got k.reply ∷ k.earlier))) (can_present (past one (Got k.reply ∷ k.earlier))) k.answer.reply l.answer.reply is
        ∙ by_fit_present l.answer.asked.what l.answer.reply ps
        (can_search ask (past one (Got k.reply ∷ k.earlier))) (can_present (past one (Got k.reply ∷ k.earlier)))
        (can_search ask (past other (Got l.reply ∷ l.earlier))) (can_present (past other (Got l.reply ∷ l.earlier)))
        (fit other that l.answer l.there) l.for

    -- equal operations had replies that decide the same
    pub agree : AreCompatible (replies_in (events_of ask one this)) (replies_in (events_of ask other that))
    agree a r s f g =
        let k = came ask wanted step one orderly this d a r f in
        let l = came ask wanted step other orderly that e a s g in
        k.says ∙ by_reply ask (past one (Got k.reply ∷ k.earlier)) k.answer.reply
        ∙ agree_by a r s k l (same_at k.answer l.answer k.there l.there (k.for ∙ sym l.for))
        ∙ sym (by_reply ask (past other (Got l.reply ∷ l.earlier)) l.answer.reply) ∙ sym l.says
