-- A report was entered into the history.
use Rattle.std.proofs.Common.{◌≡◌, ◌⊎◌, inl, inr, ℕ, ◌<◌, max, cond, List, ◌++◌, length, Some, None, sym, ap, subst, ◌∙◌, arith, append_assoc}
use Rattle.std.specs.Prelude.{slice_get, slice_set}
use Rattle.std.proofs.lemmas.Bool.Decides.{eqb_tells}
use Rattle.zoom_questions.specs.declared.question.Question.{Question}
use Rattle.zoom_clock.proofs.Places.{get_set, length_set, some_at}
use Rattle.zoom_clock.specs.declared.action.Action.{Action}
use Rattle.zoom_clock.specs.Clocks.{IsOrderly}
use Rattle.zoom_asking.specs.declared.asking.Asking.{Asking}
use Rattle.zoom_asking.specs.Buffers.{octets_in}
use Rattle.zoom_asking.specs.Inquiries.{Inquiry, Told, Reported, event_from, own_event, passed_in}
use Rattle.zoom_asking.specs.Hosts.{AskedConnection, IsTold}
use Rattle.zoom_asking.specs.Askings.{Holds, IsToldIf, AreTold, IsEntered, KeepsHistories, HasTurned, after_turns, tasks_for}
use Rattle.zoom_pool.specs.Metas.{MetaAfter}

-- one connection was told something at a time
abbrev pub IsOne : ℕ → ℕ → Told → Asking → Asking → Type 0
IsOne c at told old new =
    (i : Inquiry) (hosts : List AskedConnection) (h : AskedConnection) (question : Question) → Holds i hosts old
    → slice_get hosts c ≡ Some h → slice_get i.questions c ≡ Some question
    → (g : AskedConnection) × IsTold i.settings question at told h g × Holds i (slice_set hosts c g) new

-- each connection has a host and a question
pub host_at : (i : Inquiry) (hosts : List AskedConnection) (a : Asking) (c : ℕ) → Holds i hosts a
    → c < length a.meta.pool.connections → (h : AskedConnection) × (slice_get hosts c ≡ Some h)
host_at i hosts a c o lt =
    let few : c < length hosts = let s = o.size in let m = o.meta.size in omega arith in some_at hosts c few

pub question_at : (i : Inquiry) (hosts : List AskedConnection) (a : Asking) (c : ℕ) → Holds i hosts a
    → c < length a.meta.pool.connections → (q : Question) × (slice_get i.questions c ≡ Some q)
question_at i hosts a c o lt =
    let few : c < length i.questions = let m = o.meta.size in omega arith in some_at i.questions c few

-- ---- one connection was told what the entry says

told_here : (c d passed now : ℕ) (told : Told) → c ≡ d
    → own_event d passed (Reported now c told) ≡ Some (event_from passed now told)
told_here c d passed now told e =
    elim (eqb_tells c d)
    [ inl t ↦ ap (λ b. cond b (Some (event_from passed now told)) None) t.0 | inr f ↦ absurd (f.1 e) ]

told_elsewhere : (c d passed now : ℕ) (told : Told) → (c ≡ d → ⊥) → own_event d passed (Reported now c told) ≡ None
told_elsewhere c d passed now told n =
    elim (eqb_tells c d)
    [ inl t ↦ absurd (n t.1) | inr f ↦ ap (λ b. cond b (Some (event_from passed now told)) None) f.0 ]

one_told : (i : Inquiry) (passed now c : ℕ) (told : Told) (hosts : List AskedConnection) (h g : AskedConnection)
    (question : Question)
    → slice_get hosts c ≡ Some h → slice_get i.questions c ≡ Some question
    → IsTold i.settings question (max passed now) told h g
    → AreTold i passed (Reported now c told) hosts (slice_set hosts c g)
one_told i passed now c told hosts h g question at asked is = record {
  size = length_set hosts c g;
  each = λ d q x y askq atx aty. by d q x y askq atx (get_set hosts c d g y aty);
}
  where
    by : (d : ℕ) (q : Question) (x y : AskedConnection) → slice_get i.questions d ≡ Some q → slice_get hosts d ≡ Some x
        → ((d ≡ c) × (g ≡ y)) ⊎ ((d ≡ c → ⊥) × (slice_get hosts d ≡ Some y))
        → IsToldIf i q (own_event d passed (Reported now c told)) x y
    by d q x y askq atx (inl s) =
        let atc : slice_get hosts c ≡ Some x = subst (λ n. slice_get hosts n ≡ Some x) s.0 atx in
        let askc : slice_get i.questions c ≡ Some q = subst (λ n. slice_get i.questions n ≡ Some q) s.0 askq in
        let hx : h ≡ x = cc in
        let qq : question ≡ q = cc in
        subst (λ o. IsToldIf i q o x y) (sym (told_here c d passed now told (sym s.0)))
        (subst (λ z. IsTold i.settings q (max passed now) told x z) s.1
        (subst (λ z. IsTold i.settings q (max passed now) told z g) hx
        (subst (λ z. IsTold i.settings z (max passed now) told h g) qq is)))
    by d q x y askq atx (inr n) =
        let same : y ≡ x = cc in
        subst (λ o. IsToldIf i q o x y) (sym (told_elsewhere c d passed now told (λ e. n.0 (sym e)))) same

pub one_entered : (c now at : ℕ) (told : Told) (old mid new : Asking) → at ≡ max old.clock.passed now
    → c < length old.meta.pool.connections → IsOne c at told old mid → HasTurned at mid new
    → new.clock.passed ≡ old.clock.passed → IsEntered (Reported now c told) old new
one_entered c now at told old mid new is lt one turned passed i history a =
    let h = host_at i a.hosts old c a.holds lt in
    let q = question_at i a.hosts old c a.holds lt in
    let s = one i a.hosts h.0 q.0 a.holds h.1 q.1 in
    let time : at ≡ max (passed_in i.start history) now = is ∙ ap (λ n. max n now) a.passed in
    record {
      hosts = after_turns i.manner at (slice_set a.hosts c s.0);
      after = (
        a.hosts,
        slice_set a.hosts c s.0,
        a.after,
        one_told i (passed_in i.start history) now c told a.hosts h.0 s.0 q.0 h.1 q.1
            (subst (λ t. IsTold i.settings q.0 t told h.0 s.0) time s.1),
        ap (λ t. after_turns i.manner t (slice_set a.hosts c s.0)) time,
      );
      holds = turned i (slice_set a.hosts c s.0) s.2;
      passed = passed ∙ a.passed;
    }

-- ---- what a caller takes

-- tasks are handed out
pub popped : (old new : Asking) (x : List Action) → new.meta ≡ old.meta → new.unsent ≡ old.unsent
    → new.clock.courses ≡ old.clock.courses → new.clock.passed ≡ old.clock.passed
    → new.clock.in_order ≡ old.clock.in_order → (IsOrderly old.clock → IsOrderly new.clock)
    → old.clock.queue.items ≡ x ++ new.clock.queue.items → KeepsHistories old new
popped old new x meta unsent courses passed in_order orderly queue i history a =
    let o = a.holds in
    record {
      hosts = a.hosts;
      after = a.after;
      holds = record {
        size = o.size;
        courses = ap (λ k. k.items) courses ∙ o.courses;
        pool = o.pool;
        meta = subst (λ m. MetaAfter i.questions i.settings o.pool m) (sym meta) o.meta;
        events = o.events;
        unsent = λ c h get.
            let u = o.unsent c h get in (u.0, u.1 ∙ ap (λ b. u.0 ++ octets_in (slice_get b.items c)) (sym unsent));
        done = o.done ++ x;
        queue = λ c h get.
            ap (tasks_for c) (append_assoc o.done x new.clock.queue.items ∙ ap (λ l. o.done ++ l) (sym queue))
            ∙ o.queue c h get;
        orderly = orderly o.orderly;
        in_order = in_order ∙ o.in_order;
      };
      passed = passed ∙ a.passed;
    }
