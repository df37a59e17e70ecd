-- Two runs with equal replies know the same.
use Rattle.std.proofs.Common.{◌≡◌, ◌⊎◌, inl, inr, ℕ, zero, suc, ◌<◌, ◌≤◌, true, false, List, [], ◌∷◌, length, slice_get, Some, refl, sym, ap, subst, arith}
use Rattle.std.specs.Prelude.{Contains, nat_lt}
use Rattle.std.proofs.lemmas.Bool.Decides.{nat_tests}
use Rattle.zknow.specs.declared.fact.Fact.{Fact}
use Rattle.zknow.specs.FactLaws.{same_facts}
use Rattle.zknow.specs.List.Listing.{listing}
use Rattle.zknow.specs.Tables.DistinctLaws.{none_in_nil}
use Rattle.zplan.specs.Positions.{IsIn}
use Rattle.zplan.proofs.Order.{order_free, answered_sent, sent_asked}
use Rattle.zorigin.specs.declared.settings.Settings.{Settings}
use Rattle.zorigin.specs.declared.answer.Answer.{Answer}
use Rattle.zplan.specs.Ranges.{positions}
use Rattle.zorigin.specs.Accepts.{IsAccepted}
use Rattle.zorigin.specs.Log.{Log, past, asked}
use Rattle.zorigin.specs.Laws.{IsOrderly}
use Rattle.zoom_questions.specs.declared.question.Question.{Question}
use Rattle.zoom_questions.specs.declared.question.MetaSettings.{MetaSettings}
use Rattle.zoom_pool.specs.Driving.{operation_for, events_of, IsDrivenLog}
use Rattle.zoom_pool.specs.Steering.{ask_of, errand_of}
use Rattle.zoom_pool.specs.Drivers.{DriverState, IsDriver}
use Rattle.zoom_pool.specs.Transcripts.{Transcript, IsTranscript}
use Rattle.zoom_pool.specs.History.{History, events_on, accepted, facts_at}
use Rattle.zoom_pool.specs.Metas.{MetaLinks, MetaAfter, settings_of}
use Rattle.zorigin.proofs.Members.{among, contained}
use Rattle.zoom_pool.proofs.Drivings.{replied, driven}
use Rattle.zoom_pool.proofs.Pools.{known_exactly}
use Rattle.zoom_pool.proofs.Metas.{transcript_at}
use Rattle.zoom_pool.proofs.MetaLaws.{driver_of}
use Rattle.zoom_pool.proofs.Orders.{from_answer, of_answer}
use Rattle.zoom_laws.specs.Schedules.{IsCompleteTranscript, HasExactAnswers, AskedLaw, HaveEqualReplies, AreAnsweredAlike, SameListLaw}
use Rattle.zoom_laws.proofs.ScheduleTheory.Answered.{is_replied, complete_by, complete_whole}
use Rattle.zoom_laws.proofs.ScheduleTheory.Sets.{set_for, of_set, same_answer}
use Rattle.zoom_laws.proofs.ScheduleTheory.Same.{agree}

question_at : (qs : List Question) (c : ℕ) → c < length qs → (q : Question) × (slice_get qs c ≡ Some q)
question_at [] c lt = absurd (omega arith)
question_at (q ∷ qs) zero lt = (q, refl)
question_at (q ∷ qs) (suc c) lt = question_at qs c (omega arith)

knows : (questions : List Question) (s : MetaSettings) (h : History) (meta : MetaLinks) (c : ℕ) (q : Question) (p : Transcript)
    → MetaAfter questions s h meta → slice_get questions c ≡ Some q → IsTranscript (settings_of s) (events_on c h) p
    → (d : DriverState) × IsDriver (errand_of s q) p.settings p.log d
knows questions s h meta c q p a at transcript =
    let d = driver_of questions meta.drivers c q a.driven.size at in
    (d.0, a.driven.each c q d.0 p at d.1 transcript)

module _ (orderly : (s : Settings) (l : Log) → IsOrderly (past s l))
    (accepts : (s : Settings) (l : Log) (x : Answer) → Contains (past s l).accepted x → IsAccepted s l x) where
  -- ---- exactly what is asked was answered

  answered_at : (q : Question) (s : MetaSettings) (p : Transcript) (d : DriverState)
      → IsDriver (errand_of s q) p.settings p.log d → IsCompleteTranscript p → HasExactAnswers q s.step p
  answered_at q s p d k e =
      let events = events_of (ask_of q) p.settings p.log in
      let plan = driven (ask_of q) p.settings (positions q.wanted) s.step orderly p.log k.driven in
      record {
        no_others = λ x i.
            let r = is_replied (ask_of q) p.settings p.log x (among x (accepted p) i) in
            sent_asked (positions q.wanted) s.step events plan (operation_for x.asked.what)
            (answered_sent (positions q.wanted) s.step events plan (operation_for x.asked.what) r.0 r.1);
        all = λ a i.
            let r = complete_whole (ask_of q) (positions q.wanted) s.step p.settings orderly p.log k.driven e a i in
            let b = replied (ask_of q) p.settings p.log a r.0 r.1 in
            (b.0, contained b.0 (accepted p) b.1, b.2);
      }

  pub asked_law : AskedLaw
  asked_law questions s h meta c q p a at transcript e =
      let k = knows questions s h meta c q p a at transcript in
      answered_at q s p k.0 k.1 e

  -- ---- the same is known

  set_right : (q : Question) (s : MetaSettings) (p : Transcript) (d : DriverState) → IsDriver (errand_of s q) p.settings p.log d
      → (x : Answer) → IsIn x (accepted p) → x.asked.set ≡ set_for x.asked.what
  set_right q s p d k x i =
      of_set (errand_of s q) p.settings p.log k.steered x.asked
      (among x.asked (asked (past p.settings p.log)) ((orderly p.settings p.log).known x (contained x (accepted p) i)))

  -- each fact of an answer of the one is a fact of an answer of the other
  module _ (q : Question) (s t : MetaSettings) (one other : Transcript) (d e : DriverState)
      (k : IsDriver (errand_of s q) one.settings one.log d) (l : IsDriver (errand_of t q) other.settings other.log e)
      (step : s.step ≡ t.step) (this : IsCompleteTranscript one) (that : IsCompleteTranscript other) (equal : HaveEqualReplies one other) where
    answers_too : AreAnsweredAlike one other
    answers_too x i =
        let ask = ask_of q in
        let wanted = positions q.wanted in
        let mine = events_of ask one.settings one.log in
        let theirs = events_of ask other.settings other.log in
        let l_driven = subst (λ n. IsDrivenLog ask wanted n other.settings other.log) (sym step) l.driven in
        let one_done = complete_by ask wanted s.step one.settings orderly one.log k.driven this in
        let other_done = complete_by ask wanted s.step other.settings orderly other.log l_driven that in
        let r = is_replied ask one.settings one.log x (among x (accepted one) i) in
        let there = order_free wanted s.step mine theirs one_done other_done
        (agree ask wanted s.step orderly accepts one.settings other.settings one.log other.log k.driven l_driven equal)
        (operation_for x.asked.what) r.0 r.1 in
        let y = replied ask other.settings other.log (operation_for x.asked.what) r.0 there in
        let y_in = contained y.0 (accepted other) y.1 in
        (y.0, y_in, sym y.2, equal x y.0 i y_in (sym y.2))

    says_too : (c : ℕ) (f : Fact) → Contains (facts_at c one) f → Contains (facts_at c other) f
    says_too c f i =
        let x = from_answer c (accepted one) f i in
        let y = answers_too x.0 x.1 in
        let same = same_answer c x.0 y.0 (set_right q s one d k x.0 (among x.0 (accepted one) x.1))
        (set_right q t other e l y.0 (among y.0 (accepted other) y.1)) y.2 y.3 in
        of_answer c (accepted other) y.0 f y.1 (subst (λ z. Contains z f) same x.2)

  reversed : (one other : Transcript) → HaveEqualReplies one other → HaveEqualReplies other one
  reversed one other equal x y i j op = sym (equal y x j i (sym op))

  module _ (questions : List Question) (s t : MetaSettings) (g h : History) (one other : MetaLinks)
      (a : MetaAfter questions s g one) (b : MetaAfter questions t h other) where
    -- of each connection
    both_at : s.step ≡ t.step → ((c : ℕ) → c < length questions → IsCompleteTranscript (a.pool.transcript c))
        → ((c : ℕ) → c < length questions → IsCompleteTranscript (b.pool.transcript c))
        → ((c : ℕ) → HaveEqualReplies (a.pool.transcript c) (b.pool.transcript c))
        → (c : ℕ) → AreAnsweredAlike (a.pool.transcript c) (b.pool.transcript c)
        × ((f : Fact) → Contains (facts_at c (a.pool.transcript c)) f → Contains (facts_at c (b.pool.transcript c)) f)
    both_at step first second equal c = by (below c (length questions))
      where
        below : (c n : ℕ) → (c < n) ⊎ (n ≤ c)
        below c n = elim (nat_lt c n) as (λ w. nat_lt c n ≡ w → (c < n) ⊎ (n ≤ c)) [
          | true ↦ λ e. inl (grind (arith, nat_tests))
          | false ↦ λ e. inr (grind (arith, nat_tests))
        ] refl

        by : (c < length questions) ⊎ (length questions ≤ c) → AreAnsweredAlike (a.pool.transcript c) (b.pool.transcript c)
            × ((f : Fact) → Contains (facts_at c (a.pool.transcript c)) f → Contains (facts_at c (b.pool.transcript c)) f)
        by (inl lt) =
            let q = question_at questions c lt in
            let mine = transcript_at (settings_of s) g a.pool.transcript one.pool.connections c a.pool.stands
            (subst (λ n. c < n) (sym a.size) lt) in
            let theirs = transcript_at (settings_of t) h b.pool.transcript other.pool.connections c b.pool.stands
            (subst (λ n. c < n) (sym b.size) lt) in
            let k = knows questions s g one c q.0 (a.pool.transcript c) a q.1 mine in
            let l = knows questions t h other c q.0 (b.pool.transcript c) b q.1 theirs in (
              answers_too q.0 s t (a.pool.transcript c) (b.pool.transcript c) k.0 l.0 k.1 l.1 step (first c lt) (second c lt) (equal c),
              says_too q.0 s t (a.pool.transcript c) (b.pool.transcript c) k.0 l.0 k.1 l.1 step (first c lt) (second c lt) (equal c) c,
            )
        by (inr le) =
            let silent = (a.pool.stands.others c (subst (λ n. n ≤ c) (sym a.size) le)).1 in (
              λ x i. absurd (none_in_nil x (subst (λ p. Contains (accepted p) x) silent i)),
              λ f i. absurd (none_in_nil f (subst (λ p. Contains (facts_at c p) f) silent i)),
            )

  pub same_law : SameListLaw
  same_law questions s t g h one other a b alike =
      let turn = λ (c : ℕ). reversed (a.pool.transcript c) (b.pool.transcript c) (alike.equal c) in
      let there = both_at questions s t g h one other a b alike.step alike.first alike.second alike.equal in
      let back = both_at questions t s h g other one b a (sym alike.step) alike.second alike.first turn in
      let ours = known_exactly (settings_of s) g one.pool a.pool in
      let theirs = known_exactly (settings_of t) h other.pool b.pool in
      let known : one.pool.knowledge ≡ other.pool.knowledge =
      same_facts one.pool.knowledge other.pool.knowledge a.pool.lawful b.pool.lawful (λ f. (
        λ i. let k = (ours f).0 i in (theirs f).1 (k.0, (there k.0).1 f k.1),
        λ i. let k = (theirs f).0 i in (ours f).1 (k.0, (back k.0).1 f k.1),
      )) in
      (λ c. (there c).0, λ c. (back c).0, record { known = known; printed = λ names mode. ap (listing names mode) known })
