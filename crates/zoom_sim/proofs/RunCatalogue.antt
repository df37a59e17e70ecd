-- What a run in memory makes known.
use Rattle.std.proofs.Common.{◌≡◌, ◌∙◌, ◌⊎◌, inl, inr, sym, ap, subst, ℕ, ◌<◌, ◌≤◌, true, false, Bool, List, [], ◌++◌, length, slice_get, Option, None, Some, refl, arith, true≢false}
use Rattle.std.specs.Prelude.{◌↔◌, Contains, nat_lt}
use Rattle.std.specs.List.{list_any}
use Rattle.std.proofs.lemmas.Bool.Decides.{nat_tests}
use Rattle.std.proofs.lemmas.Option.{slice_get_within}
use Rattle.zapdu.specs.declared.apdu.Apdu.{Apdu}
use Rattle.zapdu.specs.declared.apdu.Apdu.TheVariants as apdus
use Rattle.zapdu.specs.declared.productions.init_response.InitResponse.{InitResponse}
use Rattle.zber.specs.declared.text.Mode.{Mode}
use Rattle.zknow.specs.declared.fact.Fact.{Fact}
use Rattle.zknow.specs.Facts.{fact_target}
use Rattle.zknow.specs.FactLaws.{same_facts}
use Rattle.zknow.specs.List.Listing.{listing}
use Rattle.zorigin.specs.declared.answer.Answer.{Answer}
use Rattle.zorigin.specs.Log.{state_from, state_by, closing_state, opening, is_close_call, is_init_call}
use Rattle.ztarget.specs.Receiving.{TargetState}
use Rattle.zoom_questions.specs.declared.question.Question.{Question}
use Rattle.zoom_questions.specs.declared.question.MetaSettings.{MetaSettings}
use Rattle.zoom_pool.specs.declared.state.State.{State}
use Rattle.zoom_pool.specs.declared.state.State.TheVariants as states
use Rattle.zoom_pool.specs.States.{state_as, is_stopped, or_else}
use Rattle.zoom_pool.specs.Transcripts.{Transcript, empty_transcript, past_of, state_at}
use Rattle.zoom_pool.specs.History.{IsKnown, events_on, facts_at}
use Rattle.zoom_pool.specs.Hosts.{holdings_of}
use Rattle.zoom_pool.specs.Laws.{OneTranscript}
use Rattle.zoom_pool.specs.PoolSteps.{IsStateAt}
use Rattle.zoom_pool.specs.Metas.{MetaLinks, IsTranscriptValueUpTo, is_skipped, settings_of}
use Rattle.zoom_pool.proofs.Pools.{known_exactly}
use Rattle.zoom_pool.proofs.Metas.{transcript_at, slice_some}
use Rattle.zoom_laws.specs.Exchange.{ConversationLaw}
use Rattle.zoom_laws.specs.Catalogue.{catalogue, AreOwed, CanAsk, CatalogueLaws}
use Rattle.zoom_laws.specs.Lengths.{LengthLaws}
use Rattle.zoom_sim.specs.RunSound.{IsEndedEarly}
use Rattle.zoom_sim.specs.RunRounds.{IsCompleteExchange, IsCompleteRun}
use Rattle.zoom_sim.specs.RunCatalogue.{IsBrought, IsBroughtList, IsUnskipped, IsAnswerable, AreAnswerable, IsExactAnswer, IsExactRun, RunLaw}
use Rattle.zoom_sim.proofs.RunTargets.{facts_about}

none_in : {X : Type 0} (x : X) → Contains [] x → ⊥
none_in x h = omega (arith, h.1)

-- ---- a connection that is over, and that nothing stopped, is Closed

-- the state after this reply to Init
abbrev state_so : InitResponse → Bool → Bool → State
state_so v closing result =
    state_as (closing_state closing (state_by (apdus.InitResponse (record v { result = result }))))

answered_by : (v : InitResponse) (closing result : Bool) → is_stopped (state_so v closing result) ≡ true
    → state_so v closing result ≡ states.Closed
answered_by v closing false e = refl
answered_by v true true e = absurd (true≢false (sym e))
answered_by v false true e = absurd (true≢false (sym e))

closed_by : (closing : Bool) (reply : Apdu) → is_stopped (state_as (closing_state closing (state_by reply))) ≡ true
    → state_as (closing_state closing (state_by reply)) ≡ states.Closed
closed_by closing (apdus.InitResponse v) over = answered_by v closing v.result over
closed_by closing (apdus.InitRequest v) over = refl
closed_by closing (apdus.SearchRequest v) over = refl
closed_by closing (apdus.SearchResponse v) over = refl
closed_by closing (apdus.PresentRequest v) over = refl
closed_by closing (apdus.PresentResponse v) over = refl
closed_by closing (apdus.Close v) over = refl

closed_from : (closed closing begun : Bool) (o : Option Answer)
    → is_stopped (state_as (state_from None closed closing begun o)) ≡ true
    → state_as (state_from None closed closing begun o) ≡ states.Closed
closed_from true closing begun o over = refl
closed_from false closing true None over = absurd (true≢false (sym over))
closed_from false closing false None over = absurd (true≢false (sym over))
closed_from false closing begun (Some x) over = closed_by closing x.reply over

closed_at : (p : Transcript) → p.stop ≡ None → (past_of p).fault ≡ None → is_stopped (state_at p) ≡ true
    → state_at p ≡ states.Closed
closed_at p goes sound over =
    let past = past_of p in
    let same : state_at p ≡ state_as (state_from None past.closed (list_any is_close_call past.admitted)
    (list_any is_init_call past.admitted) (opening past)) =
    λ i. or_else (state_as (state_from (sound i) past.closed (list_any is_close_call past.admitted)
    (list_any is_init_call past.admitted) (opening past))) (goes i) in
    same ∙ closed_from past.closed (list_any is_close_call past.admitted) (list_any is_init_call past.admitted)
    (opening past) (subst (λ z. is_stopped z ≡ true) same over)

-- ---- a complete run

module _ (laws : CatalogueLaws) (lengths : LengthLaws) (conversation : ConversationLaw) (uniqueness : OneTranscript)
    (questions : List Question) (s : MetaSettings) (targets : List TargetState) (meta : MetaLinks)
    (r : IsCompleteRun questions s targets meta) where
  abbrev transcript : ℕ → Transcript
  transcript = r.run.after.pool.transcript

  known_at : (f : Fact) → Contains meta.pool.knowledge f ↔ IsKnown transcript f
  known_at f = known_exactly (settings_of s) r.run.history meta.pool r.run.after.pool f

  module _ (c : ℕ) (q : Question) (t : TargetState) (at : slice_get questions c ≡ Some q)
      (by : slice_get targets c ≡ Some t) (a : IsAnswerable c q t meta) where
    whole : IsCompleteExchange s t (events_on c r.run.history)
    whole = either (r.whole c t by)
      where
        either : IsCompleteExchange s t (events_on c r.run.history) ⊎ IsEndedEarly s t (events_on c r.run.history)
            → IsCompleteExchange s t (events_on c r.run.history)
        either (inl w) = w
        either (inr e) =
            let small = lengths.fitting q t.databases t.settings a.fits in
            absurd (lengths.short questions s r.run.history meta c q e.transcript t.databases t.settings r.run.after at
            e.agrees small a.short e.long.0 e.long.1 e.long.2)

    owed : AreOwed t.databases t.settings whole.transcript
    owed = (conversation (holdings_of t) (settings_of s) (events_on c r.run.history) whole.transcript whole.host_events
        whole.host whole.sound).owed

    skips : (is_skipped whole.transcript ≡ false) ↔ CanAsk q t.settings
    skips = laws.skipped questions s r.run.history meta c q whole.transcript t.databases t.settings r.run.after at
        whole.sound.transcript whole.complete owed

    able : CanAsk q t.settings
    able = either a.can
      where
        either : CanAsk q t.settings ⊎ IsUnskipped c meta → CanAsk q t.settings
        either (inl can) = can
        either (inr unskipped) =
            skips.0 (sym (unskipped questions s [] r.run.history whole.transcript r.run.after whole.sound.transcript))

    there : c < length meta.pool.connections
    there = subst (λ n. c < n) (sym r.run.after.size) (slice_get_within questions c q at)

    -- the facts that the connection knows
    answered : (f : Fact) → Contains (facts_at c (transcript c)) f ↔ Contains (catalogue c q t.databases t.settings) f
    answered =
        let here =
        transcript_at (settings_of s) r.run.history transcript meta.pool.connections c r.run.after.pool.stands there in
        let same : whole.transcript ≡ transcript c =
        uniqueness (settings_of s) (events_on c r.run.history) whole.transcript (transcript c) whole.sound.transcript here in
        let all = laws.answers questions s r.run.history meta c q whole.transcript t.databases t.settings r.run.after at
        whole.sound.transcript whole.complete owed able a.fits in
        subst (λ p. (f : Fact) → Contains (facts_at c p) f ↔ Contains (catalogue c q t.databases t.settings) f) same all

    closed : (state : State) → IsStateAt c meta.pool state → state ≡ states.Closed
    closed state is =
        let now =
        transcript_at (settings_of s) r.run.history transcript meta.pool.connections c r.run.after.pool.stands there in
        let same : transcript c ≡ whole.transcript =
        uniqueness (settings_of s) (events_on c r.run.history) (transcript c) whole.transcript now
        whole.sound.transcript in
        is (settings_of s) [] r.run.history r.run.after.pool ∙ ap state_at same
        ∙ closed_at whole.transcript whole.sound.goes whole.sound.sound whole.over

    asked : (skipped : Bool) → IsTranscriptValueUpTo c meta is_skipped skipped → skipped ≡ false
    asked skipped is =
        is questions s [] r.run.history whole.transcript r.run.after whole.sound.transcript ∙ skips.1 able

    -- what is known of a target was learned on its connection
    own : (f : Fact) → fact_target f ≡ c → Contains meta.pool.knowledge f → Contains (facts_at c (transcript c)) f
    own f about h =
        let k = (known_at f).0 h in
        subst (λ n. Contains (facts_at n (transcript n)) f) (sym (facts_about k.0 (transcript k.0) f k.1) ∙ about) k.1

    exact_answer : IsExactAnswer c q t meta
    exact_answer = record {
      known = λ f about. (
        λ h. (answered f).0 (own f about h),
        λ i. (known_at f).1 (c, (answered f).1 i),
      );
      closed = closed;
      asked = asked;
    }

  -- nothing is known of a connection that does not exist
  within : (c : ℕ) (f : Fact) → Contains (facts_at c (transcript c)) f → c < length questions
  within c f h = by (nat_lt c (length questions)) refl
    where
      by : (b : Bool) → nat_lt c (length questions) ≡ b → c < length questions
      by true e = grind (arith, nat_tests)
      by false e =
          let past : length questions ≤ c = grind (arith, nat_tests) in
          let none : transcript c ≡ empty_transcript (settings_of s) =
          (r.run.after.pool.stands.others c (subst (λ n. n ≤ c) (sym r.run.after.size) past)).1 in
          absurd (none_in f (subst (λ p. Contains (facts_at c p) f) none h))

  module _ (equal : length targets ≡ length questions) (a : AreAnswerable questions targets meta) where
    -- the question and the target of a connection
    at_both : (c : ℕ) → c < length questions → (q : Question) × (t : TargetState) × (slice_get questions c ≡ Some q)
        × (slice_get targets c ≡ Some t)
    at_both c lt =
        let q = slice_some questions c lt in
        let t = slice_some targets c (subst (λ n. c < n) (sym equal) lt) in (q.0, t.0, q.1, t.1)

    brought : (f : Fact) → Contains meta.pool.knowledge f → IsBrought questions targets f
    brought f h =
        let k = (known_at f).0 h in
        let b = at_both k.0 (within k.0 f k.1) in
        (k.0, b.0, b.1, b.2, b.3, (answered k.0 b.0 b.1 b.2 b.3 (a k.0 b.0 b.1 b.2 b.3) f).0 k.1)

    known : (f : Fact) → IsBrought questions targets f → Contains meta.pool.knowledge f
    known f b =
        (known_at f).1 (b.0, (answered b.0 b.1 b.2 b.3 b.4 (a b.0 b.1 b.2 b.3 b.4) f).1 b.5)

    exact_run : IsExactRun questions targets meta
    exact_run = record {
      known = λ f. (brought f, known f);
      lawful = r.run.after.pool.lawful;
      closed = λ c state lt is.
          let b = at_both c lt in closed c b.0 b.1 b.2 b.3 (a c b.0 b.1 b.2 b.3) state is;
      asked = λ c skipped lt is.
          let b = at_both c lt in asked c b.0 b.1 b.2 b.3 (a c b.0 b.1 b.2 b.3) skipped is;
    }

pub run_law : CatalogueLaws → LengthLaws → ConversationLaw → OneTranscript → RunLaw
run_law laws lengths conversation uniqueness questions s targets meta r equal = record {
  each = λ c q t at by a. exact_answer laws lengths conversation uniqueness questions s targets meta r c q t at by a;
  all = λ a. exact_run laws lengths conversation uniqueness questions s targets meta r equal a;
}

-- what is known is printed
pub printed : (questions : List Question) (targets : List TargetState) (meta : MetaLinks) (names : List (List ℕ))
    (mode : Mode) (before behind : List ℕ) → IsExactRun questions targets meta
    → behind ≡ before ++ listing names mode meta.pool.knowledge
    → IsBroughtList questions targets names mode before behind
printed questions targets meta names mode before behind run list facts lawful are =
    let same = same_facts meta.pool.knowledge facts run.lawful lawful
    (λ f. (λ h. (are f).1 ((run.known f).0 h), λ h. (run.known f).1 ((are f).0 h))) in
    list ∙ ap (λ z. before ++ listing names mode z) same
