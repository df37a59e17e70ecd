-- Two askings that are after the same history: the same is known.
use Rattle.std.proofs.Common.{◌≡◌, refl, sym, ◌∙◌, ap, subst, ℕ, ◌<◌, ◌≤◌, arith, Bool, true, false, List, [], length, slice_get, Some, Contains}
use Rattle.std.proofs.lemmas.Bool.{ltb-true, ltb-false}
use Rattle.std.proofs.Math.Dec.{ltb}
use Rattle.std.proofs.lemmas.Option.{slice_get_within}
use Rattle.zorigin.specs.declared.answer.Answer.{Answer}
use Rattle.zorigin.specs.declared.settings.Settings.{Settings}
use Rattle.zoom_pool.specs.declared.state.State.{State}
use Rattle.zoom_pool.specs.Transcripts.{Transcript, IsTranscript, past_of, state_at}
use Rattle.zoom_pool.specs.History.{accepted, events_on}
use Rattle.zoom_pool.specs.Laws.{AreAmong}
use Rattle.zoom_pool.specs.Metas.{MetaLinks, settings_of}
use Rattle.zoom_pool.specs.PoolSteps.{IsStateAt}
use Rattle.zoom_pool.specs.Steering.{errand_of}
use Rattle.zoom_pool.proofs.Metas.{transcript_at}
use Rattle.zoom_pool.proofs.Orders.{order_free}
use Rattle.zoom_clock.proofs.Places.{some_at}
use Rattle.zoom_clock.specs.Courses.{is_settled}
use Rattle.zoom_asking.specs.declared.asking.Asking.{Asking}
use Rattle.zoom_asking.specs.Inquiries.{Inquiry, Entry}
use Rattle.zoom_asking.specs.Hosts.{AskedConnection}
use Rattle.zoom_asking.specs.Askings.{AskingAfter, AreOver}
use Rattle.zoom_asking.specs.Asked.{IsAskedBy}
use Rattle.zoom_asking.specs.Laws.{AskedOn, SameHost}
use Rattle.zoom_asking.proofs.Alike.{same_state}
use Rattle.zoom_trace.specs.declared.entry.TraceEntry.{TraceEntry}
use Rattle.zoom_trace.specs.Laws.{SameLaw}
use Rattle.zoom_trace.specs.Replays.{history_after}
use Rattle.zmeta_trace.specs.declared.replaying.Replayed.{Replayed}
use Rattle.zmeta_trace.specs.Known.{IsSameKnown, KnownLaw}
use Rattle.zmeta_trace.specs.Replays.{IsReplayed}

-- a question and a host, or none, for connection c
on : (i : Inquiry) → length i.hosts ≡ length i.questions → (c : ℕ) → c < length i.questions → AskedOn i c
on i equal c lt =
    let question = some_at i.questions c lt in
    let host = some_at i.hosts c (omega (arith, lt, equal)) in
    record { question = question.0; host = host.0; has_question = question.1; has_host = host.1 }

-- the same of two connections
record IsSamePast (p q : Transcript) : Type 0 where
  pub past : past_of p ≡ past_of q
  pub state : state_at p ≡ state_at q

among : (p q : Transcript) → accepted p ≡ accepted q → AreAmong (accepted p) (accepted q)
among p q same x has = (x, subst (λ (l : List Answer). Contains l x) same has, refl)

module _ (same : SameLaw) (i : Inquiry) (equal : length i.hosts ≡ length i.questions) (history : List Entry)
    (one other : Asking) (a : AskingAfter i history one) (b : AskingAfter i history other) where
  abbrev s : Settings
  s = settings_of i.settings

  first_of : (c : ℕ) → c < length i.questions → (x : AskedConnection) × (slice_get a.hosts c ≡ Some x)
  first_of c lt = some_at a.hosts c (omega (arith, lt, a.holds.size))

  second_of : (c : ℕ) → c < length i.questions → (x : AskedConnection) × (slice_get b.hosts c ≡ Some x)
  second_of c lt = some_at b.hosts c (omega (arith, lt, b.holds.size))

  host_of : (c : ℕ) (lt : c < length i.questions)
      → SameHost i.settings (on i equal c lt).question (first_of c lt).0 (second_of c lt).0
  host_of c lt =
      let x = first_of c lt in
      let y = second_of c lt in
      same i history one other c (on i equal c lt) x.0 y.0 a b x.1 y.1

  within : (c : ℕ) → c < length i.questions
      → IsSamePast (a.holds.meta.pool.transcript c) (b.holds.meta.pool.transcript c)
  within c lt =
      let x = first_of c lt in
      let y = second_of c lt in
      let p = a.holds.meta.pool.transcript c in
      let q = b.holds.meta.pool.transcript c in
      let is_p = transcript_at s a.holds.pool a.holds.meta.pool.transcript one.meta.pool.connections c
      a.holds.meta.pool.stands (omega (arith, lt, a.holds.meta.size)) in
      let is_q = transcript_at s b.holds.pool b.holds.meta.pool.transcript other.meta.pool.connections c
      b.holds.meta.pool.stands (omega (arith, lt, b.holds.meta.size)) in
      let alike = (host_of c lt).events p q
      (subst (λ es. IsTranscript s es p) (a.holds.events c x.0 x.1) is_p)
      (subst (λ es. IsTranscript s es q) (b.holds.events c y.0 y.1) is_q) in
      record {
        past = alike.past;
        state = same_state (errand_of i.settings (on i equal c lt).question) p q alike;
      }

  beyond : (c : ℕ) → length i.questions ≤ c
      → IsSamePast (a.holds.meta.pool.transcript c) (b.holds.meta.pool.transcript c)
  beyond c le =
      let first = (a.holds.meta.pool.stands.others c (omega (arith, le, a.holds.meta.size))).1 in
      let second = (b.holds.meta.pool.stands.others c (omega (arith, le, b.holds.meta.size))).1 in
      let is = first ∙ sym second in
      record { past = ap past_of is; state = ap state_at is }

  each : (c : ℕ) → IsSamePast (a.holds.meta.pool.transcript c) (b.holds.meta.pool.transcript c)
  each c = by (ltb c (length i.questions)) refl
    where
      by : (below : Bool) → ltb c (length i.questions) ≡ below
          → IsSamePast (a.holds.meta.pool.transcript c) (b.holds.meta.pool.transcript c)
      by true is = within c (ltb-true c (length i.questions) is)
      by false is = beyond c (ltb-false c (length i.questions) is)

  pub same_known : IsSameKnown one.meta other.meta
  same_known = record {
    size = a.holds.meta.size ∙ sym b.holds.meta.size;
    facts = (order_free s s a.holds.pool b.holds.pool one.meta.pool other.meta.pool a.holds.meta.pool
        b.holds.meta.pool (λ c.
        let p = a.holds.meta.pool.transcript c in
        let q = b.holds.meta.pool.transcript c in
        let is : accepted p ≡ accepted q = ap (λ past. past.accepted) (each c).past in
        (among p q is, among q p (sym is)))).known;
    states = λ c x y is_x is_y.
        is_x s [] a.holds.pool a.holds.meta.pool ∙ (each c).state
        ∙ sym (is_y s [] b.holds.pool b.holds.meta.pool);
  }

  over_by : (over : Bool) → AreOver true a.hosts → AreOver over b.hosts → over ≡ true
  over_by true x y = refl
  over_by false x y =
      let c = y.0 in
      let lt : c < length i.questions = omega (arith, slice_get_within b.hosts c y.1 y.2, b.holds.size) in
      let first = first_of c lt in
      let course = (same i history one other c (on i equal c lt) first.0 y.1 a b first.1 y.2).course in
      let settled : is_settled y.1.course.stage ≡ true =
      ap (λ course. is_settled course.stage) (sym course) ∙ x c first.0 first.1 in
      sym y.3 ∙ settled

-- what was replayed, after a history
record HasReplayed (i : Inquiry) (history : List Entry) (r : Replayed) : Type 0 where
  pub asking : Asking
  pub after : AskingAfter i history asking
  pub known : r.meta ≡ asking.meta
  pub over : AreOver r.is_over after.hosts

-- what was asked, and what was replayed
pub known : SameLaw → KnownLaw
known same i told es meta r equal history asked replayed =
    let first : HasReplayed i (history_after es []) r =
    record { asking = replayed.asking; after = replayed.after; known = replayed.known; over = replayed.over } in
    let b : HasReplayed i (history_after told []) r = subst (λ (h : List Entry). HasReplayed i h r) history first in
    let is = same_known same i equal (history_after told []) asked.asking b.asking asked.after b.after in (
      subst (λ (m : MetaLinks). IsSameKnown m r.meta) (sym asked.known)
          (subst (IsSameKnown asked.asking.meta) (sym b.known) is),
      over_by same i equal (history_after told []) asked.asking b.asking asked.after b.after r.is_over asked.over
          b.over,
    )
