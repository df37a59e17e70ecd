-- Worlds over a channel that loses nothing, round after round.
use Rattle.std.proofs.Common.{◌≡◌, ◌∙◌, ◌⊎◌, inl, inr, sym, ap, subst, ℕ, suc, ◌+◌, ◌<◌, ◌≤◌, ◌==◌, Bool, true, false, List, [], ◌++◌, length, get_or, slice_get, slice_set, Some, refl, arith, true≢false}
use Rattle.std.specs.Prelude.{nat_lt, ◌||◌, if◌then◌else◌}
use Rattle.std.proofs.lemmas.Bool.Decides.{nat_tests}
use Rattle.std.proofs.lemmas.Option.{slice_get_within}
use Rattle.std.proofs.Math.ListN.{length-set}
use Rattle.ztarget.specs.Receiving.{TargetState}
use Rattle.zoom_questions.specs.declared.question.Question.{Question}
use Rattle.zoom_questions.specs.declared.question.MetaSettings.{MetaSettings}
use Rattle.zoom_pool.specs.Transcripts.{Event, Transcript, past_of, sent}
use Rattle.zoom_pool.specs.History.{History, events_on}
use Rattle.zoom_pool.specs.Laws.{OneTranscript}
use Rattle.zoom_pool.specs.Metas.{MetaLinks, MetaAfter, settings_of}
use Rattle.zoom_pool.proofs.Pools.{only_append, got, get_same, get_other}
use Rattle.zoom_pool.proofs.Metas.{slice_some}
use Rattle.zoom_sim.specs.declared.peers.Peer.{Peer}
use Rattle.zoom_sim.specs.Run.{is_over}
use Rattle.zoom_sim.specs.RunSound.{at_connection, IsLostPeer, SoundStep, LostStep, EndedStep, PeerStep, SoundRound, PeerRound, AreStarted}
use Rattle.zoom_sim.specs.RunRounds.{IsAdvancedTo, IsSoundWorld, AfterSoundMoves, AfterSoundRound}
use Rattle.zoom_sim.proofs.RunWorlds.{some_is}
use Rattle.zoom_sim.proofs.RunSound.{only_more, none_of}
use Rattle.zoom_sim.proofs.RunOver.{over_stays}

-- ---- one connection of the world

other_more : (c i : ℕ) (events : List Event) (h : History) → (c == i) ≡ false → events_on i (at_connection c events ++ h) ≡ events_on i h
other_more c i events h far = only_append i (at_connection c events) h ∙ ap (λ z. z ++ events_on i h) (none_of c i events far)

at_peer : (peers : List Peer) (c : ℕ) (p : Peer) → c < length peers → slice_get peers c ≡ Some (get_or peers c p)
at_peer peers c p lt = got peers c p (get_or peers c p) lt refl

-- a bound on sent octets can be lowered, and matters for connections that exist only
pub world_as : (one two : ℕ → ℕ) (qs : List Question) (s : MetaSettings) (ts : List TargetState) (meta : MetaLinks)
    (peers : List Peer) → ((c : ℕ) → c < length peers → one c ≡ two c) → IsSoundWorld one qs s ts meta peers
    → IsSoundWorld two qs s ts meta peers
world_as one two qs s ts meta peers same w = record {
  history = w.history;
  after = w.after;
  size = w.size;
  equal = w.equal;
  kept = λ c q t p a b d.
      subst (λ n. IsAdvancedTo n s q t (events_on c w.history) p) (same c (slice_get_within peers c p d)) (w.kept c q t p a b d);
}

module _ (qs : List Question) (s : MetaSettings) (ts : List TargetState) (old new : MetaLinks) (peers : List Peer)
    (c : ℕ) (r : Peer) (lt : c < length peers) where
  -- more events of one connection
  world_put : (one two : ℕ → ℕ) (w : IsSoundWorld one qs s ts old peers) (events : List Event)
      → MetaAfter qs s (at_connection c events ++ w.history) new
      → ((q : Question) (t : TargetState) → slice_get qs c ≡ Some q → slice_get ts c ≡ Some t
      → IsAdvancedTo (two c) s q t (events ++ events_on c w.history) r)
      → ((i : ℕ) → (c == i) ≡ false → one i ≡ two i) → IsSoundWorld two qs s ts new (slice_set peers c r)
  world_put one two w events after mine others = record {
    history = at_connection c events ++ w.history;
    after = after;
    size = length-set peers c r ∙ w.size;
    equal = w.equal;
    kept = λ i q t p a b d. each i q t p a b d (c == i) refl;
  }
    where
      each : (i : ℕ) (q : Question) (t : TargetState) (p : Peer) → slice_get qs i ≡ Some q → slice_get ts i ≡ Some t
          → slice_get (slice_set peers c r) i ≡ Some p → (b : Bool) → (c == i) ≡ b
          → IsAdvancedTo (two i) s q t (events_on i (at_connection c events ++ w.history)) p
      each i q t p a b d true e =
          let same : c ≡ i = grind (arith, nat_tests) in
          let which : r ≡ p = some_is (sym (get_same peers c r lt)
          ∙ subst (λ n. slice_get (slice_set peers c r) n ≡ Some p) (sym same) d) in
          subst (λ n. IsAdvancedTo (two n) s q t (events_on n (at_connection c events ++ w.history)) p) same
          (subst (λ z. IsAdvancedTo (two c) s q t z p) (sym (only_more c events w.history))
          (subst (λ z. IsAdvancedTo (two c) s q t (events ++ events_on c w.history) z) which
          (mine q t (subst (λ n. slice_get qs n ≡ Some q) (sym same) a)
          (subst (λ n. slice_get ts n ≡ Some t) (sym same) b))))
      each i q t p a b d false e =
          subst (λ n. IsAdvancedTo n s q t (events_on i (at_connection c events ++ w.history)) p) (others i e)
          (subst (λ z. IsAdvancedTo (one i) s q t z p) (sym (other_more c i events w.history e))
          (w.kept i q t p a b (sym (get_other peers c i r e) ∙ d)))

  -- the question and the target of the connection
  asked_at : (one : ℕ → ℕ) (w : IsSoundWorld one qs s ts old peers) → (q : Question) × (slice_get qs c ≡ Some q)
  asked_at one w = slice_some qs c (let g : c < length qs = omega (arith, w.size, w.equal, lt) in g)

  target_at : (one : ℕ → ℕ) (w : IsSoundWorld one qs s ts old peers) → (t : TargetState) × (slice_get ts c ≡ Some t)
  target_at one w = slice_some ts c (let g : c < length ts = omega (arith, w.size, lt) in g)

  -- they are the same
  at_both : (X : Question → TargetState → Type 0) (q p : Question) (t u : TargetState) → slice_get qs c ≡ Some q
      → slice_get qs c ≡ Some p → slice_get ts c ≡ Some t → slice_get ts c ≡ Some u → X q t → X p u
  at_both X q p t u a b d e x =
      subst (λ z. X z u) (some_is (sym a ∙ b)) (subst (λ z. X q z) (some_is (sym d ∙ e)) x)

-- ---- a step

-- a connection that is sound, or whose target lost a reply
pub lost_advanced : (s : MetaSettings) (q : Question) (target : TargetState) (events : List Event) (peer : Peer)
    → IsLostPeer s q target true events peer → IsAdvancedTo 0 s q target events peer
lost_advanced s q target events peer (inl b) = inr (inl (b, refl))
lost_advanced s q target events peer (inr e) = inr (inr e)

module _ (old new : MetaLinks) (peers : List Peer) (c : ℕ) (p r : Peer) (lt : c < length peers) (same : Bool)
    (f : PeerStep c true true same old new (get_or peers c p) r) (qs : List Question) (s : MetaSettings)
    (ts : List TargetState) (w : IsSoundWorld (λ i. 0) qs s ts old peers) where
  -- more events of the connection, after which it is one of these
  put_more : (q : Question) (t : TargetState) → slice_get qs c ≡ Some q → slice_get ts c ≡ Some t → (events : List Event)
      → MetaAfter qs s (at_connection c events ++ w.history) new
      → IsAdvancedTo 0 s q t (events ++ events_on c w.history) r → IsSoundWorld (λ i. 0) qs s ts new (slice_set peers c r)
  put_more q t a b events after x =
      world_put qs s ts old new peers c r lt (λ i. 0) (λ i. 0) w events after
      (λ o u d e. at_both qs s ts old new peers c r lt (λ y z. IsAdvancedTo 0 s y z (events ++ events_on c w.history) r)
      q o t u a d b e x) (λ i far. refl)

  put_lost : (q : Question) (t : TargetState) → slice_get qs c ≡ Some q → slice_get ts c ≡ Some t
      → LostStep qs s c w.history q t true new r → IsSoundWorld (λ i. 0) qs s ts new (slice_set peers c r)
  put_lost q t a b l =
      put_more q t a b l.events l.after (lost_advanced s q t (l.events ++ events_on c w.history) r l.lost)

  put_step : (q : Question) (t : TargetState) → slice_get qs c ≡ Some q → slice_get ts c ≡ Some t
      → IsAdvancedTo 0 s q t (events_on c w.history) (get_or peers c p) → IsSoundWorld (λ i. 0) qs s ts new (slice_set peers c r)
  put_step q t a b (inl k) = by (f.fine qs s w.history q t k.0 k.1 w.after a k.2)
    where
      by : SoundStep qs s c w.history q t true same k.0 k.1 new r ⊎ LostStep qs s c w.history q t true new r
          → IsSoundWorld (λ i. 0) qs s ts new (slice_set peers c r)
      by (inl x) = put_more q t a b x.events x.after (inl (x.later, x.host_more ++ k.1, x.fine, λ on. omega arith))
      by (inr l) = put_lost q t a b l
  put_step q t a b (inr (inl x)) = put_lost q t a b (f.lost qs s w.history q t w.after a (inl x.0))
  put_step q t a b (inr (inr e)) = put_lost q t a b (f.lost qs s w.history q t w.after a (inr e))

pub step_stays : (old new : MetaLinks) (peers : List Peer) (c : ℕ) (p r : Peer) → c < length peers → (same : Bool)
    → PeerStep c true true same old new (get_or peers c p) r → AfterSoundMoves old new peers (slice_set peers c r)
step_stays old new peers c p r lt same f = record {
  on = λ qs s ts w.
      let q = asked_at qs s ts old new peers c r lt (λ i. 0) w in
      let t = target_at qs s ts old new peers c r lt (λ i. 0) w in
      put_step old new peers c p r lt same f qs s ts w q.0 t.0 q.1 t.1
      (w.kept c q.0 t.0 (get_or peers c p) q.1 t.1 (at_peer peers c p lt));
}

-- ---- a round

-- the connections before this one have the new bound, the others the old one
abbrev pub half : ℕ → ℕ → ℕ → ℕ → ℕ
half c m n i = if nat_lt i c then m else n

-- the connections before this one had their round; whether anything was carried or released
abbrev pub SoundRoundSoFar : ℕ → Bool → MetaLinks → MetaLinks → List Peer → List Peer → Type 0
SoundRoundSoFar c any old new was now =
    (n m : ℕ) (qs : List Question) (s : MetaSettings) (ts : List TargetState) → (any ≡ true → m ≡ suc n)
    → IsSoundWorld (λ i. n) qs s ts old was → IsSoundWorld (half c m n) qs s ts new now

pub round_all : (c : ℕ) (any : Bool) (old new : MetaLinks) (was now : List Peer) → length now ≤ c
    → SoundRoundSoFar c any old new was now → AfterSoundRound any old new was now
round_all c any old new was now le f = record {
  on = λ n m qs s ts is w.
      world_as (half c m n) (λ i. m) qs s ts new now (λ i lt. all m n i lt (nat_lt i c) refl) (f n m qs s ts is w);
}
  where
    all : (m n i : ℕ) → i < length now → (b : Bool) → nat_lt i c ≡ b → half c m n i ≡ m
    all m n i lt true e = rw e refl
    all m n i lt false e = absurd (let g : c ≤ i = grind (arith, nat_tests) in omega (arith, g, lt, le))

half_other : (c m n i : ℕ) → (c == i) ≡ false → half c m n i ≡ half (c + 1) m n i
half_other c m n i far = by (nat_lt i c) (nat_lt i (c + 1)) refl refl
  where
    by : (a b : Bool) → nat_lt i c ≡ a → nat_lt i (c + 1) ≡ b → half c m n i ≡ half (c + 1) m n i
    by true true e f = rw (e, f) refl
    by true false e f = absurd (let g : i < c = grind (arith, nat_tests) in
        let k : c + 1 ≤ i = grind (arith, nat_tests) in omega (arith, g, k))
    by false true e f = absurd (let g : c ≤ i = grind (arith, nat_tests) in
        let k : i < c + 1 = grind (arith, nat_tests) in
        let l : c ≡ i = omega (arith, g, k) in
        let x : true ≡ false = grind (arith, nat_tests) in true≢false x)
    by false false e f = rw (e, f) refl

half_here : (c m n : ℕ) → half (c + 1) m n c ≡ m
half_here c m n = by (nat_lt c (c + 1)) refl
  where
    by : (b : Bool) → nat_lt c (c + 1) ≡ b → half (c + 1) m n c ≡ m
    by true e = rw e refl
    by false e = absurd (let g : c + 1 ≤ c = grind (arith, nat_tests) in omega (arith, g))

half_before : (c m n : ℕ) → half c m n c ≡ n
half_before c m n = by (nat_lt c c) refl
  where
    by : (b : Bool) → nat_lt c c ≡ b → half c m n c ≡ n
    by true e = absurd (let g : c < c = grind (arith, nat_tests) in omega (arith, g))
    by false e = rw e refl

pub or_left : (a b : Bool) → a ≡ true → (a || b) ≡ true
or_left true b e = refl
or_left false b e = absurd (true≢false (sym e))

pub or_right : (a b : Bool) → b ≡ true → (a || b) ≡ true
or_right true b e = refl
or_right false b e = e

-- how much the connection sent after its round
grown : (moved : Bool) (n m : ℕ) (p later : Transcript) → (moved ≡ true → m ≡ suc n)
    → (is_over p ≡ false → n ≤ length (sent (past_of p)))
    → (is_over later ≡ false → length (sent (past_of p)) < length (sent (past_of later)))
    → (moved ≡ false → later ≡ p) → (is_over later ≡ false → is_over p ≡ false)
    → is_over later ≡ false → m ≤ length (sent (past_of later))
grown true n m p later is least grows still on e =
    let a : n ≤ length (sent (past_of p)) = least (on e) in
    let b = grows e in
    let k : m ≡ suc n = is refl in
    omega (arith, a, b, k)
grown false n m p later is least grows still on e =
    absurd (let b : length (sent (past_of p)) < length (sent (past_of p)) =
    subst (λ z. length (sent (past_of p)) < length (sent (past_of z))) (still refl) (grows e) in omega (arith, b))

module _ (uniqueness : OneTranscript) (any moved now : Bool) (old mid new : MetaLinks)
    (was peers : List Peer) (c : ℕ) (p r : Peer) (lt : c < length peers) (so : moved ≡ true → now ≡ true)
    (kept : any ≡ true → now ≡ true) where
  module _ (f : PeerRound c moved mid new (get_or peers c p) r) (n m : ℕ) (qs : List Question)
      (s : MetaSettings) (ts : List TargetState) (is : now ≡ true → m ≡ suc n)
      (w : IsSoundWorld (half c m n) qs s ts mid peers) where
    -- more events of the connection, after which it has advanced
    put_advanced : (q : Question) (t : TargetState) → slice_get qs c ≡ Some q → slice_get ts c ≡ Some t
        → (events : List Event) → MetaAfter qs s (at_connection c events ++ w.history) new
        → IsAdvancedTo m s q t (events ++ events_on c w.history) r
        → IsSoundWorld (half (c + 1) m n) qs s ts new (slice_set peers c r)
    put_advanced q t a b events after x =
        world_put qs s ts mid new peers c r lt (half c m n) (half (c + 1) m n) w events after
        (λ o u d e. subst (λ z. IsAdvancedTo z s o u (events ++ events_on c w.history) r) (sym (half_here c m n))
        (at_both qs s ts mid new peers c r lt (λ y z. IsAdvancedTo m s y z (events ++ events_on c w.history) r)
        q o t u a d b e x)) (λ i far. half_other c m n i far)

    put_ended : (q : Question) (t : TargetState) → slice_get qs c ≡ Some q → slice_get ts c ≡ Some t
        → EndedStep qs s c w.history t new r → IsSoundWorld (half (c + 1) m n) qs s ts new (slice_set peers c r)
    put_ended q t a b l = put_advanced q t a b l.events l.after (inr (inr l.ended))

    put_round : (q : Question) (t : TargetState) → slice_get qs c ≡ Some q → slice_get ts c ≡ Some t
        → IsAdvancedTo n s q t (events_on c w.history) (get_or peers c p)
        → IsSoundWorld (half (c + 1) m n) qs s ts new (slice_set peers c r)
    put_round q t a b (inl k) = by (f.fine qs s w.history q t k.0 k.1 w.after a k.2)
      where
        by : SoundRound qs s c w.history q t moved k.0 k.1 new r ⊎ EndedStep qs s c w.history t new r
            → IsSoundWorld (half (c + 1) m n) qs s ts new (slice_set peers c r)
        by (inl y) =
            let x = y.stepped in
            let sent_on : is_over x.later ≡ false → m ≤ length (sent (past_of x.later)) =
            grown moved n m k.0 x.later (λ e. is (so e)) k.3 y.grows y.still
            (over_stays uniqueness (settings_of s) x.events (events_on c w.history) k.0 x.later k.2.sound.transcript x.fine.sound.transcript) in
            put_advanced q t a b x.events x.after (inl (x.later, x.host_more ++ k.1, x.fine, sent_on))
        by (inr l) = put_ended q t a b l
    put_round q t a b (inr (inl x)) = put_ended q t a b (f.lost qs s w.history q t w.after a (inl x.0))
    put_round q t a b (inr (inr e)) = put_ended q t a b (f.lost qs s w.history q t w.after a (inr e))

  pub round_more : SoundRoundSoFar c any old mid was peers → PeerRound c moved mid new (get_or peers c p) r
      → SoundRoundSoFar (c + 1) now old new was (slice_set peers c r)
  round_more g f n m qs s ts is v =
      let w = g n m qs s ts (λ e. is (kept e)) v in
      let q = asked_at qs s ts mid new peers c r lt (half c m n) w in
      let t = target_at qs s ts mid new peers c r lt (half c m n) w in
      put_round f n m qs s ts is w q.0 t.0 q.1 t.1
      (subst (λ z. IsAdvancedTo z s q.0 t.0 (events_on c w.history) (get_or peers c p)) (half_before c m n)
      (w.kept c q.0 t.0 (get_or peers c p) q.1 t.1 (at_peer peers c p lt)))

-- ---- at first

pub started_fine : (qs : List Question) (s : MetaSettings) (ts : List TargetState) (meta : MetaLinks) (peers : List Peer)
    → AreStarted (length qs) qs s ts meta peers → length peers ≡ length ts → length ts ≡ length qs
    → IsSoundWorld (λ i. 0) qs s ts meta peers
started_fine qs s ts meta peers w size equal = record {
  history = w.history;
  after = w.after;
  size = size;
  equal = equal;
  kept = λ c q t p a b d.
      let f = w.fine c q t p (slice_get_within qs c q a) a b d in
      inl (f.0, [], f.1, λ on. omega arith);
}
