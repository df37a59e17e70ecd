-- In the history of a run, a connection is stopped only if its channel failed for it, or after the most rounds.
use Rattle.std.proofs.Common.{◌≡◌, ◌⊎◌, ◌≤◌, ◌-◌, ◌^◌, ◌∙◌, sym, ap, subst, inl, inr, ℕ, ◌<◌, Bool, true, false, List, [], length, refl}
use Rattle.std.specs.List.{AllByRecursion}
use Rattle.std.proofs.lemmas.Option.{slice_get_within}
use Rattle.ztarget.specs.Receiving.{TargetState}
use Rattle.zoom_questions.specs.declared.question.Question.{Question}
use Rattle.zoom_questions.specs.declared.question.MetaSettings.{MetaSettings}
use Rattle.zoom_questions.specs.declared.moves.Move.{Move}
use Rattle.zoom_questions.specs.declared.moves.Move.TheVariants as moves
use Rattle.zoom_pool.specs.declared.state.Reason.TheVariants as reasons
use Rattle.zoom_pool.specs.States.{state_as, or_else, is_stopped}
use Rattle.zoom_pool.specs.Transcripts.{Event, Called, Fed, Took, InputEnded, HandedOut, Stopped, Transcript, IsTranscript, state_at}
use Rattle.zoom_pool.specs.History.{History, events_on}
use Rattle.zoom_pool.specs.Connections.{ConnectionAfter}
use Rattle.zoom_pool.specs.Links.{Link}
use Rattle.zoom_pool.specs.Laws.{OneTranscript}
use Rattle.zoom_pool.specs.Metas.{MetaLinks, MetaAfter, IsFinishedUpTo, settings_of}
use Rattle.zoom_pool.proofs.Metas.{slice_some}
use Rattle.zoom_sim.specs.declared.peers.Peer.{Peer}
use Rattle.zoom_sim.specs.Run.{is_over, IsRun}
use Rattle.zoom_sim.specs.RunSteps.{ArePeersOf}
use Rattle.zoom_sim.specs.RunMoves.{DrivenStep, Carriage, Failing, AfterCarryTo, AfterCarryFrom, PeerRoundStep, connection_of, AfterMove, AfterMoveIf, AreMade, none_made, one_made}
use Rattle.zoom_sim.specs.RunMade.{EndUnlessOver, StopUnlessOver, most_rounds, LastStep, AreRounded, none_rounded, one_rounded, GoOnStep, AreRounds, no_round, one_round, MovesFirst, IsLater, at_first, carried_to, carried_from, IsStopForFailure}
use Rattle.zoom_sim.proofs.RunWorlds.{talked, world_new}
use Rattle.zoom_sim.proofs.RunAllowed as allow
use Rattle.zoom_sim.proofs.RunAllowed.{IsNoStop, AreAllowed, AllowedStep, AllowedCarry, AllowedWorld}

-- ---- a connection that is finished by one history is finished by each

-- the state of a connection is told by what left it
state_of_link : (s : MetaSettings) (events : List Event) (p : Transcript) (k : Link)
    → ConnectionAfter (settings_of s) events p k → state_at p ≡ or_else (state_as k.origin.state) k.stop
state_of_link s events p k a =
    ap (λ z. or_else (state_as z) p.stop) (sym (ap (λ z. z.state) a.matches.origin.is))
    ∙ ap (or_else (state_as k.origin.state)) (sym a.matches.stop)

pub over_in_each : OneTranscript → (q : List Question) (s : MetaSettings) (h other : History) (meta : MetaLinks)
    → MetaAfter q s h meta → MetaAfter q s other meta → (c : ℕ) → c < length q
    → ((p : Transcript) → IsTranscript (settings_of s) (events_on c other) p → is_over p ≡ true)
    → (p : Transcript) → IsTranscript (settings_of s) (events_on c h) p → is_over p ≡ true
over_in_each hearing q s h other meta a b c lt over p transcript =
    let there : c < length meta.pool.connections = subst (λ n. c < n) (sym a.size) lt in
    let k = slice_some meta.pool.connections c there in
    let mine = a.pool.stands.each c k.0 k.1 in
    let theirs = b.pool.stands.each c k.0 k.1 in
    let same : a.pool.transcript c ≡ p =
    hearing (settings_of s) (events_on c h) (a.pool.transcript c) p mine.transcript transcript in
    let state : state_at p ≡ state_at (b.pool.transcript c) =
    sym (ap state_at same) ∙ state_of_link s (events_on c h) (a.pool.transcript c) k.0 mine
    ∙ sym (state_of_link s (events_on c other) (b.pool.transcript c) k.0 theirs) in
    ap is_stopped state ∙ over (b.pool.transcript c) theirs.transcript

module _ {C : Type 0} (to from : Carriage C) (fails : Failing C) where
  -- ---- the states of the channel

  pub later_trans : (x y z : C) → IsLater to from fails x y → IsLater to from fails y z → IsLater to from fails x z
  later_trans x y z f at_first = f
  later_trans x y z f (carried_to {mid = mid} c piece came more one) =
      carried_to c piece came (later_trans x y mid f more) one
  later_trans x y z f (carried_from {mid = mid} c piece came more one) =
      carried_from c piece came (later_trans x y mid f more) one

  after_to : (any : Bool) (c k : ℕ) (channel later : C) (old new : MetaLinks) (was now : Peer)
      → AfterCarryTo to any c k channel later old new was now → IsLater to from fails channel later
  after_to any c k channel later old new was now a = carried_to c _ a.came at_first a.carried

  after_from : (any : Bool) (c k : ℕ) (channel later : C) (old new : MetaLinks) (was now : Peer)
      → AfterCarryFrom from fails any c k channel later old new was now → IsLater to from fails channel later
  after_from any c k channel later old new was now a = carried_from c _ a.came at_first a.carried

  after_move : (any : Bool) (c : ℕ) (step : Move) (channel later : C) (old new : MetaLinks) (was now : Peer)
      → AfterMove to from fails any c step channel later old new was now → IsLater to from fails channel later
  after_move any c (moves.To d k) channel later old new was now a = after_to any c k channel later old new was now a
  after_move any c (moves.Release d k) channel later old new was now a =
      subst (IsLater to from fails channel) (sym a.0) at_first
  after_move any c (moves.From d k) channel later old new was now a =
      after_from any c k channel later old new was now a

  after_move_if : (step : Move) (channel later : C) (old new : MetaLinks) (was now : List Peer)
      → AfterMoveIf to from fails step channel later old new was now → IsLater to from fails channel later
  after_move_if step channel later old new was now (inl m) =
      after_move m.any (connection_of step) step channel later old new m.before m.after m.made
  after_move_if step channel later old new was now (inr n) =
      subst (IsLater to from fails channel) (sym n.channel_is) at_first

  after_moves : (channel : C) (old : MetaLinks) (was : List Peer) (steps : List Move) (later : C) (new : MetaLinks)
      (now : List Peer) → AreMade to from fails channel old was steps later new now → IsLater to from fails channel later
  after_moves channel old was steps later new now none_made = at_first
  after_moves channel old was steps later new now
      (one_made {moves = before} {mid = mid} {meta = meta} {peers = peers} step more one) =
      later_trans channel mid later (after_moves channel old was before mid meta peers more)
      (after_move_if step mid later meta new peers now one)

  after_own_round : (moved : Bool) (c : ℕ) (channel later : C) (old new : MetaLinks) (was now : Peer)
      → PeerRoundStep to from fails moved c channel later old new was now → IsLater to from fails channel later
  after_own_round moved c channel later old new was now r =
      later_trans channel r.between later
      (after_to r.some_sent c (2 ^ 64 - 1) channel r.between old r.meta was r.fed r.sent)
      (after_from r.some_came c (2 ^ 64 - 1) r.between later r.meta new r.replied now r.came)

  after_rounded : (channel : C) (old : MetaLinks) (was : List Peer) (n : ℕ) (any : Bool) (later : C) (new : MetaLinks)
      (now : List Peer) → AreRounded to from fails channel old was n any later new now
      → IsLater to from fails channel later
  after_rounded channel old was n any later new now none_rounded = at_first
  after_rounded channel old was n any later new now
      (one_rounded {n = m} {any = some} {moved = moved} {mid = mid} {meta = meta} {peers = peers} more one) =
      later_trans channel mid later (after_rounded channel old was m some mid meta peers more)
      (after_own_round moved m mid later meta new one.before one.after one.made)

  after_rounds : (channel : C) (old : MetaLinks) (was : List Peer) (n : ℕ) (later : C) (new : MetaLinks)
      (now : List Peer) → AreRounds to from fails channel old was n later new now → IsLater to from fails channel later
  after_rounds channel old was n later new now no_round = at_first
  after_rounds channel old was n later new now
      (one_round {n = m} {mid = mid} {meta = meta} {peers = peers} more going one) =
      later_trans channel mid later (after_rounds channel old was m mid meta peers more)
      (after_rounded mid meta peers (length peers) one.moved later one.meta now one.round)

  -- ---- the stops

  module _ (first last : C) (count : ℕ) where
    abbrev allowed : ℕ → Event → Type 0
    allowed c event = IsStopForFailure to from fails first last count c event

    fine : (c : ℕ) (event : Event) → IsNoStop event → allowed c event
    fine c (Called call) n = tt
    fine c (Fed piece) n = tt
    fine c Took n = tt
    fine c InputEnded n = tt
    fine c (HandedOut octets) n = tt
    fine c (Stopped reason) n = absurd n

    abbrev Step : MetaLinks → MetaLinks → Type 0
    Step old new = AllowedStep allowed fine old new

    abbrev Carry : ℕ → MetaLinks → MetaLinks → Peer → Peer → Type 0
    Carry c old new was now = AllowedCarry allowed fine c old new was now

    -- the channel was before and after in these states
    module _ (channel later : C) (since : IsLater to from fails first channel)
        (until : IsLater to from fails later last) where
      carry_to : (any : Bool) (c k : ℕ) (old new : MetaLinks) (was now : Peer)
          → AfterCarryTo to any c k channel later old new was now → Carry c old new was now
      carry_to any c k old new was now a = allow.carried_to allowed fine c k a.came old new was now a.step

      carry_from : (any : Bool) (c k : ℕ) (old new : MetaLinks) (was now : Peer)
          → AfterCarryFrom from fails any c k channel later old new was now → Carry c old new was now
      carry_from any c k old new was now a =
          allow.carried_from allowed fine c k a.came a.failure old new was now (λ reason is. inl (record {
            state = later;
            since = later_trans first channel later since (after_from any c k channel later old new was now a);
            until = until;
            failed = subst (fails later c) is a.failed;
          })) a.step

      carry_move : (any : Bool) (c : ℕ) (step : Move) (old new : MetaLinks) (was now : Peer)
          → AfterMove to from fails any c step channel later old new was now → Carry c old new was now
      carry_move any c (moves.To d k) old new was now a = carry_to any c k old new was now a
      carry_move any c (moves.Release d k) old new was now a =
          subst (λ z. Carry c old z was now) (sym a.1) (allow.released allowed fine c old k any was now a.2)
      carry_move any c (moves.From d k) old new was now a = carry_from any c k old new was now a

    carry_round : (channel later : C) → IsLater to from fails first channel → IsLater to from fails later last
        → (moved : Bool) (c : ℕ) (old new : MetaLinks) (was now : Peer)
        → PeerRoundStep to from fails moved c channel later old new was now → Carry c old new was now
    carry_round channel later since until moved c old new was now r =
        let one = after_to r.some_sent c (2 ^ 64 - 1) channel r.between old r.meta was r.fed r.sent in
        let two = after_from r.some_came c (2 ^ 64 - 1) r.between later r.meta new r.replied now r.came in
        allow.carry_trans allowed fine c old r.meta new was r.fed now
        (carry_to channel r.between since (later_trans r.between later last two until) r.some_sent c (2 ^ 64 - 1) old
        r.meta was r.fed r.sent)
        (allow.carry_trans allowed fine c r.meta r.meta new r.fed r.replied now
        (allow.released_all allowed fine c r.meta r.some_released r.fed r.replied r.released)
        (carry_from r.between later (later_trans first channel r.between since one) until r.some_came c (2 ^ 64 - 1)
        r.meta new r.replied now r.came))

    end_step : (c : ℕ) (old new : MetaLinks) → EndUnlessOver c old new → Step old new
    end_step c old new (inl over) = subst (Step old) (sym over.0) (allow.step_same allowed fine old)
    end_step c old new (inr e) = allow.step_ends allowed fine c old new e.0

    stop_step : most_rounds ≤ count → (c : ℕ) (old new : MetaLinks) → StopUnlessOver c old new → Step old new
    stop_step most c old new (inl over) = subst (Step old) (sym over.0) (allow.step_same allowed fine old)
    stop_step most c old new (inr stopped) =
        allow.step_event allowed fine c (Stopped reasons.Turns) old new tt (inr (most, refl)) stopped.0

    -- ---- worlds

    module _ (q : List Question) (s : MetaSettings) (ts : List TargetState) where
      abbrev World : MetaLinks → List Peer → Type 0
      World meta peers = AllowedWorld allowed fine q s ts meta peers

      move_world : (step : Move) (channel later : C) (old new : MetaLinks) (was now : List Peer)
          → IsLater to from fails first channel → IsLater to from fails later last
          → AfterMoveIf to from fails step channel later old new was now → World old was → World new now
      move_world step channel later old new was now since until (inl m) w =
          subst (World new) (sym m.peers)
          (allow.carry_world allowed fine q s ts (connection_of step) old new was m.before m.after m.there
          (carry_move channel later since until m.any (connection_of step) step old new m.before m.after m.made) w)
      move_world step channel later old new was now since until (inr n) w =
          subst (World new) (sym n.peers) (subst (λ z. World z was) (sym n.meta_is) w)

      moves_world : (channel : C) (old : MetaLinks) (was : List Peer) (steps : List Move) (later : C) (new : MetaLinks)
          (now : List Peer) → IsLater to from fails first channel → IsLater to from fails later last
          → AreMade to from fails channel old was steps later new now → World old was → World new now
      moves_world channel old was steps later new now since until none_made w = w
      moves_world channel old was steps later new now since until
          (one_made {moves = before} {mid = mid} {meta = meta} {peers = peers} step more one) w =
          let here = later_trans first channel mid since (after_moves channel old was before mid meta peers more) in
          let there = later_trans mid later last (after_move_if step mid later meta new peers now one) until in
          move_world step mid later meta new peers now here until one
          (moves_world channel old was before mid meta peers since there more w)

      rounded_world : (channel : C) (old : MetaLinks) (was : List Peer) (n : ℕ) (any : Bool) (later : C)
          (new : MetaLinks) (now : List Peer) → IsLater to from fails first channel → IsLater to from fails later last
          → AreRounded to from fails channel old was n any later new now → World old was → World new now
      rounded_world channel old was n any later new now since until none_rounded w = w
      rounded_world channel old was n any later new now since until
          (one_rounded {n = m} {any = some} {moved = moved} {mid = mid} {meta = meta} {peers = peers} more one) w =
          let here = later_trans first channel mid since (after_rounded channel old was m some mid meta peers more) in
          let step = after_own_round moved m mid later meta new one.before one.after one.made in
          subst (World new) (sym one.peers)
          (allow.carry_world allowed fine q s ts m meta new peers one.before one.after one.there
          (carry_round mid later here until moved m meta new one.before one.after one.made)
          (rounded_world channel old was m some mid meta peers since (later_trans mid later last step until) more w))

      go_world : (channel later : C) (old new : MetaLinks) (was now : List Peer)
          → IsLater to from fails first channel → IsLater to from fails later last
          → GoOnStep to from fails channel later old new was now → World old was → World new now
      go_world channel later old new was now since until g w = by g.moved refl
        where
          after : World g.meta now
          after = rounded_world channel old was (length was) g.moved later g.meta now since until g.round w

          by : (b : Bool) → g.moved ≡ b → World new now
          by true e = subst (λ z. World z now) (sym (g.goes e)) after
          by false e =
              allow.step_world allowed fine q s ts g.meta new now
              (allow.steps_in_turn allowed fine EndUnlessOver end_step g.meta (length g.meta.pool.connections) new
              (g.ends e)) after

      rounds_world : (channel : C) (old : MetaLinks) (was : List Peer) (n : ℕ) (later : C) (new : MetaLinks)
          (now : List Peer) → IsLater to from fails first channel → IsLater to from fails later last
          → AreRounds to from fails channel old was n later new now → World old was → World new now
      rounds_world channel old was n later new now since until no_round w = w
      rounds_world channel old was n later new now since until
          (one_round {n = m} {mid = mid} {meta = meta} {peers = peers} more going one) w =
          let here = later_trans first channel mid since (after_rounds channel old was m mid meta peers more) in
          let step = after_rounded mid meta peers (length peers) one.moved later one.meta now one.round in
          go_world mid later meta new peers now here until one
          (rounds_world channel old was m mid meta peers since (later_trans mid later last step until) more w)

      last_world : (old new : MetaLinks) (peers : List Peer) → LastStep count old new → World old peers
          → World new peers
      last_world old new peers l w =
          allow.step_world allowed fine q s ts l.ended new peers
          (allow.steps_in_turn allowed fine StopUnlessOver (stop_step l.most) l.ended (length l.ended.pool.connections)
          new l.stops)
          (allow.step_world allowed fine q s ts old l.ended peers
          (allow.steps_in_turn allowed fine EndUnlessOver end_step old (length old.pool.connections) l.ended l.ends) w)

      end_world : (old new : MetaLinks) (peers : List Peer)
          → ((new ≡ old) × IsFinishedUpTo old true) ⊎ LastStep count old new → World old peers → World new peers
      end_world old new peers (inl over) w = subst (λ z. World z peers) (sym over.0) w
      end_world old new peers (inr l) w = last_world old new peers l w

  -- a run whose history has the events of the moves and the rounds
  module _ (q : List Question) (s : MetaSettings) (ts : List TargetState) (steps : List Move) (channel later : C)
      (old new : MetaLinks) (was now : List Peer) (m : MovesFirst to from fails steps channel later old new was now)
      (begins : MetaAfter q s [] old) (equal : ArePeersOf ts was) where
    abbrev Here : MetaLinks → List Peer → Type 0
    Here meta peers = World channel later m.finished.count q s ts meta peers

    abbrev may : ℕ → Event → Type 0
    may = allowed channel later m.finished.count

    begun_world : Here m.begun was
    begun_world =
        allow.step_world may (fine channel later m.finished.count) q s ts old m.begun was
        (allow.steps_in_turn may (fine channel later m.finished.count) DrivenStep
        (allow.step_driven may (fine channel later m.finished.count)) old (length old.pool.connections) m.begun m.driven)
        (world_new q s ts old was begins equal, tt)

    made_world : Here m.made m.peers
    made_world =
        let f = m.finished in
        moves_world channel later f.count q s ts channel m.begun was steps m.mid m.made m.peers at_first
        (after_rounds m.mid m.made m.peers f.count later f.meta now f.rounds) m.moved begun_world

    last : Here new now
    last =
        let f = m.finished in
        end_world channel later f.count q s ts f.meta new now f.last
        (rounds_world channel later f.count q s ts m.mid m.made m.peers f.count later f.meta now
        (after_moves channel m.begun was steps m.mid m.made m.peers m.moved) at_first f.rounds made_world)

    pub fair_run : OneTranscript → (run : IsRun q s ts new) × AllByRecursion (λ (e : ℕ × Event). may e.0 e.1) run.history
    fair_run hearing =
        let some : IsRun q s ts new = (m.rounds.on q s ts made_world.0).0 in
        let w = last.0 in (
          record {
            history = w.history;
            after = w.after;
            talked = λ c t got.
                let mine = slice_some now c (subst (λ n. c < n) (sym w.size) (slice_get_within ts c t got)) in
                talked t (events_on c w.history) mine.0 (w.tied c t mine.0 got mine.1);
            over = λ c p lt transcript.
                over_in_each hearing q s w.history some.history new w.after some.after c lt
                (λ r at. some.over c r lt at) p transcript;
          },
          last.1,
        )
