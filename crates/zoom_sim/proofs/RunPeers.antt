-- A connection that is sound with its target: the octets on their way between them.
use Rattle.std.proofs.Common.{◌≡◌, ◌∙◌, sym, ap, subst, ℕ, ◌<◌, ◌≤◌, Bool, true, false, List, [], ◌∷◌, ◌++◌, length, drop, slice_get, Some, refl, append_assoc, append-nil, arith, length-append}
use Rattle.std.specs.List.{flat_map}
use Rattle.std.proofs.lemmas.List.{append_cancel_left, drop_all}
use Rattle.std.proofs.lemmas.Option.{slice_get_within}
use Rattle.zorigin.specs.declared.settings.Settings.{Settings}
use Rattle.zorigin.specs.Sending.{encoding_of}
use Rattle.ztarget.specs.Receiving.{TargetState}
use Rattle.zoom_questions.specs.declared.question.Question.{Question}
use Rattle.zoom_questions.specs.declared.question.MetaSettings.{MetaSettings}
use Rattle.zoom_pool.specs.States.{is_stopped}
use Rattle.zoom_pool.specs.Transcripts.{Event, Transcript, IsTranscript, given, fed, state_at, past_of, sent}
use Rattle.zoom_pool.specs.History.{History, events_on}
use Rattle.zoom_pool.specs.Hosts.{HostState, Holdings, HostEvent, holdings_of, handed_out}
use Rattle.zoom_pool.specs.Laws.{OneTranscript}
use Rattle.zoom_pool.specs.Links.{waiting_at, waiting_in}
use Rattle.zoom_pool.specs.Connections.{ConnectionAfter}
use Rattle.zoom_pool.specs.Metas.{MetaLinks, MetaAfter, settings_of}
use Rattle.zoom_pool.proofs.Metas.{slice_some}
use Rattle.zoom_laws.specs.Exchange.{IsSoundExchange, OverLaw, fed_to}
use Rattle.zoom_sim.specs.declared.peers.Peer.{Peer}
use Rattle.zoom_sim.specs.RunSound.{IsSoundPeer}
use Rattle.zoom_sim.proofs.RunTranscripts.{not_lost, whole_stream, no_more_stream}

-- ---- octets

pub none_left : (x : List ℕ) → length x ≡ 0 → x ≡ []
none_left [] e = refl
none_left (n ∷ x) e = absurd (omega (arith, e))

-- nothing is behind all
pub nothing_behind : (x y z : List ℕ) → z ≡ x ++ y → length z ≤ length x → y ≡ []
nothing_behind x y z e le = none_left y (omega (arith, ap length e, length-append x y, le))

-- all octets that waited were carried
pub whole_left : (pipe piece rest : List ℕ) → piece ≡ pipe → rest ≡ drop (length piece) pipe → rest ≡ []
whole_left pipe piece rest e f = f ∙ ap (λ z. drop (length z) pipe) e ∙ drop_all (length pipe) pipe (omega arith)

-- ---- octets on their way

pub to_of : {holdings : Holdings} {settings : Settings} {events : List Event} {p : Transcript} {host_events : List HostEvent}
    {host : HostState} (x : IsSoundExchange holdings settings events p host_events host) (octets : List ℕ)
    → sent (past_of p) ≡ fed_to host_events ++ octets → x.to ≡ octets
to_of {host_events = host_events} x octets e = append_cancel_left (fed_to host_events) x.to octets (x.sends ∙ e)

pub from_of : {holdings : Holdings} {settings : Settings} {events : List Event} {p : Transcript} {host_events : List HostEvent}
    {host : HostState} (x : IsSoundExchange holdings settings events p host_events host) (octets : List ℕ)
    → handed_out host_events ≡ p.stream ++ octets → x.from ≡ octets
from_of {p = p} x octets e = append_cancel_left p.stream x.from octets (x.comes ∙ e)

module _ (s : MetaSettings) (q : Question) (target : TargetState) (taken : Bool) (events : List Event) (p : Transcript)
    (host_events : List HostEvent) (peer : Peer) (f : IsSoundPeer s q target taken events p host_events peer) where
  -- all octets fed are in the stream
  pub all_transcripts : OverLaw → p.stream ≡ fed events
  all_transcripts over = by (is_stopped (state_at p)) refl
    where
      by : (b : Bool) → is_stopped (state_at p) ≡ b → p.stream ≡ fed events
      by false e = whole_stream (settings_of s) events p f.sound.transcript e f.sound.goes_on
      by true e =
          let came : p.stream ≡ flat_map encoding_of f.sound.served.served.sent =
          (over (holdings_of target) (settings_of s) events p host_events peer.host f.sound e).1 in
          let all : p.stream ≡ fed events ++ (peer.from ++ peer.host.waiting) =
          came ∙ sym f.sound.served.waiting ∙ ap (λ z. z ++ peer.host.waiting) f.from
          ∙ append_assoc (fed events) peer.from peer.host.waiting in
          let none = nothing_behind (fed events) (peer.from ++ peer.host.waiting) p.stream all
          (no_more_stream (settings_of s) events p f.sound.transcript) in
          all ∙ ap (λ z. fed events ++ z) none ∙ append-nil (fed events)

  -- the octets sent are those fed to the serving end, those on their way to it, and those that wait at the connection
  pub sent_so : OneTranscript → (questions : List Question) (c : ℕ) (h : History) (meta : MetaLinks)
      → MetaAfter questions s h meta → slice_get questions c ≡ Some q → events ≡ events_on c h
      → sent (past_of p) ≡ fed_to host_events ++ (peer.to ++ waiting_at meta.pool c)
  sent_so uniqueness questions c h meta after at same =
      let there : c < length meta.pool.connections = omega (arith, slice_get_within questions c q at, after.size) in
      let link = slice_some meta.pool.connections c there in
      let leaves : ConnectionAfter (settings_of s) (events_on c h) (after.pool.transcript c) link.0 =
      after.pool.stands.each c link.0 link.1 in
      let transcript : IsTranscript (settings_of s) (events_on c h) p =
      subst (λ z. IsTranscript (settings_of s) z p) same f.sound.transcript in
      let is : after.pool.transcript c ≡ p =
      uniqueness (settings_of s) (events_on c h) (after.pool.transcript c) p leaves.transcript transcript in
      let all : given (events_on c h) ++ link.0.waiting ≡ sent (past_of (after.pool.transcript c)) =
      leaves.waiting (not_lost (settings_of s) (events_on c h) p transcript f.sound.goes) in
      let waits : waiting_at meta.pool c ≡ link.0.waiting = ap waiting_in link.1 in
      ap (λ z. sent (past_of z)) (sym is) ∙ sym all ∙ ap (λ z. given (events_on c h) ++ z) (sym waits)
      ∙ ap (λ z. given z ++ waiting_at meta.pool c) (sym same) ∙ ap (λ z. z ++ waiting_at meta.pool c) f.to
      ∙ append_assoc (fed_to host_events) peer.to (waiting_at meta.pool c)
