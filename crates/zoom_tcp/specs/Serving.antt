-- A target in memory is served to clients that arrive one after the other (Z39.50-2003, 3.2).
use Rattle.std.specs.Prelude.{◌≡◌, ◌⊎◌, ℕ, ◌+◌, ◌<◌, [], Result, Ok, Err}
use Rattle.zoom_pool.specs.Hosts.{HostState, Holdings}
use Rattle.zoom_io.specs.declared.replies.AnswerError.{AnswerError}
use Rattle.zoom_io.specs.declared.replies.AnswerError.TheVariants as answers
use Rattle.zoom_devices.specs.Devices.{DeviceState}
use Rattle.zoom_io.specs.Answering.{ExchangeResult, IsExchangeEnd}
use Rattle.zoom_io.specs.Counting.{Counting}
use Rattle.zoom_tcp.specs.Clients.{tcp_state, IsTcpArrival, IsTcpDeparture}
use Rattle.zoom_tcp.specs.declared.clients.Arrival.{Arrival}
use Rattle.zoom_tcp.specs.declared.clients.Arrival.TheVariants.{Client, Gone, NoClient}
use Rattle.zoom_tcp.specs.declared.clients.TcpClients.{TcpClients}
use Rattle.zoom_tcp.specs.declared.link.Timed.{Timed}
use Rattle.zoom_tcp.specs.declared.service.ServeError.{ServeError}
use Rattle.zoom_tcp.specs.declared.service.ServeError.TheVariants as errors

-- A new target that has these holdings answered a client, as `answer` does with at most 1,000,000 reads. The client's
-- devices before and after; they may have failed. Memory was found.
pub record IsAnswered (holdings : Holdings) (source left sink held : DeviceState) : Type 0 where
  pub result : Result (Unit {0}) AnswerError
  pub host : HostState
  pub exchange : ExchangeResult holdings [] 1000000 result host source left sink held
  pub end : IsExchangeEnd result host source left sink held
  pub memory : result ≡ Err answers.Memory → ⊥

-- No memory was found for a client: before anything was read or written, or as `answer` says.
abbrev pub IsStarved : Holdings → DeviceState → DeviceState → DeviceState → DeviceState → Type 0
IsStarved holdings source left sink held =
    ((left ≡ source) × (held ≡ sink))
    ⊎ ((host : HostState) × ExchangeResult holdings [] 1000000 (Err answers.Memory) host source left sink held
    × IsExchangeEnd (Err answers.Memory) host source left sink held)

-- How clients arrive and leave, what their devices have, and what the target has.
module _ {K R W : Type 0} (IsArrival : K → Arrival R W → K → Type 0) (IsDeparture : K → R → W → K → Type 0)
    (octets : R → DeviceState) (written : W → DeviceState) (holdings : Holdings) where
  -- The next client arrived, was answered, and left with its devices as the answer left them; or it was gone before.
  pub data IsNextServed (first last : K) : Type 0 where
    answered : {source left : R} {sink held : W} (arrived : K) → IsArrival first (Client source sink) arrived
        → IsAnswered holdings (octets source) (octets left) (written sink) (written held)
        → IsDeparture arrived left held last → IsNextServed first last
    was_gone : IsArrival first Gone last → IsNextServed first last

  -- So many clients were served, each after the one before it had left.
  pub data AreServed (first : K) : ℕ → K → Type 0 where
    nobody : AreServed first 0 first
    one_more : {n : ℕ} {before last : K} → AreServed first n before → IsNextServed before last
        → AreServed first (n + 1) last

  -- After serving the next client. `Listen`: none can be taken. `Memory`: it arrived, and no memory was found for it.
  abbrev pub AfterServeNext : Result (Unit {0}) ServeError → K → K → Type 0
  AfterServeNext (Ok _) old new = IsNextServed old new
  AfterServeNext (Err errors.Listen) old new = IsArrival old NoClient new
  AfterServeNext (Err errors.Memory) old new =
      (source left : R) × (sink held : W) × IsArrival old (Client source sink) new
      × IsStarved holdings (octets source) (octets left) (written sink) (written held)

  -- After serving `count` clients: each was served, or those before the one that was refused.
  abbrev pub AfterServe : ℕ → Result (Unit {0}) ServeError → K → K → Type 0
  AfterServe count (Ok _) old new = AreServed old count new
  AfterServe count (Err error) old new =
      (n : ℕ) × (before : K) × (n < count) × AreServed old n before × AfterServeNext (Err error) before new

-- After serving `count` clients of a listener over TCP, by a clock of type C, with streams of type S: each was served,
-- or those before the one that was refused.
abbrev pub AfterServeAt : (C L S : Type 0) → L → Holdings → ℕ → Result (Unit {0}) ServeError → Type 0
AfterServeAt C L S listener holdings count result = (first last : TcpClients C L) × (first.listener.now ≡ listener)
    × AfterServe IsTcpArrival IsTcpDeparture (λ (source : Counting (Timed C S)). tcp_state source) tcp_state holdings
    count result first last
