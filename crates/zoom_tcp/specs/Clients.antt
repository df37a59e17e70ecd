-- Clients that arrive one after the other.
use Rattle.std.specs.Prelude.{◌≡◌, ℕ, None}
use Rattle.zoom_devices.specs.Devices.{DeviceState}
use Rattle.zoom_io.specs.Counting.{Counting}
use Rattle.zoom_tcp.specs.declared.clients.TcpClients.{TcpClients}
use Rattle.zoom_tcp.specs.declared.link.Timed.{Timed}
use Rattle.zoom_tcp.specs.declared.clients.Arrival.{Arrival}
use Rattle.zoom_tcp.specs.declared.clients.Arrival.TheVariants.{Client, Gone, NoClient}

-- No call of a client's devices has failed yet.
abbrev pub IsFreshArrival : {R W : Type 0} → (R → ℕ) → (W → ℕ) → Arrival R W → Type 0
IsFreshArrival source sink (Client reader writer) = (source reader ≡ 0) × (sink writer ≡ 0)
IsFreshArrival source sink Gone = Unit {0}
IsFreshArrival source sink NoClient = Unit {0}

-- A device of a client over TCP. The octets of a stream are not known.
abbrev pub tcp_state : {C S : Type 0} → Counting (Timed C S) → DeviceState
tcp_state d = record { octets = None; failures = d.failures }

-- Waiting at a listener brought this. The next client is waited for at the same one.
abbrev pub IsTcpArrival
    : {C L S : Type 0} → TcpClients C L → Arrival (Counting (Timed C S)) (Counting (Timed C S)) → TcpClients C L
    → Type 0
IsTcpArrival old arrival new = (new ≡ old) × IsFreshArrival (λ d. d.failures) (λ d. d.failures) arrival

-- A client left. The next one is waited for at the same listener.
abbrev pub IsTcpDeparture
    : {C L S : Type 0} → TcpClients C L → Counting (Timed C S) → Counting (Timed C S) → TcpClients C L → Type 0
IsTcpDeparture old source sink new = new ≡ old
