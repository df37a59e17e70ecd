-- Which addresses of hosts are used: all, or those of IPv4 or of IPv6 alone.
use Rattle.std.specs.Prelude.{◌≡◌, Bool, true, List}
use Rattle.std.specs.List.{list_all}
use Rattle.std.specs.declared.net.socket_addr.SocketAddr.{SocketAddr}
use Rattle.std.specs.Net.Addr.{is_ipv4, is_ipv6}
use Rattle.std.specs.Net.Socket.{socket_ip}
use Rattle.zoom_tcp.specs.declared.limits.Family.{Family}
use Rattle.zoom_tcp.specs.declared.limits.Family.TheVariants as families

-- the address is used
abbrev pub is_used : Family → SocketAddr → Bool
is_used families.Any address = true
is_used families.V4 address = is_ipv4 (socket_ip address)
is_used families.V6 address = is_ipv6 (socket_ip address)

-- each of the addresses is used
abbrev pub AreUsed : Family → List SocketAddr → Type 0
AreUsed family addresses = list_all (is_used family) addresses ≡ true
