-- Whether the present peer was dialed, and whether its connection broke.
use Rattle.std.specs.Prelude.{Bool, true, false, None, Some}
use Rattle.ld_real.specs.declared.tcp.Peer.{Peer}
use Rattle.ld_real.specs.declared.tcp.Peer.TheVariants as peers

abbrev pub is_dialed : Peer → Bool
is_dialed (peers.Dialed stream) = true
is_dialed _ = false

-- nobody took the call, or the connection broke
abbrev pub is_broken : Peer → Bool
is_broken (peers.Dialed None) = true
is_broken (peers.Dialed (Some stream)) = false
is_broken _ = false
