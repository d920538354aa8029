-- What tunnels, the packets in them and the refusals of their headers print.
use Rattle.std.specs.Prelude.{[], ◌∷◌, List, ℕ, codes, decimal, length}
use Rattle.frame_wire.specs.Words.{pieces}
use Rattle.frame_wire.specs.LinkDisplay.{network_display}
use Rattle.frame_wire.specs.Tunnel.{InnerValue}
use Rattle.frame_wire.specs.declared.tunnel.Refusal.{Refusal}
use Rattle.frame_wire.specs.declared.tunnel.Tunnel.{Tunnel}

-- a tunnel by the name of its protocol in the registry of protocol numbers
abbrev pub tunnel_display : Tunnel → List ℕ
tunnel_display Tunnel.Ipv4 = codes "IPv4"
tunnel_display Tunnel.Ipv6 = codes "IPv6"
tunnel_display Tunnel.Gre = codes "GRE"

-- a packet by its tunnel, its network and its bytes
abbrev pub inner_display : InnerValue → List ℕ
inner_display i =
    pieces (codes "tunnel=" ∷ tunnel_display i.tunnel
    ∷ codes " network=" ∷ network_display i.network
    ∷ codes " len=" ∷ decimal (length i.payload) ∷ [])

abbrev pub refusal_display : Refusal → List ℕ
refusal_display Refusal.Short = codes "fewer than the 4 bytes of a GRE header"
refusal_display (Refusal.Version n) = pieces (codes "GRE version " ∷ decimal n ∷ codes " is not read" ∷ [])
refusal_display Refusal.Routing = codes "a GRE routing field is not read"
refusal_display Refusal.Reserved = codes "a reserved bit of GRE is set"
refusal_display (Refusal.Cut n) = pieces (codes "fewer than the " ∷ decimal n ∷ codes " bytes of the GRE header" ∷ [])
