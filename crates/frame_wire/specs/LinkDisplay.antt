-- What links, frames and their refusals print.
use Rattle.std.specs.Prelude.{◌/◌, [], ◌∷◌, List, ℕ, codes, decimal, length}
use Rattle.frame_wire.specs.Words.{Link, Network, pieces}
use Rattle.frame_wire.specs.Link.{FrameValue}
use Rattle.frame_wire.specs.declared.link.refusal.Refusal.{Refusal}

-- a link by its name in the registry of link types, without LINKTYPE_
abbrev pub link_display : Link → List ℕ
link_display Link.Null = codes "NULL"
link_display Link.Ethernet = codes "ETHERNET"
link_display Link.Ppp = codes "PPP"
link_display Link.PppEther = codes "PPP_ETHER"
link_display Link.Raw = codes "RAW"
link_display Link.LinuxSll = codes "LINUX_SLL"
link_display Link.LinuxSll2 = codes "LINUX_SLL2"
link_display Link.CHdlc = codes "C_HDLC"
link_display Link.FrameRelay = codes "FRELAY"
link_display Link.Ipnet = codes "IPNET"
link_display Link.Nflog = codes "NFLOG"
link_display Link.Ipoib = codes "IPOIB"

abbrev pub network_display : Network → List ℕ
network_display Network.Ipv4 = codes "IPv4"
network_display Network.Ipv6 = codes "IPv6"
network_display (Network.Other n) = decimal n

-- a frame by its network, its VLAN tags and the bytes of its payload
abbrev pub frame_display : FrameValue → List ℕ
frame_display f =
    pieces (network_display f.network ∷ codes " vlans=" ∷ decimal (length f.tags / 4)
    ∷ codes " len=" ∷ decimal (length f.payload) ∷ [])

abbrev pub refusal_display : Refusal → List ℕ
refusal_display Refusal.Short = codes "fewer bytes than the header of the link has"
refusal_display Refusal.Tag = codes "a VLAN tag is cut short"
refusal_display Refusal.Protocol = codes "the PPP protocol is cut short"
refusal_display (Refusal.SessionVersion n) = pieces (codes "PPPoE version " ∷ decimal n ∷ codes " is not read" ∷ [])
refusal_display (Refusal.SessionType n) = pieces (codes "PPPoE type " ∷ decimal n ∷ codes " is not read" ∷ [])
refusal_display (Refusal.SessionCode n) = pieces (codes "PPPoE code " ∷ decimal n ∷ codes " is not read" ∷ [])
refusal_display Refusal.FrameRelayAddress = codes "the frame relay address has the wrong length"
refusal_display (Refusal.FrameRelayControl n) =
    pieces (codes "frame relay control " ∷ decimal n ∷ codes " is not read" ∷ [])
refusal_display (Refusal.NflogVersion n) = pieces (codes "NFLOG version " ∷ decimal n ∷ codes " is not read" ∷ [])
refusal_display (Refusal.NflogLen n) =
    pieces (codes "NFLOG attribute length " ∷ decimal n ∷ codes " is below 4" ∷ [])
