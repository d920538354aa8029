-- The frames of links that have EtherTypes.
use Rattle.frame_wire.proofs.Words.{◌≡◌, List, true, ℕ}
use Rattle.frame_wire.specs.Link.{FrameValue, IsFrame, IsTyped, has_ether_types}
use Rattle.frame_wire.specs.declared.link.Link.{Link}

pub frames_typed : (link : Link) → has_ether_types link ≡ true → (bytes : List ℕ) (v : FrameValue)
    → IsFrame link bytes v → IsTyped v
frames_typed Link.Ethernet has bytes v is = (_, _, is.1)
frames_typed Link.LinuxSll has bytes v is = (_, _, is.1)
frames_typed Link.LinuxSll2 has bytes v is = (_, _, is.1)
frames_typed Link.CHdlc has bytes v is = (_, _, is.1)
frames_typed Link.Ipoib has bytes v is = (_, _, is.1)
frames_typed Link.Null has bytes v is = cc
frames_typed Link.Ppp has bytes v is = cc
frames_typed Link.PppEther has bytes v is = cc
frames_typed Link.Raw has bytes v is = cc
frames_typed Link.FrameRelay has bytes v is = cc
frames_typed Link.Ipnet has bytes v is = cc
frames_typed Link.Nflog has bytes v is = cc
