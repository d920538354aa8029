-- UDP datagrams as far as they were captured: whole, or cut at their end.
use Rattle.std.specs.Prelude.{◌≡◌, ◌≢◌, ◌+◌, ◌≤◌, [], ◌∷◌, List, ℕ, codes, decimal, drop, length}
use Rattle.frame_wire.specs.Words.{Extent, bytes_of, number_of, pieces}
use Rattle.frame_wire.specs.DatagramDisplay.{extent_display}
use Rattle.frame_wire.specs.Udp.{BeginsWhole, src_port_field, dst_port_field, end_in, payload_field}
use Rattle.frame_wire.specs.UdpRefusal.{RefusesLen}
use Rattle.frame_wire.specs.declared.udp.Refusal.{Refusal}
use Rattle.frame_wire.specs.declared.udp.captured.CapturedUdp.{CapturedUdp}

-- by content
pub record CapturedValue : Type 0 where
  pub src_port : ℕ
  pub dst_port : ℕ
  pub payload : List ℕ
  pub extent : Extent

abbrev pub captured_of : CapturedUdp → CapturedValue
captured_of c =
    record { src_port = c.src_port; dst_port = c.dst_port; payload = c.payload.now; extent = c.extent }

-- the ports are those of the header
pub record HasPorts (bytes : List ℕ) (v : CapturedValue) : Type 0 where
  pub source : v.src_port ≡ number_of src_port_field bytes
  pub destination : v.dst_port ≡ number_of dst_port_field bytes

-- the bytes begin with a header whose length counts it
pub record HasHeader (bytes : List ℕ) : Type 0 where
  pub fixed : 8 ≤ length bytes
  pub order : 8 ≤ end_in bytes

-- The grammar: a whole datagram, or one that lacks some bytes at its end, by its own length.
pub data IsCaptured (bytes : List ℕ) (v : CapturedValue) : Type 0 where
  whole : BeginsWhole bytes → HasPorts bytes v → v.payload ≡ bytes_of (payload_field bytes) bytes
      → v.extent ≡ Extent.Whole → IsCaptured bytes v
  cut : (missing : ℕ) → HasHeader bytes → length bytes + missing ≡ end_in bytes → missing ≢ 0 → HasPorts bytes v
      → v.payload ≡ drop 8 bytes → v.extent ≡ Extent.Cut missing → IsCaptured bytes v

-- the refusal of other bytes: the header is cut, or its length does not count it
abbrev pub RefusesCaptured : List ℕ → Refusal → Type 0
RefusesCaptured bytes Refusal.Short = RefusesLen bytes Refusal.Short
RefusesCaptured bytes (Refusal.Length n) = RefusesLen bytes (Refusal.Length n)
RefusesCaptured bytes _ = ⊥

abbrev pub captured_display : CapturedValue → List ℕ
captured_display c =
    pieces (codes "UDP src=" ∷ decimal c.src_port ∷ codes " dst=" ∷ decimal c.dst_port
    ∷ codes " len=" ∷ decimal (length c.payload)
    ∷ codes " " ∷ extent_display c.extent ∷ [])
