-- Why octets are refused as a UDP datagram: the check that fails first.
use Rattle.std.specs.Prelude.{◌≡◌, ◌≢◌, ◌<◌, ◌≤◌, [], ◌∷◌, List, ℕ, codes, decimal, length, true}
use Rattle.frame_wire.specs.Words.{Addresses, ChecksumCapabilities, UdpRepr, is_verified, number_of, pieces}
use Rattle.frame_wire.specs.Addresses.{IsV4}
use Rattle.frame_wire.specs.Udp.{BeginsWhole, IsVerified, IsDatagram, end_in, dst_port_field, checksum_field}
use Rattle.frame_wire.specs.declared.udp.Refusal.{Refusal}

-- the bytes are read
abbrev pub IsRead : ChecksumCapabilities → Addresses → List ℕ → Type 0
IsRead capabilities addresses bytes = (r : UdpRepr) × IsDatagram capabilities addresses bytes r

-- the bytes don't begin with a whole datagram
abbrev pub RefusesLen : List ℕ → Refusal → Type 0
RefusesLen bytes Refusal.Short = length bytes < 8
RefusesLen bytes (Refusal.Length n) = (8 ≤ length bytes) × (end_in bytes ≡ n) × (n < 8)
RefusesLen bytes (Refusal.Cut n) = (8 ≤ length bytes) × (end_in bytes ≡ n) × (8 ≤ n) × (length bytes < n)
RefusesLen bytes _ = ⊥

-- a whole datagram to some port, whose checksum is to be verified
pub record IsChecked (capabilities : ChecksumCapabilities) (bytes : List ℕ) : Type 0 where
  pub whole : BeginsWhole bytes
  pub port : number_of dst_port_field bytes ≢ 0
  pub verified : is_verified capabilities.udp ≡ true

-- the refusal of bytes that are not read
abbrev pub Refuses : ChecksumCapabilities → Addresses → List ℕ → Refusal → Type 0
Refuses capabilities addresses bytes Refusal.Port = BeginsWhole bytes × (number_of dst_port_field bytes ≡ 0)
Refuses capabilities addresses bytes Refusal.NoChecksum =
    IsChecked capabilities bytes × (number_of checksum_field bytes ≡ 0) × (IsV4 addresses → ⊥)
Refuses capabilities addresses bytes Refusal.Checksum =
    IsChecked capabilities bytes × (number_of checksum_field bytes ≢ 0) × (IsVerified addresses bytes → ⊥)
Refuses capabilities addresses bytes refusal = RefusesLen bytes refusal

abbrev pub refusal_display : Refusal → List ℕ
refusal_display Refusal.Short = codes "fewer than 8 bytes"
refusal_display (Refusal.Length n) = pieces (codes "a length of " ∷ decimal n ∷ codes " is below 8" ∷ [])
refusal_display (Refusal.Cut n) = pieces (codes "fewer than its " ∷ decimal n ∷ codes " bytes" ∷ [])
refusal_display Refusal.Port = codes "the destination port is 0"
refusal_display Refusal.NoChecksum = codes "no checksum over IPv6"
refusal_display Refusal.Checksum = codes "the checksum does not hold"

-- what the ports of a datagram print
abbrev pub repr_display : UdpRepr → List ℕ
repr_display r = pieces (codes "UDP src=" ∷ decimal r.src_port ∷ codes " dst=" ∷ decimal r.dst_port ∷ [])
