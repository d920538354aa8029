-- What a host that is a member of multicast groups over IPv4 sends, and when.
use Rattle.std.specs.Prelude.{◌≡◌, ◌⊎◌, ℕ, List, [], ◌∷◌}
use Rattle.control_wire.specs.Checksum.{IsGood}
use Rattle.control_wire.specs.Duration.{of_micros}
use Rattle.control_wire.specs.DurationType.{Duration}
use Rattle.control_wire.specs.Ipv4.{octets_of}
use Rattle.control_wire.specs.Ipv4AddressType.{Ipv4Address}
use Rattle.control_wire.specs.Igmp.{IsMessage}
use Rattle.control_wire.specs.IgmpVersionType.{IgmpVersion}
use Rattle.control_wire.specs.IgmpVersionType.TheVariants.{Version1, Version2}
use Rattle.control_wire.specs.IgmpReprType.{Repr}
use Rattle.control_wire.specs.IgmpReprType.TheVariants.{MembershipQuery}

-- a message with a good checksum
abbrev pub IsGoodMessage : List ℕ → Repr → Type 0
IsGoodMessage bytes message = IsGood bytes 0 × IsMessage bytes message

-- a query asks for a group: for this one, or for all of them by 0.0.0.0 (RFC 2236 section 2.4)
abbrev pub AsksFor : Ipv4Address → Ipv4Address → Type 0
AsksFor asked group = (asked ≡ group) ⊎ (octets_of asked ≡ 0 ∷ 0 ∷ 0 ∷ 0 ∷ [])

-- the time within which a query is answered: the one that it says; 10 s where it is of version 1, which says none (RFC
-- 2236 section 4)
abbrev pub answer_time : Duration → IgmpVersion → Duration
answer_time said Version1 = of_micros 10000000
answer_time said Version2 = said

-- a good query for a group, to be answered within this time
abbrev pub IsQueryFor : List ℕ → Ipv4Address → Duration → IgmpVersion → Type 0
IsQueryFor bytes group time version =
    (asked : Ipv4Address) × (said : Duration) × IsGoodMessage bytes (MembershipQuery said asked version)
    × AsksFor asked group × (time ≡ answer_time said version)
