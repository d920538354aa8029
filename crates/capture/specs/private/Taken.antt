-- The results of the parts of the reader, other than their bytes.
use Rattle.std.specs.Prelude.{◌≡◌, ℕ, ◌<◌, ◌≤◌, ◌⊎◌, List, [], ◌∷◌, ◌++◌, length, take, Option, None, Some}
use Rattle.capture.specs.Capture.{most_octets, most_interfaces, State, state, state_of, IsBlock, BlockEnds, Refused}
use Rattle.capture.specs.Capture.{IsUnit, Ends}
use Rattle.capture.specs.Packet.{packet_in, IsPlace}
use Rattle.capture.specs.Pcap.{IsRecord, RecordEnds}
use Rattle.capture.specs.Pcapng.{head_len, least_interface, IsRead, IsHead, IsSection, SectionEnds, IsInterface}
use Rattle.capture.specs.Pcapng.{IsPacket, RefusesPacket}
use Rattle.capture.specs.Types.{Capture, Ending, Refusal, Packet, Stage, Step, Order, FileHeader, Head, Interface}

-- the bytes of a unit precede what is left
pub record Splits (all front : List ℕ) (left : Option (List ℕ)) : Type 0 where
  pub rest : List ℕ
  pub split : all ≡ front ++ rest
  pub left_is : left ≡ Some rest

-- of a packet that was read
abbrev pub IfPacket : Step → (Packet → Type 0) → Type 0
IfPacket Step.Passed P = Unit {0}
IfPacket (Step.Packet k) P = P k
IfPacket (Step.Ended ending) P = Unit {0}

-- the octets are a whole block, of a kind that is read
pub record IsWholeBlock (section : Order) (octets : List ℕ) (h : Head) : Type 0 where
  pub head : IsHead section (take head_len octets) h
  pub whole : length octets ≡ h.total_len
  pub read : IsRead h.kind

-- what a read leaves: the octets of the unit, how far the capture is read, and the bytes of the input that are left
pub record After : Type 0 where
  pub octets : List ℕ
  pub state : State
  pub left : Option (List ℕ)

abbrev pub after : Capture → Option (List ℕ) → After
after c left = record { octets = c.octets.items; state = state_of c; left = left }

-- the next record was read
abbrev pub RecordGives : FileHeader → List ℕ → Step → After → Type 0
RecordGives h all Step.Passed now = ⊥
RecordGives h all (Step.Packet k) now =
    Splits all now.octets now.left × IsRecord most_octets h now.octets (packet_in k now.octets)
RecordGives h all (Step.Ended ending) now = RecordEnds most_octets h all ending

-- a section header, an interface description or a packet was taken
abbrev pub SectionTakes : Order → List ℕ → Step → State → Type 0
SectionTakes order octets Step.Passed new = IsSection order octets × (new ≡ state (Stage.Section order) [])
SectionTakes order octets (Step.Packet k) new = ⊥
SectionTakes order octets (Step.Ended ending) new = SectionEnds order octets ending

abbrev pub InterfaceTakes : Order → State → List ℕ → Step → State → Type 0
InterfaceTakes order old octets Step.Passed new =
    (i : Interface) × IsInterface order octets i × (length old.interfaces < most_interfaces)
    × (new ≡ state old.stage (old.interfaces ++ (i ∷ [])))
InterfaceTakes order old octets (Step.Packet k) new = ⊥
InterfaceTakes order old octets (Step.Ended ending) new =
    ((length octets < least_interface) × (ending ≡ Ending.Malformed Refusal.Short))
    ⊎ ((i : Interface) × IsInterface order octets i × (most_interfaces ≤ length old.interfaces)
    × (ending ≡ Ending.TooManyInterfaces))

abbrev pub PacketTakes : Order → ℕ → List Interface → List ℕ → Step → Type 0
PacketTakes order kind interfaces octets Step.Passed = ⊥
PacketTakes order kind interfaces octets (Step.Packet k) =
    IsPacket order interfaces octets (packet_in k octets) kind × (k.captured_len ≤ most_octets) × IsPlace k octets
PacketTakes order kind interfaces octets (Step.Ended ending) =
    ((refusal : Refusal) × RefusesPacket order interfaces octets kind refusal × (ending ≡ Ending.Malformed refusal))
    ⊎ ((k : Packet) × IsPacket order interfaces octets (packet_in k octets) kind × (most_octets < k.captured_len)
    × IsPlace k octets × (ending ≡ Ending.TooLarge))

-- a whole block was taken
abbrev pub BlockTakes : Order → Head → List Interface → List ℕ → Step → State → Type 0
BlockTakes section h interfaces octets Step.Passed new = IsBlock section interfaces octets new None
BlockTakes section h interfaces octets (Step.Packet k) new =
    IsBlock section interfaces octets new (Some (packet_in k octets))
BlockTakes section h interfaces octets (Step.Ended ending) new = Refused h interfaces octets ending

-- the next block of a section was read
abbrev pub BlockGives : Order → List Interface → List ℕ → Step → After → Type 0
BlockGives section interfaces all Step.Passed now =
    (front : List ℕ) × Splits all front now.left × IsBlock section interfaces front now.state None
BlockGives section interfaces all (Step.Packet k) now =
    Splits all now.octets now.left
    × IsBlock section interfaces now.octets now.state (Some (packet_in k now.octets))
BlockGives section interfaces all (Step.Ended ending) now = BlockEnds section interfaces all ending

-- the next unit of a capture was read
abbrev pub StepGives : State → List ℕ → Step → After → Type 0
StepGives old all Step.Passed now = (front : List ℕ) × Splits all front now.left × IsUnit old front now.state None
StepGives old all (Step.Packet k) now =
    Splits all now.octets now.left × IsUnit old now.octets now.state (Some (packet_in k now.octets))
StepGives old all (Step.Ended ending) now = Ends old all ending
