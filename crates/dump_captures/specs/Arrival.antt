-- Packets as they arrive.
use Rattle.std.specs.Prelude.{◌^◌, List, None, Option, Some, if◌then◌else◌, nat_lt, ℕ}
use Rattle.std.specs.Option.{option_and_then, option_map}
use Rattle.capture.specs.Capture.{packet_of}
use Rattle.capture.specs.Packet.{PacketValue}
use Rattle.capture.specs.Time.{TimeValue}
use Rattle.dump_captures.specs.Moments.{when_text}
use Rattle.dump_captures.specs.declared.arrival.Arrival.{Arrival}

-- the name of the file of a packet, where it is to be told, its number, the text of its time, where it has one, and
-- what the capture holds of it
pub record ArrivalValue : Type 0 where
  pub file : Option (List ℕ)
  pub number : ℕ
  pub time : Option (List ℕ)
  pub packet : PacketValue

abbrev pub arrival : Option (List ℕ) → ℕ → Option (List ℕ) → PacketValue → ArrivalValue
arrival file number time packet = record { file = file; number = number; time = time; packet = packet }

abbrev pub arrival_of : Arrival → ArrivalValue
arrival_of a =
    arrival (option_map (λ name. name.now) a.file) a.record.now.number (option_map when_text a.when)
    (packet_of a.record.now a.octets.now)

-- a number of nanoseconds that 64 bits hold
abbrev pub if_held : ℕ → Option ℕ
if_held nanoseconds = if nat_lt nanoseconds (2 ^ 64) then Some nanoseconds else None

-- the time of a packet, where it has one that 64 bits hold
abbrev pub moment_in : Option TimeValue → Option ℕ
moment_in time = option_and_then (λ t. if_held t.nanoseconds) time
