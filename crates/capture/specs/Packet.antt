-- The packets that a capture holds.
use Rattle.std.specs.Prelude.{ℕ, ◌+◌, ◌<◌, ◌≤◌, List, length, Option, IfSome}
use Rattle.std.specs.Option.{option_map}
use Rattle.wirebase.specs.Bytes.{part}
use Rattle.capture.specs.Time.{TimeValue, value_of}
use Rattle.capture.specs.Types.{Packet}

-- a packet by its content; a simple packet of a pcapng file has no time
pub record PacketValue : Type 0 where
  pub time : Option TimeValue
  pub link_type : ℕ
  pub original_len : ℕ
  pub octets : List ℕ

-- the packet at a place in the bytes of a record or a block
abbrev pub packet_in : Packet → List ℕ → PacketValue
packet_in p bytes = record {
  time = option_map value_of p.time;
  link_type = p.link_type;
  original_len = p.original_len;
  octets = part bytes p.start (p.start + p.captured_len);
}

-- it is within the bytes, and its time, where it has one, is in order
pub record IsPlace (p : Packet) (bytes : List ℕ) : Type 0 where
  pub within : p.start + p.captured_len ≤ length bytes
  pub nanoseconds : IfSome p.time (λ t. t.nanoseconds < 1000000000)
