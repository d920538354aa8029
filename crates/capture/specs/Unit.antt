-- Records and blocks by their heads, and what is read of them.
use Rattle.std.specs.Prelude.{◌≡◌, ◌≢◌, ℕ, ◌+◌, ◌<◌, ◌≤◌, List, [], length, ⊤}
use Rattle.capture.specs.Capture.{most_octets}
use Rattle.capture.specs.Pcap.{record_header_len, IsRecordHeader}
use Rattle.capture.specs.Pcapng.{IsHead, HeadEnds, IsRead}
use Rattle.capture.specs.Types.{Ending, Order, RecordHeader, Head}

-- a kind of head: which bytes are a head, what ends a capture that goes on without one, the length in bytes of a record
-- or block, the length of its head, and which ones are read
pub record Form (H : Type 0) : Type 1 where
  pub IsHead : Order → List ℕ → H → Type 0
  pub HeadEnds : Order → List ℕ → Ending → Type 0
  pub unit_len : H → ℕ
  pub IsRead : H → Type 0

-- what ends a capture that goes on with these bytes, and so with no record whose header is of use
abbrev pub RecordHeadEnds : Order → List ℕ → Ending → Type 0
RecordHeadEnds order bytes Ending.Whole = bytes ≡ []
RecordHeadEnds order bytes Ending.Cut = (bytes ≢ []) × (length bytes < record_header_len)
RecordHeadEnds order bytes Ending.TooLarge =
    (r : RecordHeader) × IsRecordHeader order bytes r × (most_octets < r.captured_len)
RecordHeadEnds order bytes _ = ⊥

abbrev pub record_form : Form RecordHeader
record_form = record {
  IsHead = λ order bytes r. IsRecordHeader order bytes r × (r.captured_len ≤ most_octets);
  HeadEnds = RecordHeadEnds;
  unit_len = λ r. record_header_len + r.captured_len;
  IsRead = λ r. ⊤;
}

abbrev pub block_form : Form Head
block_form = record {
  IsHead = IsHead;
  HeadEnds = HeadEnds;
  unit_len = λ h. h.total_len;
  IsRead = λ h. IsRead h.kind;
}
