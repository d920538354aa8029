-- How packets, headers and descriptions print: what they are, and then their fields by name.
use Rattle.std.specs.Prelude.{List, ℕ, [], ◌∷◌, Option, None, Some, codes, decimal}
use Rattle.std.specs.Fmt.{signed_decimal}
use Rattle.wirebase.specs.Display.{pieces}
use Rattle.capture.specs.Ending.{ending_text}
use Rattle.capture.specs.TimeText.{time_text}
use Rattle.capture.specs.Types.{Next, Record, Order, Packet, FileHeader, Precision, RecordHeader, Head, Interface, Time}

abbrev pub order_text : Order → List ℕ
order_text Order.Big = codes "big-endian"
order_text Order.Little = codes "little-endian"

abbrev pub precision_text : Precision → List ℕ
precision_text Precision.Micro = codes "microseconds"
precision_text Precision.Nano = codes "nanoseconds"

-- a time, where there is one
abbrev pub told_text : Option Time → List ℕ
told_text None = codes "none"
told_text (Some t) = time_text t

-- ---- packets

abbrev pub record_text : Record → List ℕ
record_text r =
    pieces (codes "record number=" ∷ decimal r.number ∷ codes " time=" ∷ told_text r.time
    ∷ codes " link_type=" ∷ decimal r.link_type ∷ codes " captured_len=" ∷ decimal r.captured_len
    ∷ codes " original_len=" ∷ decimal r.original_len ∷ [])

abbrev pub next_text : Next → List ℕ
next_text (Next.Record r) = record_text r
next_text (Next.Ended e) = ending_text e

abbrev pub packet_text : Packet → List ℕ
packet_text p =
    pieces (codes "packet time=" ∷ told_text p.time ∷ codes " link_type=" ∷ decimal p.link_type
    ∷ codes " original_len=" ∷ decimal p.original_len ∷ codes " start=" ∷ decimal p.start
    ∷ codes " captured_len=" ∷ decimal p.captured_len ∷ [])

-- ---- headers

abbrev pub file_header_text : FileHeader → List ℕ
file_header_text h =
    pieces (codes "pcap file order=" ∷ order_text h.order ∷ codes " precision=" ∷ precision_text h.precision
    ∷ codes " link_type=" ∷ decimal h.link_type ∷ [])

abbrev pub record_header_text : RecordHeader → List ℕ
record_header_text h =
    pieces (codes "record header seconds=" ∷ decimal h.seconds ∷ codes " fraction=" ∷ decimal h.fraction
    ∷ codes " captured_len=" ∷ decimal h.captured_len ∷ codes " original_len=" ∷ decimal h.original_len ∷ [])

abbrev pub head_text : Head → List ℕ
head_text h =
    pieces (codes "block order=" ∷ order_text h.order ∷ codes " kind=" ∷ decimal h.kind
    ∷ codes " total_len=" ∷ decimal h.total_len ∷ [])

abbrev pub interface_text : Interface → List ℕ
interface_text i =
    pieces (codes "interface link_type=" ∷ decimal i.link_type ∷ codes " snap_len=" ∷ decimal i.snap_len
    ∷ codes " resolution=" ∷ decimal i.resolution ∷ codes " offset=" ∷ signed_decimal i.offset ∷ [])
