-- The format of packets of ARP: what is read in their texts, and what was read.
use Rattle.std.proofs.Common.{◌≡◌, ℕ, ◌<◌, ◌^◌, Bool, true, false, List, [], length, refl, sym, ap, ◌∙◌, arith}
use Rattle.byteorder.specs.Numbers.{big_number-reads_back}
use Rattle.wirebase.specs.Bytes.{IsBytes, part, over, number_of}
use Rattle.wirebase.specs.ByteWriter.{be8, be16, fields}
use Rattle.wirebase.specs.Ethernet.{Ethernet}
use Rattle.wirebase.specs.Format.{Rewrites}
use Rattle.wirebase.specs.Numbered.{IsProper}
use Rattle.wirebase.specs.declared.ipv4.Ipv4Address.{Ipv4Address}
use Rattle.wirebase.proofs.ByteParts.{number_of-small}
use Rattle.wirebase.proofs.Format.{IsFormat, round_trips}
use Rattle.wirebase.proofs.Ipv4Header.{same_address}
use Rattle.wirebase.proofs.Numbered.{case_in-unnamed, case-read}
use Rattle.wirebase.proofs.Pieces.{over-exact}
use Rattle.header_wire.specs.Arp.{Value, text_len, text, operation_field, Says, IsPacket, IsCanonical, format, Emits}
use Rattle.header_wire.specs.ArpTables.{operation_number, operations, operation_rows, operation_of}
use Rattle.header_wire.specs.declared.arp.tables.Operation.{Operation}
use Rattle.header_wire.proofs.Hardware.{same_hardware}

-- ---- operations

operation_of-number : (o : Operation) → IsProper Operation.Unknown operation_rows o
    → operation_of (operation_number o) ≡ o
operation_of-number (Operation.Unknown n) proper = case_in-unnamed Operation.Unknown operation_rows n (proper n refl)
operation_of-number _ proper = refl

is_unknown : Operation → Bool
is_unknown (Operation.Unknown n) = true
is_unknown _ = false

-- an operation that was read from a number is a proper one, of this number
operation-read : {o : Operation} (n : ℕ) → o ≡ operation_of n
    → IsProper Operation.Unknown operation_rows o × (operation_number o ≡ n)
unfolding is_unknown
operation-read n is =
    case-read operation_number Operation.Unknown (λ k. refl) is_unknown (λ k. refl) operations n refl is

-- ---- reading what was written

length-text : (v : Value) → length (text v) ≡ text_len
unfolding fields be8 be16
length-text v = refl

packet_read : (v : Value) → IsCanonical v → IsPacket (text v) v
unfolding fields be8 be16 part
packet_read v c =
    let number = big_number-reads_back 2 (operation_number v.operation) [] c.number in
    record {
      passes = (omega arith, (refl, (refl, (refl, (refl, tt)))));
      says = record {
        operation = sym (ap operation_of number ∙ operation_of-number v.operation c.operation);
        source_hardware_addr = refl;
        source_protocol_addr = refl;
        target_hardware_addr = refl;
        target_protocol_addr = refl;
      };
    }

-- ---- what was read

abbrev value : Operation → Ethernet → Ipv4Address → Ethernet → Ipv4Address → Value
value operation hardware source target_hardware target = record {
  operation = operation;
  source_hardware_addr = hardware;
  source_protocol_addr = source;
  target_hardware_addr = target_hardware;
  target_protocol_addr = target;
}

says-one : (bytes : List ℕ) (v w : Value) → Says bytes v → Says bytes w → v ≡ w
says-one bytes v w a b =
    let operation = a.operation ∙ sym b.operation in
    let hardware =
    same_hardware v.source_hardware_addr w.source_hardware_addr (a.source_hardware_addr ∙ sym b.source_hardware_addr) in
    let source =
    same_address v.source_protocol_addr w.source_protocol_addr (a.source_protocol_addr ∙ sym b.source_protocol_addr) in
    let target_hardware =
    same_hardware v.target_hardware_addr w.target_hardware_addr (a.target_hardware_addr ∙ sym b.target_hardware_addr) in
    let target =
    same_address v.target_protocol_addr w.target_protocol_addr (a.target_protocol_addr ∙ sym b.target_protocol_addr) in
    let same : value v.operation v.source_hardware_addr v.source_protocol_addr v.target_hardware_addr
    v.target_protocol_addr ≡ value w.operation w.source_hardware_addr w.source_protocol_addr w.target_hardware_addr
    w.target_protocol_addr =
    rw (operation, hardware, source, target_hardware, target) refl in
    same

accepted : (bytes : List ℕ) (v : Value) → IsBytes bytes → IsPacket bytes v → IsCanonical v
accepted bytes v are m =
    let read = operation-read (number_of operation_field bytes) m.says.operation in
    let small : number_of operation_field bytes < 2 ^ 16 = number_of-small 6 8 bytes refl are in
    record { operation = read.0; number = omega (arith, read.1, small) }

-- ---- the format

pub packet_format : IsFormat format
packet_format = record {
  one_value = λ bytes v w a b. says-one bytes v w a.says b.says;
  reads_back = λ v fills c. packet_read v c;
  norm_canonical = λ v c. c;
  norm_norm = λ v. refl;
  norm_text = λ v c regular. refl;
  accepted = λ bytes v are few m. accepted bytes v are m;
  regular = λ bytes v m e. e;
  kept = λ bytes v are c m uncut. refl;
}

-- what was read can be written, whatever its length
pub packet_rewrites : (bytes : List ℕ) (v : Value) → IsBytes bytes → IsPacket bytes v → Rewrites format v
packet_rewrites bytes v are m = record {
  canonical = accepted bytes v are m;
  regular = λ e. e;
  reads_back = λ fills. packet_read v (accepted bytes v are m);
  same_text = refl;
  same_value = λ uncut. refl;
}

-- what is left where a packet was written
pub packet_emits : (v : Value) (old new : List ℕ) → new ≡ over old (text v) → Emits v old new
packet_emits v old new e = record {
  written = e;
  exact = λ whole. e ∙ over-exact old (text v) (whole ∙ sym (length-text v));
  round_trips = round_trips format packet_format v;
}
