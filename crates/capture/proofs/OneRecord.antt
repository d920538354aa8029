-- The header of a pcap file and its records: the same bytes have at most one, and what ends a file excludes a record.
use Rattle.std.proofs.Common.{◌≡◌, ℕ, ◌+◌, ◌*◌, ◌%◌, ◌≤◌, ◌==◌, List, ◌++◌, length, take, Some, refl, ap, sym, subst}
use Rattle.std.proofs.Common.{◌∙◌, if◌then◌else◌, arith, length-append}
use Rattle.std.proofs.lemmas.List.{take_all, take-append-le}
use Rattle.wirebase.specs.Bytes.{part}
use Rattle.capture.specs.Order.{number_in}
use Rattle.capture.specs.Packet.{PacketValue}
use Rattle.capture.specs.Pcap as pcap
use Rattle.capture.specs.Pcap.{magic_of, IsFileHeader, record_header_len, IsRecordHeader, IsRecord, RecordEnds}
use Rattle.capture.specs.Time.{TimeValue, time_value, fraction_of, digits_in}
use Rattle.capture.specs.Types.{Ending, FileHeader, Order, Precision, RecordHeader}

-- ---- the bytes that begin others

-- the first bytes of the front are those of the whole
pub front_take : (n : ℕ) (bytes front rest : List ℕ) → bytes ≡ front ++ rest → n ≤ length front
    → take n bytes ≡ take n front
front_take n bytes front rest split fits = ap (take n) split ∙ take-append-le n front rest fits

pub front_is : (n : ℕ) (bytes front rest : List ℕ) → bytes ≡ front ++ rest → length front ≡ n → take n bytes ≡ front
front_is n bytes front rest split long =
    front_take n bytes front rest split (omega (arith, long)) ∙ take_all n front (omega (arith, long))

-- ---- pcap files

abbrev told_by : ℕ → Order × Precision
told_by n =
    if n == 0xa1b2c3d4 then (Order.Big, Precision.Micro)
    else if n == 0xa1b23c4d then (Order.Big, Precision.Nano)
    else if n == 0xd4c3b2a1 then (Order.Little, Precision.Micro)
    else (Order.Little, Precision.Nano)

told_by-magic : (order : Order) (precision : Precision)
    → ◌≡◌ {A = Order × Precision} (told_by (magic_of order precision)) (order, precision)
told_by-magic Order.Big Precision.Micro = refl
told_by-magic Order.Big Precision.Nano = refl
told_by-magic Order.Little Precision.Micro = refl
told_by-magic Order.Little Precision.Nano = refl

one_magic : (n : ℕ) (a b : Order) (p q : Precision) → n ≡ magic_of a p → n ≡ magic_of b q
    → (a ≡ b) × (p ≡ q)
one_magic n a b p q e f =
    let one = sym (told_by-magic a p) ∙ ap told_by (sym e ∙ f) ∙ told_by-magic b q in
    (ap (λ t. t.0) one, ap (λ t. t.1) one)

pub one_file_header : (bytes : List ℕ) (h k : FileHeader) → IsFileHeader bytes h → IsFileHeader bytes k → h ≡ k
one_file_header bytes h k is is' =
    let told = one_magic _ h.order k.order h.precision k.precision is.magic.magic is'.magic.magic in
    let order : h.order ≡ k.order = told.0 in
    let precision : h.precision ≡ k.precision = told.1 in
    let link : h.link_type ≡ k.link_type =
    is.link_type ∙ ap (λ o. number_in o pcap.link_type_field bytes % 65536) order ∙ sym is'.link_type in
    rw (order, precision, link) refl

one_record_header : (order : Order) (bytes : List ℕ) (r s : RecordHeader) → IsRecordHeader order bytes r
    → IsRecordHeader order bytes s → r ≡ s
one_record_header order bytes r s is is' =
    let seconds : r.seconds ≡ s.seconds = is.seconds ∙ sym is'.seconds in
    let fraction : r.fraction ≡ s.fraction = is.fraction ∙ sym is'.fraction in
    let captured : r.captured_len ≡ s.captured_len = is.captured_len ∙ sym is'.captured_len in
    let original : r.original_len ≡ s.original_len = is.original_len ∙ sym is'.original_len in
    rw (seconds, fraction, captured, original) refl

abbrev record_time : FileHeader → RecordHeader → TimeValue
record_time h r = time_value (r.seconds * 1000000000 + fraction_of h.precision r.fraction) (digits_in h.precision)

pub one_record : (most : ℕ) (h : FileHeader) (bytes : List ℕ) (p q : PacketValue) → IsRecord most h bytes p
    → IsRecord most h bytes q → p ≡ q
one_record most h bytes p q is is' =
    let head = one_record_header h.order (take record_header_len bytes) is.head is'.head is.is_head is'.is_head in
    let time : p.time ≡ q.time = is.time_is ∙ ap (λ r. Some (record_time h r)) head ∙ sym is'.time_is in
    let link : p.link_type ≡ q.link_type = is.link_type ∙ sym is'.link_type in
    let original : p.original_len ≡ q.original_len =
    is.original_len ∙ ap (λ r. r.original_len) head ∙ sym is'.original_len in
    let octets : p.octets ≡ q.octets =
    is.octets ∙ ap (λ r. part bytes 16 (16 + r.captured_len)) head ∙ sym is'.octets in
    rw (time, link, original, octets) refl

record_long : (most : ℕ) (h : FileHeader) (bytes : List ℕ) (p : PacketValue) → IsRecord most h bytes p
    → 16 ≤ length bytes
record_long most h bytes p is = omega (arith, is.whole)

-- the header of a record, from the bytes that it begins
module _ (most : ℕ) (h : FileHeader) (bytes front rest : List ℕ) (p : PacketValue) (split : bytes ≡ front ++ rest)
    (is : IsRecord most h front p) where
  record_begins : IsRecordHeader h.order (take record_header_len bytes) is.head
  record_begins =
      subst (λ l. IsRecordHeader h.order l is.head)
      (sym (front_take record_header_len bytes front rest split (record_long most h front p is))) is.is_head

  record_front : take (16 + is.head.captured_len) bytes ≡ front
  record_front = front_is (16 + is.head.captured_len) bytes front rest split is.whole

  pub no_record_ends : (ending : Ending) → RecordEnds most h bytes ending → ⊥
  no_record_ends ending (pcap.ends_whole none) =
      omega (arith, ap length (sym none ∙ split), length-append front rest, is.whole)
  no_record_ends ending (pcap.head_cut some short) =
      omega (arith, short, ap length split, length-append front rest, is.whole)
  no_record_ends ending (pcap.cut r is' few short) =
      let same = one_record_header h.order (take record_header_len bytes) is.head r record_begins is' in
      omega (arith, short, ap length split, length-append front rest, is.whole, ap (λ r. r.captured_len) same)
  no_record_ends ending (pcap.large r is' much) =
      let same = one_record_header h.order (take record_header_len bytes) is.head r record_begins is' in
      omega (arith, much, is.few, ap (λ r. r.captured_len) same)

pub one_record_front : (most : ℕ) (h : FileHeader) (bytes f r g s : List ℕ) (p q : PacketValue) → bytes ≡ f ++ r
    → bytes ≡ g ++ s → IsRecord most h f p → IsRecord most h g q → f ≡ g
one_record_front most h bytes f r g s p q e e' is is' =
    let same =
    one_record_header h.order (take record_header_len bytes) is.head is'.head (record_begins most h bytes f r p e is)
    (record_begins most h bytes g s q e' is') in
    sym (record_front most h bytes f r p e is) ∙ ap (λ r. take (16 + r.captured_len) bytes) same
    ∙ record_front most h bytes g s q e' is'
