-- The format of datagrams: a text is read back, what was read is canonical, and bytes have one value.
use Rattle.frame_wire.proofs.Words.{◌≡◌, ◌≢◌, ◌+◌, ◌-◌, ◌<◌, ◌≤◌, ◌^◌, [], ◌++◌, ◌∙◌, Addresses, BeginsWhole, Bool}
use Rattle.frame_wire.proofs.Words.{ChecksumCapabilities, HasChecksum, IpProtocol, IsGood, List, ℕ, ap}
use Rattle.frame_wire.proofs.Words.{append-nil, append_assoc, arith, big_bytes, bytes_of, checksum_field, drop, drop_at}
use Rattle.frame_wire.proofs.Words.{dst_port_field, end_in, false, format, if◌then◌else◌, inl, inr, is_verified, len_in, length}
use Rattle.frame_wire.proofs.Words.{length-append, number_of, part, payload_field, refl, sealed_datagram, splice}
use Rattle.frame_wire.proofs.Words.{src_port_field, subst, sum_before, sym, take, take_at, true, udp_checksum}
use Rattle.std.specs.Prelude.{◌==◌}
use Rattle.std.proofs.lemmas.Bool.{ne_eqb}
use Rattle.wirebase.specs.Bytes.{IsBytes, over}
use Rattle.wirebase.specs.ByteWriter.{be16, fields}
use Rattle.wirebase.specs.Capabilities.{is_computed}
use Rattle.wirebase.specs.Format.{SameText}
use Rattle.wirebase.specs.declared.capabilities.Checksum.{Checksum}
use Rattle.wirebase.proofs.ByteParts.{number_of-small}
use Rattle.wirebase.proofs.Format.{IsFormat, round_trips, same_text-by}
use Rattle.wirebase.proofs.Pieces.{over-fits, over-exact, length-part}
use Rattle.frame_wire.specs.Addresses.{IsV4}
use Rattle.frame_wire.specs.Udp.{IsSealed}
use Rattle.frame_wire.specs.UdpText.{UdpValue, value_of, text_len, datagram_fields, text, packet_text, Reads}
use Rattle.frame_wire.specs.UdpText.{IsCanonical, Fills, Emits}
use Rattle.frame_wire.proofs.UdpSeals.{length-sealed_datagram, checksum-small, checksum-some, sealed-good}

-- ---- a text, and what follows it

-- a datagram of some checksum by its fields
abbrev datagram_text : UdpValue → ℕ → List ℕ → List ℕ
datagram_text v checksum rest =
    big_bytes 2 v.ports.src_port ++ (big_bytes 2 v.ports.dst_port
    ++ (big_bytes 2 (text_len v) ++ (big_bytes 2 checksum ++ (v.payload ++ rest))))

fields_text : (v : UdpValue) (checksum : ℕ) → fields (datagram_fields v checksum) ≡ datagram_text v checksum []
unfolding fields be16
fields_text v checksum = refl

pub length-text : (v : UdpValue) → length (text v) ≡ text_len v
length-text v = omega (arith, ap length (fields_text v 0), length-append v.payload [])

text_sealed : (addresses : Addresses) (v : UdpValue)
    → sealed_datagram addresses (text v) ≡ datagram_text v (udp_checksum addresses (text v)) []
unfolding sealed_datagram splice fields be16
text_sealed addresses v = refl

length-by : (addresses : Addresses) (v : UdpValue) (computed : Bool)
    → length (if computed then sealed_datagram addresses (text v) else text v) ≡ text_len v
length-by addresses v true =
    length-sealed_datagram addresses (text v) (omega (arith, length-text v)) ∙ length-text v
length-by addresses v false = length-text v

pub length-packet_text : (capabilities : ChecksumCapabilities) (addresses : Addresses) (v : UdpValue)
    → length (packet_text capabilities addresses v) ≡ text_len v
length-packet_text capabilities addresses v = length-by addresses v (is_computed capabilities.udp)

-- ---- what is read in it

-- a datagram but for its checksum, and the port that it may not have
record IsContent (bytes : List ℕ) (v : UdpValue) : Type 0 where
  whole : BeginsWhole bytes
  source : v.ports.src_port ≡ number_of src_port_field bytes
  destination : v.ports.dst_port ≡ number_of dst_port_field bytes
  payload : v.payload ≡ bytes_of (payload_field bytes) bytes

-- what is in the bytes of a datagram, and after them
record Holds (bytes : List ℕ) (v : UdpValue) (checksum : ℕ) (rest : List ℕ) : Type 0 where
  len : end_in bytes ≡ text_len v
  source : v.ports.src_port < 2 ^ 16 → v.ports.src_port ≡ number_of src_port_field bytes
  destination : v.ports.dst_port < 2 ^ 16 → v.ports.dst_port ≡ number_of dst_port_field bytes
  sum : checksum ≤ 65535 → checksum ≡ number_of checksum_field bytes
  behind : drop 8 bytes ≡ v.payload ++ rest

-- a length that is not 0 is that of the datagram
end_counted : (bytes : List ℕ) (n : ℕ) → len_in bytes ≡ n → n ≢ 0 → end_in bytes ≡ n
unfolding end_in
end_counted bytes n e some =
    let counted : (len_in bytes == 0) ≡ false = ne_eqb (len_in bytes) 0 (λ none. some (sym e ∙ none)) in rw counted e

holds : (v : UdpValue) (checksum : ℕ) (rest : List ℕ) → text_len v ≤ 65535
    → Holds (datagram_text v checksum rest) v checksum rest
unfolding part
holds v checksum rest fits = record {
  len = end_counted (datagram_text v checksum rest) (text_len v) (omega (arith, fits)) (omega arith);
  source = λ small. omega (arith, small);
  destination = λ small. omega (arith, small);
  sum = λ small. omega (arith, small);
  behind = refl;
}

length-datagram : (v : UdpValue) (checksum : ℕ) (rest : List ℕ)
    → length (datagram_text v checksum rest) ≡ text_len v + length rest
length-datagram v checksum rest = omega (arith, length-append v.payload rest)

content : (v : UdpValue) (checksum : ℕ) (rest : List ℕ) → v.ports.src_port < 2 ^ 16 → v.ports.dst_port < 2 ^ 16
    → text_len v ≤ 65535 → IsContent (datagram_text v checksum rest) v
unfolding part
content v checksum rest source destination fits =
    let bytes : List ℕ = datagram_text v checksum rest in
    let h = holds v checksum rest fits in
    let few : end_in bytes - 8 ≡ length v.payload = omega (arith, h.len) in
    record {
      whole = record {
        fixed = omega (arith, length-datagram v checksum rest);
        order = omega (arith, h.len);
        total = omega (arith, h.len, length-datagram v checksum rest);
      };
      source = h.source source;
      destination = h.destination destination;
      payload = sym (ap (λ (n : ℕ). take n (v.payload ++ rest)) few ∙ take_at v.payload rest _ refl);
    }

-- what follows a datagram follows its data
join : (v : UdpValue) (checksum : ℕ) (rest : List ℕ)
    → datagram_text v checksum [] ++ rest ≡ datagram_text v checksum rest
join v checksum rest =
    ap (λ (l : List ℕ). big_bytes 2 v.ports.src_port ++ (big_bytes 2 v.ports.dst_port
    ++ (big_bytes 2 (text_len v) ++ (big_bytes 2 checksum ++ l)))) (append_assoc v.payload [] rest)

-- a checksum that holds, whatever follows the datagram
verified : (addresses : Addresses) (v : UdpValue) (checksum : ℕ) (rest : List ℕ) → text_len v ≤ 65535 → checksum ≢ 0
    → checksum ≤ 65535 → IsGood (datagram_text v checksum []) (sum_before addresses IpProtocol.Udp (text_len v))
    → IsSealed addresses (datagram_text v checksum rest)
unfolding part
verified addresses v checksum rest fits some small good =
    let bytes : List ℕ = datagram_text v checksum rest in
    let h = holds v checksum rest fits in
    let whole : List ℕ = datagram_text v checksum [] in
    let long : length whole ≡ text_len v = omega (arith, length-datagram v checksum []) in
    let count : end_in bytes - 0 ≡ text_len v = omega (arith, h.len) in
    let front : take (end_in bytes - 0) bytes ≡ whole =
    ap (λ (n : ℕ). take n bytes) count ∙ ap (λ (l : List ℕ). take (text_len v) l) (sym (join v checksum rest))
    ∙ take_at whole rest (text_len v) long in (
      λ none. some (h.sum small ∙ none),
      subst (λ (n : ℕ). IsGood (take (end_in bytes - 0) bytes) (sum_before addresses IpProtocol.Udp n)) (sym h.len)
          (subst (λ (l : List ℕ). IsGood l (sum_before addresses IpProtocol.Udp (text_len v))) (sym front) good),
    )

sealed_before : (addresses : Addresses) (v : UdpValue) (rest : List ℕ) → text_len v ≤ 65535
    → IsSealed addresses (sealed_datagram addresses (text v) ++ rest)
sealed_before addresses v rest fits =
    let long : 8 ≤ length (text v) = omega (arith, length-text v) in
    let checksum : ℕ = udp_checksum addresses (text v) in
    let good =
    subst (λ (n : ℕ). IsGood (datagram_text v checksum []) (sum_before addresses IpProtocol.Udp n)) (length-text v)
    (subst (λ (l : List ℕ). IsGood l (sum_before addresses IpProtocol.Udp (length (text v)))) (text_sealed addresses v)
    (sealed-good addresses (text v) long)) in
    subst (λ (l : List ℕ). IsSealed addresses l)
    (sym (ap (λ (l : List ℕ). l ++ rest) (text_sealed addresses v) ∙ join v checksum rest))
    (verified addresses v checksum rest fits (checksum-some addresses (text v) long)
    (checksum-small addresses (text v) long) good)

-- the packet of a value, by what its checksum is
abbrev packet_by : Bool → Addresses → UdpValue → List ℕ
packet_by computed addresses v = if computed then sealed_datagram addresses (text v) else text v

sealed-by : (computed : Bool) (addresses : Addresses) (v : UdpValue) (rest : List ℕ) → text_len v ≤ 65535
    → computed ≡ true → IsSealed addresses (packet_by computed addresses v ++ rest)
sealed-by true addresses v rest fits is = sealed_before addresses v rest fits
sealed-by false addresses v rest fits is = cc

checked-by : (checksum : Checksum) (addresses : Addresses) (v : UdpValue) (rest : List ℕ) → text_len v ≤ 65535
    → (checksum ≡ Checksum.Rx → IsV4 addresses) → is_verified checksum ≡ true
    → HasChecksum addresses (packet_by (is_computed checksum) addresses v ++ rest)
checked-by Checksum.Both addresses v rest fits fills is = inr (sealed_before addresses v rest fits)
checked-by Checksum.Rx addresses v rest fits fills is =
    let all = ap (λ (l : List ℕ). l ++ rest) (fields_text v 0) ∙ join v 0 rest in
    let none = ap (λ (l : List ℕ). number_of checksum_field l) all ∙ sym ((holds v 0 rest fits).sum (omega arith)) in
    inl (none, fills refl)
checked-by Checksum.Tx addresses v rest fits fills is = cc
checked-by Checksum.None addresses v rest fits fills is = cc

content-by : (computed : Bool) (addresses : Addresses) (v : UdpValue) (rest : List ℕ) → v.ports.src_port < 2 ^ 16
    → v.ports.dst_port < 2 ^ 16 → text_len v ≤ 65535 → IsContent (packet_by computed addresses v ++ rest) v
content-by true addresses v rest source destination fits =
    let checksum = udp_checksum addresses (text v) in
    subst (λ (l : List ℕ). IsContent l v)
    (sym (ap (λ (l : List ℕ). l ++ rest) (text_sealed addresses v) ∙ join v checksum rest))
    (content v checksum rest source destination fits)
content-by false addresses v rest source destination fits =
    subst (λ (l : List ℕ). IsContent l v)
    (sym (ap (λ (l : List ℕ). l ++ rest) (fields_text v 0) ∙ join v 0 rest))
    (content v 0 rest source destination fits)

-- a canonical value is read back
pub packet_read : (capabilities : ChecksumCapabilities) (addresses : Addresses) (v : UdpValue) (rest : List ℕ)
    → Fills capabilities addresses → IsCanonical v
    → Reads capabilities addresses (packet_text capabilities addresses v ++ rest) v
packet_read capabilities addresses v rest fills c =
    let m = content-by (is_computed capabilities.udp) addresses v rest c.0 c.1 c.3 in
    record {
      datagram = record {
        whole = m.whole;
        source = m.source;
        destination = m.destination;
        port = c.2;
        checksum = checked-by capabilities.udp addresses v rest c.3 fills;
      };
      payload = m.payload;
    }

-- ---- the format

same_value : (v w : UdpValue) → v.ports.src_port ≡ w.ports.src_port → v.ports.dst_port ≡ w.ports.dst_port
    → v.payload ≡ w.payload → v ≡ w
same_value v w source destination payload =
    ap (λ (n : ℕ). value_of (record { src_port = n; dst_port = v.ports.dst_port }) v.payload) source
    ∙ ap (λ (n : ℕ). value_of (record { src_port = w.ports.src_port; dst_port = n }) v.payload) destination
    ∙ ap (λ (l : List ℕ). value_of w.ports l) payload

content-one : (bytes : List ℕ) (v w : UdpValue) → IsContent bytes v → IsContent bytes w → v ≡ w
content-one bytes v w a b =
    same_value v w (a.source ∙ sym b.source) (a.destination ∙ sym b.destination) (a.payload ∙ sym b.payload)

one_value : (capabilities : ChecksumCapabilities) (addresses : Addresses) (bytes : List ℕ) (v w : UdpValue)
    → Reads capabilities addresses bytes v → Reads capabilities addresses bytes w → v ≡ w
one_value capabilities addresses bytes v w a b =
    same_value v w (a.datagram.source ∙ sym b.datagram.source) (a.datagram.destination ∙ sym b.datagram.destination)
    (a.payload ∙ sym b.payload)

accepted : (capabilities : ChecksumCapabilities) (addresses : Addresses) (bytes : List ℕ) (v : UdpValue)
    → IsBytes bytes → length bytes ≤ 65515 → Reads capabilities addresses bytes v → IsCanonical v
accepted capabilities addresses bytes v are small m =
    let whole = m.datagram.whole in
    let long = ap (λ (l : List ℕ). length l) m.payload
    ∙ length-part bytes 8 (end_in bytes) whole.order whole.total in (
      omega (arith, m.datagram.source, number_of-small 0 2 bytes refl are),
      omega (arith, m.datagram.destination, number_of-small 2 4 bytes refl are),
      m.datagram.port,
      omega (arith, long, whole.order, whole.total),
    )

pub udp_format : (capabilities : ChecksumCapabilities) (addresses : Addresses)
    → IsFormat (format capabilities addresses)
udp_format capabilities addresses = record {
  one_value = one_value capabilities addresses;
  reads_back =
      λ v fills c. subst (λ (l : List ℕ). Reads capabilities addresses l v)
      (append-nil (packet_text capabilities addresses v)) (packet_read capabilities addresses v [] fills c);
  norm_canonical = λ v c. c;
  norm_norm = λ v. refl;
  norm_text = λ v c regular. refl;
  accepted = λ bytes v are small m. accepted capabilities addresses bytes v are small m;
  regular = λ bytes v m e. e;
  kept = λ bytes v are c m whole. refl;
}

-- also where the checksum is verified and not filled: the contents are read back by themselves
pub udp_same_text : (capabilities : ChecksumCapabilities) (addresses : Addresses) (a b : UdpValue)
    → SameText (format capabilities addresses) a b
udp_same_text capabilities addresses a b =
    same_text-by (format capabilities addresses) (udp_format capabilities addresses) IsContent content-one
    (λ v c. subst (λ (l : List ℕ). IsContent l v) (append-nil (packet_text capabilities addresses v))
    (content-by (is_computed capabilities.udp) addresses v [] c.0 c.1 c.3)) a b

-- what is left where a datagram was written
pub datagram_emits : (capabilities : ChecksumCapabilities) (addresses : Addresses) (v : UdpValue) (old new : List ℕ)
    → text_len v ≤ 65535 → text_len v ≤ length old → new ≡ over old (packet_text capabilities addresses v)
    → Emits capabilities addresses v old new
datagram_emits capabilities addresses v old new fits room left =
    let packet : List ℕ = packet_text capabilities addresses v in
    let long : length packet ≡ text_len v = length-packet_text capabilities addresses v in
    let all : new ≡ packet ++ drop (length packet) old = left ∙ over-fits old packet (omega (arith, long)) in
    record {
      written = left;
      sealed =
          λ computed. subst (λ (l : List ℕ). IsSealed addresses l) (sym all)
          (sealed-by (is_computed capabilities.udp) addresses v (drop (length packet) old) fits computed);
      exact = λ just. left ∙ over-exact old packet (just ∙ sym long);
      reads_back =
          λ fills c. subst (λ (l : List ℕ). Reads capabilities addresses l v) (sym all)
          (packet_read capabilities addresses v (drop (length packet) old) fills c);
      round_trips = round_trips (format capabilities addresses) (udp_format capabilities addresses) v;
    }

-- a front that was sealed, and what followed it
sealed-front : (capabilities : ChecksumCapabilities) (addresses : Addresses) (v : UdpValue) (old left sealed : List ℕ)
    → text_len v ≤ length old → is_computed capabilities.udp ≡ true → left ≡ over old (text v)
    → sealed ≡ sealed_datagram addresses (take (text_len v) left)
    → sealed ++ drop (text_len v) left ≡ over old (packet_text capabilities addresses v)
sealed-front capabilities addresses v old left sealed room computed e f =
    let long : length (text v) ≡ text_len v = length-text v in
    let packet : List ℕ = packet_text capabilities addresses v in
    let rest : List ℕ = drop (length (text v)) old in
    let all : left ≡ text v ++ rest = e ∙ over-fits old (text v) (omega (arith, long)) in
    let front : take (text_len v) left ≡ text v =
    ap (λ (l : List ℕ). take (text_len v) l) all ∙ take_at (text v) rest (text_len v) long in
    let back : drop (text_len v) left ≡ rest =
    ap (λ (l : List ℕ). drop (text_len v) l) all ∙ drop_at (text v) rest (text_len v) long in
    let is : sealed ≡ packet =
    f ∙ ap (λ (l : List ℕ). sealed_datagram addresses l) front
    ∙ ap (λ (b : Bool). packet_by b addresses v) (sym computed) in
    let long_packet : length packet ≡ text_len v = length-packet_text capabilities addresses v in
    ap (λ (l : List ℕ). sealed ++ l) back ∙ ap (λ (l : List ℕ). l ++ rest) is
    ∙ ap (λ (n : ℕ). packet ++ drop n old) (long ∙ sym long_packet)
    ∙ sym (over-fits old packet (omega (arith, long_packet)))

pub sealed_emits : (capabilities : ChecksumCapabilities) (addresses : Addresses) (v : UdpValue)
    (old left sealed : List ℕ) → text_len v ≤ 65535 → text_len v ≤ length old → is_computed capabilities.udp ≡ true
    → left ≡ over old (text v) → sealed ≡ sealed_datagram addresses (take (text_len v) left)
    → Emits capabilities addresses v old (sealed ++ drop (text_len v) left)
sealed_emits capabilities addresses v old left sealed fits room computed e f =
    datagram_emits capabilities addresses v old (sealed ++ drop (text_len v) left) fits room
    (sealed-front capabilities addresses v old left sealed room computed e f)

pub unsealed_emits : (capabilities : ChecksumCapabilities) (addresses : Addresses) (v : UdpValue) (old new : List ℕ)
    → text_len v ≤ 65535 → text_len v ≤ length old → is_computed capabilities.udp ≡ false → new ≡ over old (text v)
    → Emits capabilities addresses v old new
unsealed_emits capabilities addresses v old new fits room none left =
    datagram_emits capabilities addresses v old new fits room
    (left ∙ ap (λ (b : Bool). over old (packet_by b addresses v)) (sym none))

pub ruleset formats = (udp_same_text)
