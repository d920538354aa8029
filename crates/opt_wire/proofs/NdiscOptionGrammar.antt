-- Blocks of neighbor discovery options against what is read in them: bytes begin with one option at most.
use Rattle.opt_wire.proofs.Words.{◌∙◌, ◌≡◌, Duration, Err, IfOk, Ipv6Address, Ipv6Repr, IsErr, IsOkAnd, List, Ok}
use Rattle.opt_wire.proofs.Words.{PrefixInformation, Result, ℕ, ap, arith, byte_of, bytes_of, number-case_in}
use Rattle.opt_wire.proofs.Words.{one_header, redirected_field, refl, same_address, sym, type_field, type_of}
use Rattle.wirebase.specs.Ipv6.{IsPacket}
use Rattle.wirebase.proofs.Durations.{same_duration}
use Rattle.opt_wire.specs.NdiscOptionTables.{type_number, types}
use Rattle.opt_wire.specs.NdiscOptionRepr.{OptionValue, source, target, prefix_information, redirected, mtu, unknown}
use Rattle.opt_wire.specs.NdiscOptionRepr.{IsPrefix, IsRedirected, IsReading, BeginsWith, value_of}
use Rattle.opt_wire.specs.declared.ndiscoption.repr.Repr.{Repr}
use Rattle.opt_wire.specs.declared.ndiscoption.tables.PrefixInfoFlags.{PrefixInfoFlags}
use Rattle.opt_wire.specs.declared.ndiscoption.tables.Type.{«Type» as Kind}

-- ---- one prefix, and one redirected packet

flags_of : ℕ → PrefixInfoFlags
flags_of bits = record { 0 = bits }

same_flags : (f g : PrefixInfoFlags) → f.0 ≡ g.0 → f ≡ g
unfolding flags_of
same_flags f g e = ap flags_of e

prefix_at : ℕ → PrefixInfoFlags → Duration → Duration → Ipv6Address → PrefixInformation
prefix_at len flags valid preferred address =
    record { prefix_len = len; flags = flags; valid_lifetime = valid; preferred_lifetime = preferred; prefix = address }

one_prefix : (bytes : List ℕ) (p q : PrefixInformation) → IsPrefix bytes p → IsPrefix bytes q → p ≡ q
unfolding prefix_at
one_prefix bytes p q a b =
    let len = a.len ∙ sym b.len in
    let flags = same_flags p.flags q.flags (a.flags ∙ sym b.flags) in
    let valid = same_duration p.valid_lifetime q.valid_lifetime (a.valid ∙ sym b.valid) in
    let preferred =
    same_duration p.preferred_lifetime q.preferred_lifetime (a.preferred ∙ sym b.preferred) in
    let address = same_address p.prefix q.prefix (a.octets ∙ sym b.octets) in
    let made : prefix_at p.prefix_len p.flags p.valid_lifetime p.preferred_lifetime p.prefix
    ≡ prefix_at q.prefix_len q.flags q.valid_lifetime q.preferred_lifetime q.prefix = cc in
    made

one_redirected : (bytes : List ℕ) (h k : Ipv6Repr) (d e : List ℕ) → IsRedirected bytes h d → IsRedirected bytes k e
    → redirected h d ≡ redirected k e
one_redirected bytes h k d e a b =
    let headers = one_header (bytes_of (redirected_field bytes) bytes) h k a.packet.header b.packet.header in
    let payloads = a.payload ∙ sym b.payload in
    cc

-- ---- one option

number_of_type : OptionValue → ℕ
number_of_type (source address) = 1
number_of_type (target address) = 2
number_of_type (prefix_information p) = 3
number_of_type (redirected h d) = 4
number_of_type (mtu n) = 5
number_of_type (unknown t n d) = t

type-reading : (bytes : List ℕ) (v : OptionValue) → IsReading bytes v → byte_of type_field bytes ≡ number_of_type v
unfolding number_of_type
type-reading bytes (source address) r = r.kind
type-reading bytes _ r = r.kind

same_reading : (bytes : List ℕ) (v w : OptionValue) → IsReading bytes v → IsReading bytes w
    → number_of_type v ≡ number_of_type w → v ≡ w
unfolding number_of_type
same_reading bytes (source address) (source other) a b same = ap source (a.address_is ∙ sym b.address_is)
same_reading bytes (target address) (target other) a b same = ap target (a.address_is ∙ sym b.address_is)
same_reading bytes (prefix_information p) (prefix_information q) a b same =
    ap prefix_information (one_prefix bytes p q a b)
same_reading bytes (redirected h d) (redirected k e) a b same = one_redirected bytes h k d e a b
same_reading bytes (mtu n) (mtu m) a b same = ap mtu (a.number ∙ sym b.number)
same_reading bytes (unknown t n d) (unknown s m e) a b same = let one = a.count ∙ sym b.count in let two =
    a.data_is ∙ sym b.data_is in cc
same_reading bytes (source address) (unknown s m e) a b same = absurd (b.unnamed.0 (sym same))
same_reading bytes (target address) (unknown s m e) a b same = absurd (b.unnamed.1 (sym same))
same_reading bytes (prefix_information p) (unknown s m e) a b same = absurd (b.unnamed.2 (sym same))
same_reading bytes (redirected h d) (unknown s m e) a b same = absurd (b.unnamed.3 (sym same))
same_reading bytes (mtu n) (unknown s m e) a b same = absurd (b.unnamed.4 (sym same))
same_reading bytes (unknown t n d) (source other) a b same = absurd (a.unnamed.0 same)
same_reading bytes (unknown t n d) (target other) a b same = absurd (a.unnamed.1 same)
same_reading bytes (unknown t n d) (prefix_information q) a b same = absurd (a.unnamed.2 same)
same_reading bytes (unknown t n d) (redirected k e) a b same = absurd (a.unnamed.3 same)
same_reading bytes (unknown t n d) (mtu m) a b same = absurd (a.unnamed.4 same)
same_reading bytes _ _ a b same = absurd (omega arith)

packet-reading : (bytes : List ℕ) → byte_of type_field bytes ≡ 4
    → ((h : Ipv6Repr) → IsPacket (bytes_of (redirected_field bytes) bytes) h → ⊥) → (v : OptionValue)
    → IsReading bytes v → ⊥
packet-reading bytes four none (redirected h d) b = none h b.packet
packet-reading bytes four none (unknown t n d) b = b.unnamed.3 (sym b.kind ∙ four)
packet-reading bytes four none _ b = omega (arith, four, b.kind)

pub one_option : (bytes : List ℕ) (v w : OptionValue) → BeginsWith bytes v → BeginsWith bytes w → v ≡ w
one_option bytes v w a b =
    same_reading bytes v w a.reading b.reading (sym (type-reading bytes v a.reading) ∙ type-reading bytes w b.reading)

-- a block of type 4 without a packet is read as nothing
pub redirected-packet : (bytes : List ℕ) → type_of (byte_of type_field bytes) ≡ Kind.RedirectedHeader
    → ((h : Ipv6Repr) → IsPacket (bytes_of (redirected_field bytes) bytes) h → ⊥) → (v : OptionValue)
    → BeginsWith bytes v → ⊥
unfolding number_of_type
redirected-packet bytes is none v b =
    let number = number-case_in type_number Kind.Unknown (λ k. refl) types (byte_of type_field bytes) in
    packet-reading bytes (sym number ∙ ap type_number is) none v b.reading

-- what answers soundly, and refuses only what is nothing, is complete
pub complete : {E : Type 0} (result : Result Repr E) (bytes : List ℕ) → IfOk result (λ r. BeginsWith bytes (value_of r))
    → (IsErr result → (v : OptionValue) → BeginsWith bytes v → ⊥)
    → (v : OptionValue) → BeginsWith bytes v → IsOkAnd result (λ r. value_of r ≡ v)
complete (Ok r) bytes sound refuses v b = one_option bytes (value_of r) v sound b
complete (Err e) bytes sound refuses v b = absurd (refuses refl v b)
