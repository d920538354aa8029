-- The texts of headers of IPv4, and what is read in them before a payload.
use Rattle.std.proofs.Common.{◌≡◌, ◌↔◌, ℕ, ◌+◌, ◌*◌, ◌/◌, ◌%◌, ◌-◌, ◌<◌, ◌^◌, Bool, true, false, IsTrue}
use Rattle.std.proofs.Common.{List, [], ◌∷◌, ◌++◌, length, take, drop, refl, sym, ap, subst, ◌∙◌, arith, length-append}
use Rattle.std.proofs.lemmas.List.{append-nil, take_all, take_at, drop_at}
use Rattle.byteorder.specs.Endian.{big_bytes}
use Rattle.byteorder.specs.Numbers.{big_number-reads_back}
use Rattle.wirebase.specs.Bytes.{part, splice, over, number_of, bytes_of}
use Rattle.wirebase.specs.ByteWriter.{be8, be16, fields}
use Rattle.wirebase.specs.Checks.{Passes}
use Rattle.wirebase.specs.Checksum.{IsGood, sealed}
use Rattle.wirebase.specs.Ip.{protocol_number}
use Rattle.wirebase.specs.Ipv4.{octets_of, checksum_field, fragment_field, version_in, header_len_in, total_len_in}
use Rattle.wirebase.specs.Ipv4.{header_field, payload_field}
use Rattle.wirebase.proofs.ChecksumSeals.{IsGood-sealed, length-sealed}
use Rattle.wirebase.proofs.IpProtocols.{protocol_of-number}
use Rattle.wirebase.proofs.Pieces.{over-exact}
use Rattle.header_wire.specs.Ipv4.{Value, packet, flags_number, fragment_number, text_len, total_len, text}
use Rattle.header_wire.specs.Ipv4.{header_text, checks, options_field, Says, IsCanonical}

-- a header with these bytes as its checksum
abbrev pub shape : Value → ℕ → ℕ → List ℕ
shape v a b =
    (0x45 + length v.options / 4) ∷ v.service
    ∷ (big_bytes 2 (total_len v)
    ++ (big_bytes 2 v.ident
    ++ (big_bytes 2 (fragment_number v)
    ++ (v.hop_limit ∷ protocol_number v.protocol ∷ a ∷ b
    ∷ (octets_of v.src_addr ++ (octets_of v.dst_addr ++ v.options))))))

pub text-shape : (v : Value) → text v ≡ shape v 0 0
unfolding fields be8 be16
text-shape v =
    ap
    (λ (l : List ℕ). (0x45 + length v.options / 4) ∷ v.service
    ∷ (big_bytes 2 (total_len v)
    ++ (big_bytes 2 v.ident
    ++ (big_bytes 2 (fragment_number v)
    ++ (v.hop_limit ∷ protocol_number v.protocol ∷ 0 ∷ 0 ∷ (octets_of v.src_addr ++ (octets_of v.dst_addr ++ l)))))))
    (append-nil v.options)

shape-sealed : (v : Value) → (a : ℕ) × (b : ℕ) × (sealed checksum_field (shape v 0 0) 0 ≡ shape v a b)
unfolding sealed splice
shape-sealed v = (_, _, refl)

pub header-shape : (v : Value) → (a : ℕ) × (b : ℕ) × (header_text v ≡ shape v a b)
header-shape v =
    let laid = shape-sealed v in
    (laid.0, laid.1, ap (λ (l : List ℕ). sealed checksum_field l 0) (text-shape v) ∙ laid.2)

length-shape : (v : Value) (a b : ℕ) → length (shape v a b) ≡ text_len v
length-shape v a b = omega arith

pub length-text : (v : Value) → length (text v) ≡ text_len v
length-text v = ap (λ (l : List ℕ). length l) (text-shape v) ∙ length-shape v 0 0

pub length-header_text : (v : Value) → length (header_text v) ≡ text_len v
length-header_text v =
    length-sealed checksum_field (text v) 0 refl (omega (arith, length-text v)) ∙ length-text v

pub good-header_text : (v : Value) → IsGood (header_text v) 0
good-header_text v = IsGood-sealed checksum_field (text v) 0 refl (omega (arith, length-text v)) refl

-- what is written over exactly as many octets
pub over-text : (old : List ℕ) (v : Value) → length old ≡ text_len v → over old (text v) ≡ text v
over-text old v whole = over-exact old (text v) (omega (arith, whole, length-text v))

-- ---- the flags and the offset

flags_read : (dont more : Bool) (offset : ℕ) → offset < 2 ^ 13
    → (IsTrue dont ↔ ((flags_number dont more + offset) / 0x4000 % 2 ≡ 1))
    × (IsTrue more ↔ ((flags_number dont more + offset) / 0x2000 % 2 ≡ 1))
    × (offset ≡ (flags_number dont more + offset) % 0x2000)
flags_read true true offset small = ((λ yes. omega arith, λ yes. refl), (λ yes. omega arith, λ yes. refl), omega arith)
flags_read true false offset small =
    ((λ yes. omega arith, λ yes. refl), (λ no. cc, λ one. absurd (omega arith)), omega arith)
flags_read false true offset small =
    ((λ no. cc, λ one. absurd (omega arith)), (λ yes. omega arith, λ yes. refl), omega arith)
flags_read false false offset small =
    ((λ no. cc, λ one. absurd (omega arith)), (λ no. cc, λ one. absurd (omega arith)), omega arith)

fragment_small : (dont more : Bool) (offset : ℕ) → offset < 2 ^ 13 → flags_number dont more + offset < 65536
fragment_small true true offset small = omega arith
fragment_small true false offset small = omega arith
fragment_small false true offset small = omega arith
fragment_small false false offset small = omega arith

-- the offset in units of eight bytes
pub eighth : (n m : ℕ) → n ≡ 8 * (m % 0x2000) → n / 8 ≡ m % 0x2000
eighth n m e = omega (arith, e)

-- ---- before a payload

module _ (v : Value) (a b : ℕ) (payload : List ℕ) (c : IsCanonical (packet v payload)) where
  abbrev bytes : List ℕ
  bytes = shape v a b ++ payload

  length-bytes : length bytes ≡ total_len v
  length-bytes = omega (arith, length-append (shape v a b) payload, length-shape v a b, c.payload)

  version_is : version_in bytes ≡ 4
  version_is = omega (arith, c.options.1)

  pub header_len_is : header_len_in bytes ≡ text_len v
  header_len_is = omega (arith, c.options.0, c.options.1)

  total_is : total_len_in bytes ≡ total_len v
  unfolding part
  total_is = big_number-reads_back 2 (total_len v) [] (omega (arith, c.total))

  fragment_is : number_of fragment_field bytes ≡ fragment_number v
  unfolding part
  fragment_is =
      big_number-reads_back 2 (fragment_number v) []
      (fragment_small v.dont_frag v.more_frags v.frag_offset c.frag_offset)

  pub front_is : bytes_of (header_field bytes) bytes ≡ shape v a b
  unfolding part
  front_is =
      ap (λ (n : ℕ). take n bytes) (omega (arith, header_len_is))
      ∙ take_at (shape v a b) payload (text_len v) (length-shape v a b)

  options_are : v.options ≡ bytes_of (options_field bytes) bytes
  unfolding part
  options_are =
      let long : header_len_in bytes - 20 ≡ length v.options = omega (arith, header_len_is) in
      sym (ap (λ (n : ℕ). take n (v.options ++ payload)) long ∙ take_at v.options payload (length v.options) refl)

  pub payload_is : payload ≡ bytes_of (payload_field bytes) bytes
  unfolding part
  payload_is =
      let long : total_len_in bytes - header_len_in bytes ≡ length payload =
      omega (arith, header_len_is, total_is, c.payload) in
      sym (ap (λ (n : ℕ). take n (drop (header_len_in bytes) bytes)) long
      ∙ ap (λ (n : ℕ). take (length payload) (drop n bytes)) header_len_is
      ∙ ap (λ (l : List ℕ). take (length payload) l) (drop_at (shape v a b) payload (text_len v) (length-shape v a b))
      ∙ take_all (length payload) payload (omega arith))

  pub says : Says bytes v
  unfolding part
  says =
      let flags = flags_read v.dont_frag v.more_frags v.frag_offset c.frag_offset in
      record {
        service = refl;
        ident = sym (big_number-reads_back 2 v.ident [] (omega (arith, c.ident)));
        dont_frag = rw fragment_is flags.0;
        more_frags = rw fragment_is flags.1;
        frag_offset = rw fragment_is flags.2;
        hop_limit = refl;
        protocol = sym (protocol_of-number v.protocol c.protocol);
        src_addr = refl;
        dst_addr = refl;
        options = options_are;
        payload_len = omega (arith, header_len_is, total_is);
      }

  pub passes : IsGood (shape v a b) 0 → Passes (checks bytes)
  passes good = (
    omega (arith, length-bytes),
    (
      version_is,
      (
        omega (arith, header_len_is),
        (
          omega (arith, header_len_is, length-bytes),
          (
            omega (arith, header_len_is, total_is),
            (
              omega (arith, total_is, length-bytes),
              (subst (λ (l : List ℕ). IsGood l 0) (sym front_is) good, tt),
            ),
          ),
        ),
      ),
    ),
  )
