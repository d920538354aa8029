-- The format of options: what was read is canonical and its own normal form, and a normal form has the text of its
-- value.
use Rattle.opt_wire.proofs.Words.{[], ◌*◌, ◌+◌, ◌-◌, ◌<◌, ◌^◌, ◌∙◌, ◌∷◌, ◌≡◌, ◌≤◌, ◌⊎◌, BeginsWithBlock, Duration}
use Rattle.opt_wire.proofs.Words.{Ipv6Repr, IsBytes, IsFormat, List, PrefixInformation, SameText, ℕ, ap, append-nil}
use Rattle.opt_wire.proofs.Words.{arith, be32, be8, big_number, byte_of, bytes_of, cases_lt, drop, fields, flag_bits}
use Rattle.opt_wire.proofs.Words.{get_or-take, get_or_past, inl, inr, known, known_bits, length, length-append}
use Rattle.opt_wire.proofs.Words.{length-part, length-replicate, length-take, micros_of, min, nat_tests, octets_of}
use Rattle.opt_wire.proofs.Words.{over, over-exact, part, prefix_flags_field, protocol-read, redirected_field, refl}
use Rattle.opt_wire.proofs.Words.{round_trips, same_text, seconds_of, subst, sym, take, units_in, whole_seconds}
use Rattle.std.proofs.lemmas.Nat.{and_assoc}
use Rattle.wirebase.specs.Ipv6.{next_header_field, payload_len_in}
use Rattle.wirebase.proofs.ByteParts.{IsBytes-drop}
use Rattle.wirebase.proofs.Durations.{seconds-times, whole_seconds-read}
use Rattle.opt_wire.specs.NdiscOptionRepr.{OptionValue, source, target, prefix_information, redirected, mtu, unknown}
use Rattle.opt_wire.specs.NdiscOptionRepr.{filled, HasSeconds, IsLinkAddr, IsRedirected, IsReading, BeginsWith}
use Rattle.opt_wire.specs.NdiscOptionRepr.{IsCanonicalRedirected, IsCanonical, text, text_len, CanEmit, norm, format}
use Rattle.opt_wire.specs.NdiscOptionRepr.{Emits}
use Rattle.opt_wire.proofs.NdiscOptionGrammar.{one_option}
use Rattle.opt_wire.proofs.NdiscOptionReading.{link_same, option_read, option_over}
use Rattle.opt_wire.proofs.NdiscOptionTexts.{link_text, length-text}

-- ---- numbers

known-known : (bits : ℕ) → known (known bits) ≡ known bits
known-known bits = and_assoc known_bits bits known_bits

few_seconds : (time : Duration) (n : ℕ) → micros_of time ≡ 1000000 * n → n < 2 ^ 32 → HasSeconds time
few_seconds time n e small = omega (arith, e, small)

IsBytes-part : (i j : ℕ) (bytes : List ℕ) → IsBytes bytes → IsBytes (part bytes i j)
unfolding part
IsBytes-part i j bytes are k = elim (cases_lt k (j - i)) [
  | inl before ↦
      let byte = IsBytes-drop i bytes are k in
      rw (get_or-take (j - i) (drop i bytes) k 0 before) byte
  | inr behind ↦
      let none = get_or_past (take (j - i) (drop i bytes)) k 0
      (omega (arith, length-take {A = ℕ} (j - i) (drop i bytes))) in
      rw none (omega arith)
]

four_small : (bytes : List ℕ) → IsBytes bytes → big_number 4 bytes < 2 ^ 32
four_small bytes are =
    omega (arith, are 0, are 1, are 2, are 3)

-- ---- addresses that are filled

length-filled : (address : List ℕ) → (length (filled address) ≡ 6) ⊎ (8 ≤ length (filled address))
length-filled address = grind (arith, nat_tests, length-append, length-replicate)

filled-small : (address : List ℕ) → length address ≤ 8 → length (filled address) ≤ 8
filled-small address small = grind (arith, nat_tests, length-append, length-replicate)

filled-whole : (address : List ℕ) → (length address ≡ 6) ⊎ (8 ≤ length address) → filled address ≡ address
filled-whole address long = grind (arith, nat_tests, append-nil)

-- ---- what was read

length-link : (t : ℕ) (bytes address : List ℕ) → BeginsWithBlock bytes → IsLinkAddr t bytes address
    → (length address ≡ 6) ⊎ (length address ≡ 8)
length-link t bytes address block r =
    let n : ℕ = units_in bytes in
    let long : length address ≡ 2 + min 8 (8 * n - 2) - 2 =
    ap (λ (l : List ℕ). length l) r.address_is ∙ length-part bytes 2 (2 + min 8 (8 * n - 2)) (omega arith)
    (omega (arith, block.some, block.whole.counted)) in
    elim (cases_lt 1 n) [
      | inl more ↦ inr (omega (arith, long, more))
      | inr one ↦ inl (omega (arith, long, one, block.some))
    ]

link-small : (address : List ℕ) → (length address ≡ 6) ⊎ (length address ≡ 8) → length address ≤ 8
link-small address long = grind arith

link-full : (address : List ℕ) → (length address ≡ 6) ⊎ (length address ≡ 8) → filled address ≡ address
link-full address long = filled-whole address (grind arith)

redirected-canonical : (bytes : List ℕ) (h : Ipv6Repr) (d : List ℕ) → IsBytes bytes → BeginsWithBlock bytes
    → IsRedirected bytes h d → IsCanonicalRedirected h d
redirected-canonical bytes h d are block r =
    let packet : List ℕ = bytes_of (redirected_field bytes) bytes in
    let in_packet = IsBytes-part 8 (8 * units_in bytes) bytes are in
    let read = protocol-read (byte_of next_header_field packet) r.packet.header.protocol in
    let fits = r.packet.whole.total in
    let long : length packet ≡ 8 * units_in bytes - 8 =
    length-part bytes 8 (8 * units_in bytes) (omega (arith, block.some)) block.whole.counted in
    let behind_header : length d ≡ 40 + payload_len_in packet - 40 =
    ap (λ (l : List ℕ). length l) r.payload ∙ length-part packet 40 (40 + payload_len_in packet)
    (omega arith) fits in
    record {
      proper = read.0;
      protocol = omega (arith, read.1, in_packet 6);
      hops = omega (arith, r.packet.header.hops, in_packet 7);
      payload = omega (arith, r.packet.header.payload, behind_header);
      small = omega (arith, behind_header, fits, long, are 1);
    }

reading-canonical : (bytes : List ℕ) (v : OptionValue) → IsBytes bytes → BeginsWithBlock bytes → IsReading bytes v
    → IsCanonical v
reading-canonical bytes (source address) are block r = link-small address (length-link 1 bytes address block r)
reading-canonical bytes (target address) are block r = link-small address (length-link 2 bytes address block r)
reading-canonical bytes (prefix_information p) are block r = record {
  len = omega (arith, r.len, are 2);
  flags = ap known r.flags ∙ known-known (byte_of prefix_flags_field bytes) ∙ sym r.flags;
  valid = few_seconds p.valid_lifetime _ r.valid (four_small (part bytes 4 8) (IsBytes-part 4 8 bytes are));
  preferred =
      few_seconds p.preferred_lifetime _ r.preferred (four_small (part bytes 8 12) (IsBytes-part 8 12 bytes are));
}
reading-canonical bytes (redirected h d) are block r = redirected-canonical bytes h d are block r
reading-canonical bytes (mtu n) are block r =
    subst (λ (k : ℕ). k < 2 ^ 32) (sym r.number) (four_small (part bytes 4 8) (IsBytes-part 4 8 bytes are))
reading-canonical bytes (unknown t n d) are block r =
    let long : length d ≡ 8 * units_in bytes - 2 =
    ap (λ (l : List ℕ). length l) r.data_is ∙ length-part bytes 2 (8 * units_in bytes)
    (omega (arith, block.some)) block.whole.counted in (
      r.unnamed,
      omega (arith, r.kind, are 0),
      omega (arith, r.count, block.some),
      omega (arith, r.count, are 1),
      omega (arith, r.count, long, block.some),
    )

-- ---- the normal form

abbrev timed : PrefixInformation → Duration → Duration → OptionValue
timed p valid preferred = prefix_information (record p { valid_lifetime = valid; preferred_lifetime = preferred })

norm-read : (bytes : List ℕ) (v : OptionValue) → BeginsWithBlock bytes → IsReading bytes v → norm v ≡ v
norm-read bytes (source address) block r = ap source (link-full address (length-link 1 bytes address block r))
norm-read bytes (target address) block r = ap target (link-full address (length-link 2 bytes address block r))
norm-read bytes (prefix_information p) block r =
    let valid = whole_seconds-read p.valid_lifetime _ r.valid in
    let preferred = whole_seconds-read p.preferred_lifetime _ r.preferred in
    ap (λ (t : Duration). timed p t (whole_seconds p.preferred_lifetime)) valid
    ∙ ap (λ (t : Duration). timed p p.valid_lifetime t) preferred
norm-read bytes _ block r = refl

norm-canonical : (v : OptionValue) → IsCanonical v → IsCanonical (norm v)
norm-canonical (source address) c = filled-small address c
norm-canonical (target address) c = filled-small address c
norm-canonical (prefix_information p) c = record {
  len = c.len;
  flags = c.flags;
  valid = omega (arith, seconds-times (seconds_of p.valid_lifetime), c.valid);
  preferred = omega (arith, seconds-times (seconds_of p.preferred_lifetime), c.preferred);
}
norm-canonical _ c = c

norm-norm : (v : OptionValue) → norm (norm v) ≡ norm v
norm-norm (source address) = ap source (filled-whole (filled address) (length-filled address))
norm-norm (target address) = ap target (filled-whole (filled address) (length-filled address))
norm-norm (prefix_information p) =
    ap (λ (t : Duration). timed p t (whole_seconds (whole_seconds p.preferred_lifetime)))
    (whole_seconds-read (whole_seconds p.valid_lifetime) (seconds_of p.valid_lifetime) refl)
    ∙ ap (λ (t : Duration). timed p (whole_seconds p.valid_lifetime) t)
    (whole_seconds-read (whole_seconds p.preferred_lifetime) (seconds_of p.preferred_lifetime) refl)
norm-norm _ = refl

abbrev timed_text : PrefixInformation → ℕ → ℕ → List ℕ
timed_text p valid preferred =
    fields (be8 3 ∷ be8 4 ∷ be8 p.prefix_len ∷ be8 (flag_bits p.flags) ∷ be32 valid ∷ be32 preferred ∷ be32 0
    ∷ octets_of p.prefix ∷ [])

norm-text : (v : OptionValue) → IsCanonical v → text (norm v) ≡ text v
norm-text (source address) c = link_text 1 (filled address) ∙ link_same 1 address c ∙ sym (link_text 1 address)
norm-text (target address) c = link_text 2 (filled address) ∙ link_same 2 address c ∙ sym (link_text 2 address)
norm-text (prefix_information p) c =
    ap (λ (n : ℕ). timed_text p n (seconds_of (whole_seconds p.preferred_lifetime)))
    (seconds-times (seconds_of p.valid_lifetime))
    ∙ ap (λ (n : ℕ). timed_text p (seconds_of p.valid_lifetime) n) (seconds-times (seconds_of p.preferred_lifetime))
norm-text _ c = refl

-- ---- all of it

pub ndisc_option_format : IsFormat format
ndisc_option_format = record {
  one_value = one_option;
  reads_back = λ v filled c. subst (λ (l : List ℕ). BeginsWith l (norm v)) (append-nil (text v)) (option_read v [] c);
  norm_canonical = norm-canonical;
  norm_norm = norm-norm;
  norm_text = λ v c regular. norm-text v c;
  accepted = λ bytes v are small b. reading-canonical bytes v are b.block b.reading;
  regular = λ bytes v b e. e;
  kept = λ bytes v are c b whole. norm-read bytes v b.block b.reading;
}

pub ndisc_option_same_text : (a b : OptionValue) → SameText format a b
ndisc_option_same_text a b = same_text format ndisc_option_format tt a b

-- ---- the result of writing

pub option_emits : (v : OptionValue) (old new : List ℕ) → CanEmit v → text_len v ≤ length old → new ≡ over old (text v)
    → Emits v old new
option_emits v old new can room left = record {
  written = left;
  exact = λ long. left ∙ over-exact old (text v) (long ∙ sym (length-text v can));
  reads_back =
      λ c. subst (λ (bytes : List ℕ). BeginsWith bytes (norm v)) (sym left)
      (option_over old v (omega (arith, length-text v can, room)) c);
  round_trips = round_trips format ndisc_option_format v;
}
