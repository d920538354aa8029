-- The texts of options: their lengths.
use Rattle.opt_wire.proofs.Words.{◌*◌, ◌++◌, ◌+◌, ◌-◌, ◌∷◌, ◌≡◌, Ipv6Repr, List, PrefixInformation, ℕ, ap, append-nil}
use Rattle.opt_wire.proofs.Words.{arith, be16, be32, be8, big_bytes, fields, flag_bits, length, length-append}
use Rattle.opt_wire.proofs.Words.{length-header_text, length-replicate, octets_of, refl, seconds_of}
use Rattle.wirebase.specs.Ipv6.{header_text}
use Rattle.opt_wire.specs.NdiscOptionRepr.{OptionValue, source, target, prefix_information, redirected, mtu, unknown}
use Rattle.opt_wire.specs.NdiscOptionRepr.{units, padding, link_fields, prefix_fields, redirected_fields, mtu_fields}
use Rattle.opt_wire.specs.NdiscOptionRepr.{unknown_fields, text, text_len, CanEmit}

-- ---- field by field

pub link_text : (t : ℕ) (address : List ℕ) → fields (link_fields t address) ≡ t ∷ units (2 + length address)
    ∷ (address ++ padding (2 + length address))
unfolding fields be8
link_text t address = simp append-nil

pub prefix_text : (p : PrefixInformation) → fields (prefix_fields p) ≡ 3 ∷ 4 ∷ p.prefix_len ∷ flag_bits p.flags
    ∷ (big_bytes 4 (seconds_of p.valid_lifetime)
    ++ (big_bytes 4 (seconds_of p.preferred_lifetime) ++ (0 ∷ 0 ∷ 0 ∷ 0 ∷ octets_of p.prefix)))
unfolding fields be8 be32
prefix_text p = simp append-nil

pub redirected_text : (h : Ipv6Repr) (d : List ℕ) → fields (redirected_fields h d) ≡ 4 ∷ units (48 + length d) ∷ 0 ∷ 0
    ∷ 0 ∷ 0 ∷ 0 ∷ 0 ∷ (header_text h ++ (d ++ padding (48 + length d)))
unfolding fields be8 be16 be32
redirected_text h d = simp append-nil

pub mtu_text : (n : ℕ) → fields (mtu_fields n) ≡ 5 ∷ 1 ∷ 0 ∷ 0 ∷ big_bytes 4 n
unfolding fields be8 be16 be32
mtu_text n = simp append-nil

pub unknown_text : (t n : ℕ) (d : List ℕ) → fields (unknown_fields t n d) ≡ t ∷ n ∷ d
unfolding fields be8
unknown_text t n d = simp append-nil

-- ---- lengths

pub length-link : (t : ℕ) (address : List ℕ) → length (fields (link_fields t address)) ≡ 8 * units (2 + length address)
length-link t address =
    omega (
      arith,
      ap length (link_text t address),
      length-append address (padding (2 + length address)),
      length-replicate {A = ℕ} (8 * units (2 + length address) - (2 + length address)) 0,
    )

length-mtu : (n : ℕ) → length (fields (mtu_fields n)) ≡ 8
unfolding fields be8 be16 be32
length-mtu n = refl

pub length-text : (v : OptionValue) → CanEmit v → length (text v) ≡ text_len v
length-text (source address) c = length-link 1 address
length-text (target address) c = length-link 2 address
length-text (prefix_information p) c = omega (arith, ap length (prefix_text p), p.prefix.whole)
length-text (redirected h d) c =
    omega (
      arith,
      ap length (redirected_text h d),
      length-append (header_text h) (d ++ padding (48 + length d)),
      length-header_text h,
      length-append d (padding (48 + length d)),
      length-replicate {A = ℕ} (8 * units (48 + length d) - (48 + length d)) 0,
    )
length-text (mtu n) c = length-mtu n
length-text (unknown t n d) c = omega (arith, ap length (unknown_text t n d), c.1)

pub ruleset texts = (length-text)
