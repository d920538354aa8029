-- The text of an extension header, and the options that it carries.
use Rattle.opt_wire.proofs.Words.{◌*◌, ◌+◌, ◌-◌, ◌∙◌, ◌≡◌, ◌≤◌, List, ℕ, arith, be8, byte_of, bytes_of, fields, length}
use Rattle.opt_wire.proofs.Words.{over, over-exact, part, protocol_of, refl, sym, take_all}
use Rattle.opt_wire.specs.Ipv6Hbh as hop_by_hop
use Rattle.opt_wire.specs.Ipv6ExtHeader.{next_header_field, length_field, payload_field, IsWhole, HeaderValue, text}
use Rattle.opt_wire.specs.Ipv6ExtHeader.{Emits, CarriesOptions}
use Rattle.opt_wire.specs.Ipv6ExtHeaderRefusal.{IsRead}
use Rattle.opt_wire.proofs.Ipv6HbhFormat.{header_format}

length-text : (header : HeaderValue) → length (text header) ≡ 2
unfolding fields be8
length-text header = refl

pub header_emits : (header : HeaderValue) (old new : List ℕ) → new ≡ over old (text header) → Emits header old new
header_emits header old new e = record {
  written = e;
  exact = λ long. e ∙ over-exact old (text header) (long ∙ sym (length-text header));
}

pub carries_options : (most : ℕ) → 1 ≤ most → CarriesOptions most
unfolding part
carries_options most one n count options small fits canonical long =
    let payload : List ℕ = hop_by_hop.text options in (
      record {
        whole = (omega (arith, long), omega (arith, long));
        next_header = refl;
        count_is = refl;
        payload = sym (take_all (8 * count + 8 - 2) payload (omega (arith, long)));
      },
      (header_format most one).reads_back options _ canonical,
    )

-- whole bytes are read
pub whole-read : (bytes : List ℕ) → IsWhole bytes → IsRead bytes
whole-read bytes whole = (
  record {
    next_header = protocol_of (byte_of next_header_field bytes);
    count = byte_of length_field bytes;
    payload = bytes_of (payload_field bytes) bytes;
  },
  record { whole = whole; next_header = refl; count_is = refl; payload = refl },
)
