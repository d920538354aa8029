-- The octets of options that fill a room.
use Rattle.std.proofs.Common.{◌≡◌, ◌∙◌, List, Some, length, refl, slice_index_or, sym, ℕ}
use Rattle.wirebase.specs.Bytes.{over}
use Rattle.wirebase.proofs.Pieces.{over-exact}
use Rattle.message_brief.specs.Dhcp.{four_in, octet_in}

pub four_joined : (room octets new : List ℕ) → length room ≡ 4 → length octets ≡ 4 → new ≡ over room octets
    → Some new ≡ four_in octets
four_joined room octets new room_len len is = rw (is, over-exact room octets (room_len ∙ sym len), len) refl

pub octet_joined : (room octets new : List ℕ) → length room ≡ 1 → length octets ≡ 1 → new ≡ over room octets
    → Some (slice_index_or new 0 0) ≡ octet_in octets
octet_joined room octets new room_len len is = rw (is, over-exact room octets (room_len ∙ sym len), len) refl
