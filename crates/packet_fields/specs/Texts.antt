-- Texts of addresses, and names of flags.
use Rattle.std.specs.Prelude.{[], ◌∷◌, ◌++◌, ◌==◌, List, ℕ, codes, decimal, if◌then◌else◌, length, map, nat_lt, slice_index}
use Rattle.std.specs.Int.RustNames.{bit_and}
use Rattle.std.specs.Net.Addr.{segments_of}
use Rattle.std.specs.Net.Text.{hex_groups_text}
use Rattle.hex.specs.Hex.{encode_lower}
use Rattle.packet_fields.specs.Names.{Rows}
use Rattle.packet_fields.specs.Parts.{parts}

-- the text of an IPv6 address, and of an IPv4 address, by its octets
unfoldable pub v6_text : List ℕ → List ℕ
v6_text bytes = hex_groups_text (segments_of bytes)

unfoldable pub v4_text : List ℕ → List ℕ
v4_text bytes =
    decimal (slice_index bytes 0) ++ codes "." ++ decimal (slice_index bytes 1) ++ codes "."
    ++ decimal (slice_index bytes 2) ++ codes "." ++ decimal (slice_index bytes 3)

-- of an address by its length; one that is cut by its octets
abbrev pub address_text : List ℕ → List ℕ
address_text bytes =
    if length bytes == 16 then v6_text bytes else if length bytes == 4 then v4_text bytes else encode_lower bytes

-- addresses of so many octets each; the last may be cut
abbrev pub address_len : ℕ → List ℕ → ℕ
address_len width left = if nat_lt (length left) width then length left else width

abbrev pub addresses : ℕ → List ℕ → List (List ℕ)
addresses width bytes = map address_text (parts (address_len width) (length bytes) bytes)

-- the names of the flags that are set
abbrev pub flag_names : Rows → ℕ → List (List ℕ)
flag_names [] bits = []
flag_names (row ∷ rest) bits =
    if bit_and bits row.0 == 0 then flag_names rest bits else row.1 ∷ flag_names rest bits
