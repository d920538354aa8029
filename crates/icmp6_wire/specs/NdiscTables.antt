-- The flags of router and neighbor advertisements (RFC 4861 sections 4.2 and 4.4).
use Rattle.std.specs.Prelude.{ℕ, ◌==◌, if◌then◌else◌, List, [], ◌∷◌, codes}
use Rattle.std.specs.Int.RustNames.{bit_and}
use Rattle.icmp6_wire.specs.Words.{NeighborFlags, RouterFlags}

-- each flag with its bit
abbrev pub router_rows : List (List ℕ × ℕ)
router_rows = (codes "MANAGED", 0x80) ∷ (codes "OTHER", 0x40) ∷ []

abbrev pub neighbor_rows : List (List ℕ × ℕ)
neighbor_rows = (codes "ROUTER", 0x80) ∷ (codes "SOLICITED", 0x40) ∷ (codes "OVERRIDE", 0x20) ∷ []

-- the bits of a set of flags
abbrev pub router_bits : RouterFlags → ℕ
router_bits flags = flags.0

abbrev pub neighbor_bits : NeighborFlags → ℕ
neighbor_bits flags = flags.0

-- the printed text of a set of flags: the names of those that are set, with a comma between them; `-` where none is
abbrev pub router_flags_text : ℕ → List ℕ
router_flags_text bits =
    if bit_and bits 0x80 == 0 then if bit_and bits 0x40 == 0 then codes "-" else codes "other"
    else if bit_and bits 0x40 == 0 then codes "managed"
    else codes "managed,other"

-- the printed text of the flags of a neighbor advertisement, of one that does not come from a router and of one that
-- does
abbrev pub of_no_router : ℕ → List ℕ
of_no_router bits =
    if bit_and bits 0x40 == 0 then if bit_and bits 0x20 == 0 then codes "-" else codes "override"
    else if bit_and bits 0x20 == 0 then codes "solicited"
    else codes "solicited,override"

abbrev pub of_router : ℕ → List ℕ
of_router bits =
    if bit_and bits 0x40 == 0 then if bit_and bits 0x20 == 0 then codes "router" else codes "router,override"
    else if bit_and bits 0x20 == 0 then codes "router,solicited"
    else codes "router,solicited,override"

abbrev pub neighbor_flags_text : ℕ → List ℕ
neighbor_flags_text bits = if bit_and bits 0x80 == 0 then of_no_router bits else of_router bits

-- the bits that have a name, among some bits
abbrev pub known_router : ℕ → ℕ
known_router bits = bit_and bits 0xc0

abbrev pub known_neighbor : ℕ → ℕ
known_neighbor bits = bit_and bits 0xe0
