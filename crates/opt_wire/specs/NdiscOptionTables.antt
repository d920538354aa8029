-- The numbers of a neighbor discovery option: its type, and the flags of a prefix.
use Rattle.std.specs.Prelude.{◌≡◌, ℕ, ◌==◌, if◌then◌else◌, List, [], ◌∷◌, codes, decimal}
use Rattle.std.specs.Int.RustNames.{bit_and}
use Rattle.opt_wire.specs.Words.{case_in, rows_of}
use Rattle.opt_wire.specs.declared.ndiscoption.tables.Type.{«Type» as Kind}
use Rattle.opt_wire.specs.declared.ndiscoption.tables.PrefixInfoFlags.{PrefixInfoFlags}

-- option types (RFC 4861 section 4.6)
abbrev pub type_number : Kind → ℕ
type_number Kind.SourceLinkLayerAddr = 1
type_number Kind.TargetLinkLayerAddr = 2
type_number Kind.PrefixInformation = 3
type_number Kind.RedirectedHeader = 4
type_number Kind.Mtu = 5
type_number (Kind.Unknown n) = n

abbrev pub types : List Kind
types =
    Kind.SourceLinkLayerAddr ∷ Kind.TargetLinkLayerAddr ∷ Kind.PrefixInformation ∷ Kind.RedirectedHeader ∷ Kind.Mtu ∷ []

abbrev pub type_rows : List (Kind × ℕ)
type_rows = rows_of type_number types

abbrev pub type_of : ℕ → Kind
type_of n = case_in Kind.Unknown type_rows n

-- the printed text of a type
abbrev pub type_text : Kind → List ℕ
type_text Kind.SourceLinkLayerAddr = codes "source link-layer address"
type_text Kind.TargetLinkLayerAddr = codes "target link-layer address"
type_text Kind.PrefixInformation = codes "prefix information"
type_text Kind.RedirectedHeader = codes "redirected header"
type_text Kind.Mtu = codes "mtu"
type_text (Kind.Unknown n) = decimal n

-- each flag of a prefix with its bit (RFC 4861 section 4.6.2)
abbrev pub flag_rows : List (List ℕ × ℕ)
flag_rows = (codes "ON_LINK", 0x80) ∷ (codes "ADDRCONF", 0x40) ∷ []

-- the printed text of a set of flags: the names of those that are set, with a comma between them; `-` where none is
abbrev pub flags_text : ℕ → List ℕ
flags_text bits =
    if bit_and bits 0x80 == 0 then if bit_and bits 0x40 == 0 then codes "-" else codes "addrconf"
    else if bit_and bits 0x40 == 0 then codes "on_link"
    else codes "on_link,addrconf"

-- the bits of a set of flags, all bits that have a name, those among some bits, and bits that all have a name
abbrev pub flag_bits : PrefixInfoFlags → ℕ
flag_bits flags = flags.0

abbrev pub known_bits : ℕ
known_bits = 0xc0

abbrev pub known : ℕ → ℕ
known bits = bit_and bits known_bits

abbrev pub IsKnown : ℕ → Type 0
IsKnown bits = known bits ≡ bits

-- hosts may make addresses of the prefix
abbrev pub HasAddrconf : PrefixInfoFlags → Type 0
HasAddrconf flags = bit_and flags.0 0x40 ≡ 0x40
