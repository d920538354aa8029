-- The numbers of DNS messages: kinds of query, outcomes, types of record, and flags.
use Rattle.std.specs.Prelude.{◌≡◌, [], ◌∷◌, List, ℕ, codes}
use Rattle.std.specs.Int.Bits.{bit_and}
use Rattle.dns_wire.specs.Words.{Opcode, Rcode}
use Rattle.wirebase.specs.Numbered.{rows_of, case_in}
use Rattle.dns_wire.specs.declared.dns.tables.Type.{«Type» as RecordType}
use Rattle.dns_wire.specs.declared.dns.tables.Flags.{Flags}

-- kinds of query (RFC 1035 section 4.1.1, except for the number of a status request, which is 2 there)
abbrev pub opcode_number : Opcode → ℕ
opcode_number Opcode.Query = 0
opcode_number Opcode.Status = 1
opcode_number (Opcode.Unknown n) = n

abbrev pub opcodes : List Opcode
opcodes = Opcode.Query ∷ Opcode.Status ∷ []

abbrev pub opcode_rows : List (Opcode × ℕ)
opcode_rows = rows_of opcode_number opcodes

abbrev pub opcode_of : ℕ → Opcode
opcode_of n = case_in Opcode.Unknown opcode_rows n

-- outcomes of a query (RFC 1035 section 4.1.1, RFC 2136 section 2.2)
abbrev pub rcode_number : Rcode → ℕ
rcode_number Rcode.NoError = 0
rcode_number Rcode.FormErr = 1
rcode_number Rcode.ServFail = 2
rcode_number Rcode.NXDomain = 3
rcode_number Rcode.NotImp = 4
rcode_number Rcode.Refused = 5
rcode_number Rcode.YXDomain = 6
rcode_number Rcode.YXRRSet = 7
rcode_number Rcode.NXRRSet = 8
rcode_number Rcode.NotAuth = 9
rcode_number Rcode.NotZone = 10
rcode_number (Rcode.Unknown n) = n

abbrev pub rcode_rows : List (Rcode × ℕ)
rcode_rows =
    rows_of rcode_number
    (Rcode.NoError ∷ Rcode.FormErr ∷ Rcode.ServFail ∷ Rcode.NXDomain
    ∷ Rcode.NotImp ∷ Rcode.Refused ∷ Rcode.YXDomain ∷ Rcode.YXRRSet
    ∷ Rcode.NXRRSet ∷ Rcode.NotAuth ∷ Rcode.NotZone ∷ [])

abbrev pub rcode_of : ℕ → Rcode
rcode_of n = case_in Rcode.Unknown rcode_rows n

-- types of record (RFC 1035 section 3.2.2, RFC 3596 section 2.1)
abbrev pub type_number : RecordType → ℕ
type_number RecordType.A = 1
type_number RecordType.Ns = 2
type_number RecordType.Cname = 5
type_number RecordType.Soa = 6
type_number RecordType.Aaaa = 28
type_number (RecordType.Unknown n) = n

abbrev pub types : List RecordType
types = RecordType.A ∷ RecordType.Ns ∷ RecordType.Cname ∷ RecordType.Soa ∷ RecordType.Aaaa ∷ []

abbrev pub type_rows : List (RecordType × ℕ)
type_rows = rows_of type_number types

abbrev pub type_of : ℕ → RecordType
type_of n = case_in RecordType.Unknown type_rows n

-- each flag's name and bit (RFC 1035 section 4.1.1, RFC 4035 section 3.2)
abbrev pub flag_rows : List (List ℕ × ℕ)
flag_rows =
    (codes "RESPONSE", 0x8000) ∷ (codes "AUTHORITATIVE", 0x0400) ∷ (codes "TRUNCATED", 0x0200)
    ∷ (codes "RECURSION_DESIRED", 0x0100) ∷ (codes "RECURSION_AVAILABLE", 0x0080)
    ∷ (codes "AUTHENTIC_DATA", 0x0020) ∷ (codes "CHECK_DISABLED", 0x0010) ∷ []

-- the bits of a set of flags, all bits that have a name, and a set that has no other
abbrev pub flag_bits : Flags → ℕ
flag_bits flags = flags.0

abbrev pub known_bits : ℕ
known_bits = 0x87b0

abbrev pub IsKnown : ℕ → Type 0
IsKnown bits = bit_and bits known_bits ≡ bits
