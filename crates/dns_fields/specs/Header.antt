-- The fields of the header of a message (RFC 1035 section 4.1.1, RFC 4035 section 3.1.6; RFC 4795
-- section 2.1.1 of LLMNR; RFC 1002 section 4.2.1.1 of the NetBIOS name service).
use Rattle.std.specs.Prelude.{◌++◌, [], ◌∷◌, List, ℕ, codes}
use Rattle.wirebase.specs.Bytes.{number_of}
use Rattle.dns_wire.specs.DnsPacket.{flags_field, id_field, opcode_in, rcode_in}
use Rattle.packet_fields.specs.Fields.{Item, field, named, number, texts}
use Rattle.packet_fields.specs.Names.{Rows, name_in}
use Rattle.packet_fields.specs.Texts.{flag_names}
use Rattle.dns_fields.specs.declared.kind.Kind.{Kind}

-- each flag by its bit; `z` is reserved
unfoldable pub dns_flags : Rows
dns_flags =
    (0x8000, codes "qr") ∷ (0x400, codes "aa") ∷ (0x200, codes "tc") ∷ (0x100, codes "rd") ∷ (0x80, codes "ra")
    ∷ (0x40, codes "z") ∷ (0x20, codes "ad") ∷ (0x10, codes "cd") ∷ []

-- In LLMNR a conflict is in the place of the authoritative answer, and a tentative one in that of the wish for
-- recursion; the four bits after it are reserved.
unfoldable pub llmnr_flags : Rows
llmnr_flags =
    (0x8000, codes "qr") ∷ (0x400, codes "c") ∷ (0x200, codes "tc") ∷ (0x100, codes "t") ∷ (0x80, codes "z1")
    ∷ (0x40, codes "z2") ∷ (0x20, codes "z3") ∷ (0x10, codes "z4") ∷ []

-- In the NetBIOS name service two bits are reserved, and the last flag is that of a broadcast.
unfoldable pub nbns_flags : Rows
nbns_flags =
    (0x8000, codes "qr") ∷ (0x400, codes "aa") ∷ (0x200, codes "tc") ∷ (0x100, codes "rd") ∷ (0x80, codes "ra")
    ∷ (0x40, codes "z1") ∷ (0x20, codes "z2") ∷ (0x10, codes "b") ∷ []

abbrev pub flag_rows : Kind → Rows
flag_rows Kind.Llmnr = llmnr_flags
flag_rows Kind.Nbns = nbns_flags
flag_rows _ = dns_flags

-- kinds of query, by IANA's registry of DNS opcodes
unfoldable pub dns_opcodes : Rows
dns_opcodes =
    (0, codes "QUERY") ∷ (1, codes "IQUERY") ∷ (2, codes "STATUS") ∷ (4, codes "NOTIFY") ∷ (5, codes "UPDATE")
    ∷ (6, codes "DSO") ∷ []

-- Those of the NetBIOS name service; a refresh has two numbers (RFC 1002 sections 4.2.1.1 and 4.2.4), and 15 is that of
-- a host with several addresses.
unfoldable pub nbns_opcodes : Rows
nbns_opcodes =
    (0, codes "QUERY") ∷ (5, codes "REGISTRATION") ∷ (6, codes "RELEASE") ∷ (7, codes "WACK") ∷ (8, codes "REFRESH")
    ∷ (9, codes "REFRESH") ∷ (15, codes "MULTIHOMED_REGISTRATION") ∷ []

abbrev pub opcode_rows : Kind → Rows
opcode_rows Kind.Nbns = nbns_opcodes
opcode_rows _ = dns_opcodes

-- outcomes, by IANA's registry of DNS response codes
unfoldable pub dns_rcodes : Rows
dns_rcodes =
    (0, codes "NOERROR") ∷ (1, codes "FORMERR") ∷ (2, codes "SERVFAIL") ∷ (3, codes "NXDOMAIN") ∷ (4, codes "NOTIMP")
    ∷ (5, codes "REFUSED") ∷ (6, codes "YXDOMAIN") ∷ (7, codes "YXRRSET") ∷ (8, codes "NXRRSET")
    ∷ (9, codes "NOTAUTH") ∷ (10, codes "NOTZONE") ∷ (11, codes "DSOTYPENI") ∷ []

-- those of the NetBIOS name service (RFC 1002 sections 4.2.6, 4.2.11 and 4.2.14)
unfoldable pub nbns_rcodes : Rows
nbns_rcodes =
    (0, codes "NOERROR") ∷ (1, codes "FMT_ERR") ∷ (2, codes "SRV_ERR") ∷ (3, codes "NAM_ERR") ∷ (4, codes "IMP_ERR")
    ∷ (5, codes "RFS_ERR") ∷ (6, codes "ACT_ERR") ∷ (7, codes "CFT_ERR") ∷ []

abbrev pub rcode_rows : Kind → Rows
rcode_rows Kind.Nbns = nbns_rcodes
rcode_rows _ = dns_rcodes

-- the word that has the flags, the kind of query and the outcome
abbrev pub word_in : List ℕ → ℕ
word_in octets = number_of flags_field octets

abbrev pub flags_items : Kind → ℕ → List Item
flags_items kind word = field (codes "flags") (texts (flag_names (flag_rows kind) word)) ∷ []

abbrev pub opcode_items : Kind → ℕ → List Item
opcode_items kind word = named (codes "opcode") (opcode_in word) (name_in (opcode_rows kind) (opcode_in word)) ∷ []

abbrev pub rcode_items : Kind → ℕ → List Item
rcode_items kind word = named (codes "rcode") (rcode_in word) (name_in (rcode_rows kind) (rcode_in word)) ∷ []

abbrev pub word_items : Kind → ℕ → List Item
word_items kind word = flags_items kind word ++ opcode_items kind word ++ rcode_items kind word

abbrev pub header_items : Kind → List ℕ → List Item
header_items kind octets =
    field (codes "transaction_id") (number (number_of id_field octets)) ∷ word_items kind (word_in octets)
