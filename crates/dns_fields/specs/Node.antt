-- Addresses and names of nodes, each with its flags (RFC 1002 sections 4.2.1.3 and 4.2.18).
--
--   0   1   2   3   4   5   6   7   8   9  10  11  12  13  14  15
-- +---+-------+---+---+---+---+-----------------------------------+
-- | G |  type |DRG|CNF|ACT|PRM|             reserved              |
-- +---+-------+---+---+---+---+-----------------------------------+
--
-- An address has the flag G and the type alone.
use Rattle.std.specs.Prelude.{zero, suc, ◌/◌, ◌%◌, ◌==◌, [], ◌∷◌, ◌++◌, List, ℕ, codes, drop, if◌then◌else◌, length}
use Rattle.std.specs.Prelude.{map, take}
use Rattle.std.specs.Int.RustNames.{bit_and}
use Rattle.wirebase.specs.Bytes.{field, number_of}
use Rattle.packet_fields.specs.Texts.{v4_text}
use Rattle.dns_fields.specs.Netbios.{bytes_text}
use Rattle.dns_fields.specs.declared.node.Part.{Part}

-- ---- flags

-- whether the name is of a group
abbrev pub group_text : ℕ → List ℕ
group_text word = if bit_and word 0x8000 == 0 then codes "unique " else codes "group "

-- the type of its owner (RFC 1001 section 10); 3 is that of a mixed node which asks a name server first
abbrev pub type_text : ℕ → List ℕ
type_text n =
    if n == 0 then codes "b-node" else if n == 1 then codes "p-node" else if n == 2 then codes "m-node"
    else codes "h-node"

abbrev pub node_text : ℕ → List ℕ
node_text word = group_text word ++ type_text (word / 0x2000 % 4)

abbrev pub flag_text : ℕ → List ℕ → List ℕ
flag_text bit name = if bit == 0 then [] else name

-- whether the name is being deregistered, in conflict, active, and permanent
abbrev pub state_text : ℕ → List ℕ
state_text word =
    flag_text (bit_and word 0x1000) (codes " deregister") ++ (flag_text (bit_and word 0x800) (codes " conflict")
    ++ (flag_text (bit_and word 0x400) (codes " active") ++ flag_text (bit_and word 0x200) (codes " permanent")))

-- ---- addresses and names

abbrev pub address_text : List ℕ → List ℕ
address_text bytes =
    node_text (number_of (field 0 2) bytes) ++ (codes " " ++ v4_text (drop 2 bytes))

abbrev pub name_text : List ℕ → List ℕ
name_text bytes =
    bytes_text (take 16 bytes) ++ (codes " " ++ (node_text (number_of (field 16 18) bytes)
    ++ state_text (number_of (field 16 18) bytes)))

-- ---- entries of data

abbrev pub width : Part → ℕ
width Part.Address = 6
width Part.Name = 18

abbrev pub part_text : Part → List ℕ → List ℕ
part_text Part.Address bytes = address_text bytes
part_text Part.Name bytes = name_text bytes

-- so many entries, from the first on
abbrev pub entries_in : ℕ → ℕ → List ℕ → List (List ℕ)
entries_in len zero bytes = []
entries_in len (suc count) bytes = take len bytes ∷ entries_in len count (drop len bytes)

-- the texts of the whole ones
abbrev pub part_texts : Part → List ℕ → List (List ℕ)
part_texts part bytes = map (part_text part) (entries_in (width part) (length bytes / width part) bytes)
