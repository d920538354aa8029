-- The class in multicast DNS: its top bit is a flag, and the other fifteen bits are the class. In a question the flag
-- asks for an answer to the asker alone (RFC 6762 section 5.4); in a record it says that older records of the name,
-- type and class are to be dropped (RFC 6762 section 10.2). OPT has a payload size in the place of a class,
-- and no flag.
use Rattle.std.specs.Prelude.{◌%◌, ◌==◌, ◌&&◌, Bool, ℕ, false, if◌then◌else◌, nat_le, not}
use Rattle.dns_wire.specs.declared.dns.tables.Type.{«Type» as RecordType}

abbrev pub class_of : ℕ → ℕ
class_of class = class % 0x8000

abbrev pub has_top_bit : ℕ → Bool
has_top_bit class = nat_le 0x8000 class

-- the type of the record whose class is a payload size (RFC 6891 section 6.1.1)
abbrev pub is_opt : RecordType → Bool
is_opt (RecordType.Unknown n) = n == 41
is_opt _ = false

-- the class of a record of this type, and whether the record flushes caches
abbrev pub record_class_of : RecordType → ℕ → ℕ
record_class_of t class = if is_opt t then class else class_of class

abbrev pub flushes : RecordType → ℕ → Bool
flushes t class = not (is_opt t) && has_top_bit class

-- In multicast DNS the class is without its top bit.
abbrev pub question_class : Bool → ℕ → ℕ
question_class is_multicast class = if is_multicast then class_of class else class

abbrev pub record_class : Bool → RecordType → ℕ → ℕ
record_class is_multicast kind class = if is_multicast then record_class_of kind class else class
