-- A stack of MPLS labels (RFC 4950 section 3): entries (RFC 3032 section 2.1), each of them
--
--  0                   1                   2                   3
--  0 1 2 3 4 5 6 7 8 9 0 1 2 3 4 5 6 7 8 9 0 1 2 3 4 5 6 7 8 9 0 1
-- +---------------------------------------+-----+-+---------------+
-- |                 label                 |class|S| time to live  |
-- +---------------------------------------+-----+-+---------------+
use Rattle.std.specs.Prelude.{◌≡◌, ◌↔◌, ℕ, ◌+◌, ◌*◌, ◌/◌, ◌%◌, ◌^◌, ◌<◌, IsTrue, List, [], ◌∷◌, length, take, drop}
use Rattle.std.specs.Prelude.{Option, None, Some, map, if◌then◌else◌}
use Rattle.std.specs.List.{AllByRecursion}
use Rattle.byteorder.specs.Endian.{big_number}
use Rattle.wirebase.specs.Bytes.{over}
use Rattle.wirebase.specs.ByteWriter.{be32, fields}
use Rattle.wirebase.specs.Format.{Format, RoundTrips}
use Rattle.extension_wire.specs.declared.mpls.LabelEntry.{LabelEntry}
use Rattle.extension_wire.specs.declared.mpls.LabelStack.{LabelStack}

-- the octets of a stack
abbrev pub octets_in : LabelStack → List ℕ
octets_in stack = stack.octets.now

-- an entry as a number of 32 bits, its fields and its text
abbrev pub entry_number : LabelEntry → ℕ
entry_number e =
    e.label * 0x1000 + e.traffic_class * 0x200 + (if e.bottom then 0x100 else 0) + e.ttl

abbrev pub entry_fields : LabelEntry → List (List ℕ)
entry_fields e = be32 (entry_number e) ∷ []

abbrev pub text : LabelEntry → List ℕ
text e = fields (entry_fields e)

-- The grammar: these four bytes are an entry.
pub record IsEntry (bytes : List ℕ) (e : LabelEntry) : Type 0 where
  pub whole : length bytes ≡ 4
  pub label_is : e.label ≡ big_number 4 bytes / 0x1000
  pub traffic_class_is : e.traffic_class ≡ big_number 4 bytes / 0x200 % 8
  pub bottom_is : IsTrue e.bottom ↔ (big_number 4 bytes / 0x100 % 2 ≡ 1)
  pub ttl_is : e.ttl ≡ big_number 4 bytes % 0x100

-- the label and the traffic class have 20 bits and 3
pub record Fits (e : LabelEntry) : Type 0 where
  pub label : e.label < 2 ^ 20
  pub traffic_class : e.traffic_class < 8

-- an entry that its own text gives back
abbrev pub IsCanonical : LabelEntry → Type 0
IsCanonical e = Fits e × (e.ttl < 256)

-- the format; each value is its normal form, and none is an exception
abbrev pub format : Format LabelEntry
format =
    record {
      Reads = IsEntry;
      Fills = Unit {0};
      text = text;
      IsCanonical = IsCanonical;
      IsException = λ e. ⊥;
      norm = λ e. e;
      IsCut = λ e. ⊥;
    }

-- what writing an entry over `old` leaves: its text over the front, and where `old` has four bytes, that alone
pub record Emits (e : LabelEntry) (old new : List ℕ) : Type 0 where
  pub written : new ≡ over old (text e)
  pub exact : length old ≡ 4 → new ≡ text e
  pub round_trips : RoundTrips format e

-- The entries in some bytes, one after another, as many as are whole.
abbrev pub AreEntries : List ℕ → List LabelEntry → Type 0
AreEntries bytes [] = length bytes < 4
AreEntries bytes (e ∷ entries) = IsEntry (take 4 bytes) e × AreEntries (drop 4 bytes) entries

-- a call of `next` gives the first entry and takes it off; where none is left it gives None, and none is left
-- afterwards
abbrev pub GivesEntry : List LabelEntry → Option LabelEntry → List LabelEntry → Type 0
GivesEntry old None new = (old ≡ []) × (new ≡ [])
GivesEntry old (Some entry) new = old ≡ entry ∷ new

-- ---- a stack

abbrev pub stack_text : List LabelEntry → List ℕ
stack_text entries = fields (map text entries)

-- What writing a stack over `old` leaves: the text of each entry over the front, one after another, where the entries
-- are read again; and where `old` has exactly their length, these alone.
pub record EmitsAll (entries : List LabelEntry) (old new : List ℕ) : Type 0 where
  pub written : new ≡ over old (stack_text entries)
  pub exact : length old ≡ 4 * length entries → new ≡ stack_text entries
  pub reads_back : AllByRecursion IsCanonical entries → AreEntries (stack_text entries) entries
