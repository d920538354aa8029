-- What follows the header of a message, in order (RFC 1035 section 4.1): the questions, and then the records that
use Rattle.std.specs.Prelude.{◌≡◌, ◌-◌, ◌≤◌, ◌&&◌, Bool, List, ℕ, if◌then◌else◌, nat_lt, not, true}
use Rattle.record_wire.specs.Words.{Section}
use Rattle.record_wire.specs.Entries.{section_at, EntryValue, IsEntry, Left}

-- the octets begin with an entry of a section
abbrev pub HasEntry : Section → List ℕ → Type 0
HasEntry section bytes = (value : EntryValue) × (rest : List ℕ) × IsEntry section bytes value rest

-- a further entry is left where the header counts one more, and none was refused
abbrev pub is_left : Left → Bool
is_left left = not left.refused && nat_lt left.taken left.ends.all

-- the number of entries that are left
abbrev pub are_left : Left → ℕ
are_left left = if left.refused then 0 else left.ends.all - left.taken

-- no more were returned than there are, and where one was refused none begins
pub record IsSettled (left : Left) : Type 0 where
  pub most : left.taken ≤ left.ends.all
  pub none : left.refused ≡ true → HasEntry (section_at left.ends left.taken) left.bytes → ⊥
