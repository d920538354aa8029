-- The parts as they are computed, which the iterator's model needs.
use Rattle.std.specs.Prelude.{ℕ, zero, suc, ◌+◌, ◌*◌, ◌/◌, nat_le, Bool, true, false, List, [], ◌∷◌, length, take, drop}
use Rattle.std.specs.Prelude.{Option, None, Some}
use Rattle.std.specs.Borrow.{Bor}
use Rattle.header_wire.specs.Fragments.{FragmentValue}

abbrev pub fragment : ℕ → Bool → List ℕ → FragmentValue
fragment offset more part = record { frag_offset = offset; more_frags = more; part = part }

-- the parts of some bytes, by whether there is room for all
abbrev pub after_part : Bool → ℕ → ℕ → List ℕ → (List ℕ → List FragmentValue) → List FragmentValue
after_part true room offset bytes go = fragment offset false bytes ∷ []
after_part false room offset bytes go =
    fragment offset true (take (8 * (room / 8)) bytes) ∷ go (drop (8 * (room / 8)) bytes)

-- in at most a given number of parts; a part takes a byte at least
unfoldable pub parts_within : ℕ → ℕ → ℕ → List ℕ → List FragmentValue
parts_within zero room offset bytes = fragment offset false bytes ∷ []
parts_within (suc most) room offset bytes =
    after_part (nat_le (length bytes) room) room offset bytes (parts_within most room (offset + room / 8))

-- the parts that are left, after the last none
abbrev pub parts_ahead : ℕ → ℕ → Option (Bor (List ℕ)) → List FragmentValue
parts_ahead room offset None = []
parts_ahead room offset (Some rest) = parts_within (length rest.now) room offset rest.now

-- the bytes that are left
abbrev pub bytes_left : Option (Bor (List ℕ)) → ℕ
bytes_left None = 0
bytes_left (Some rest) = length rest.now
