-- The VLAN tags of a frame (IEEE 802.1Q clause 9.6): four bytes each, of which the first two have a priority of three
-- bits, a bit for frames that may be dropped first, and the number of the VLAN in twelve bits; the others are the type
-- of what is after the tag.
--
--  0                   1
--  0 1 2 3 4 5 6 7 8 9 0 1 2 3 4 5
-- +-----+-+-----------------------+
-- | PCP |D|          VID          |
-- +-----+-+-----------------------+
use Rattle.std.specs.Prelude.{◌≡◌, ◌+◌, ◌*◌, ◌/◌, ◌%◌, ◌==◌, [], ◌∷◌, List, None, Option, Some, ℕ}
use Rattle.frame_wire.specs.declared.link.vlans.VlanTag.{VlanTag}

-- the tag of two bytes
abbrev pub tag_of : ℕ → ℕ → VlanTag
tag_of high low = record {
  priority = high / 32;
  drop_eligible = high / 16 % 2 == 1;
  number = 256 * (high % 16) + low;
}

-- the tags in these bytes; fewer than four bytes at their end are no tag
unfoldable pub tags_in : List ℕ → List VlanTag
tags_in [] = []
tags_in (a ∷ []) = []
tags_in (a ∷ b ∷ []) = []
tags_in (a ∷ b ∷ c ∷ []) = []
tags_in (a ∷ b ∷ c ∷ d ∷ rest) = tag_of a b ∷ tags_in rest

-- a call of `next` returns the first tag and removes it; where none is left it returns None, and none is left after it
abbrev pub GivesFirst : List VlanTag → Option VlanTag → List VlanTag → Type 0
GivesFirst old None new = (old ≡ []) × (new ≡ [])
GivesFirst old (Some tag) new = old ≡ tag ∷ new
