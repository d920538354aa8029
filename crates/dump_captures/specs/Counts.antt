-- Packets counted by the number that a registry gives what they are of.
use Rattle.std.specs.Prelude.{ℕ, ◌==◌, ◌||◌, ◌&&◌, nat_lt, Bool, false, if◌then◌else◌, List, [], ◌∷◌, ◌++◌, length}
use Rattle.std.specs.Prelude.{Option, None, Some, codes, decimal, flat_map}
use Rattle.frame_wire.specs.Names.{ether_type_names, link_names, name_in, protocol_names}
use Rattle.wirebase.specs.ByteWriter.{be16}
use Rattle.wirebase.specs.Hexadecimal.{octets_text}
use Rattle.dump_captures.specs.Numbers.{in_brackets, one_more}
use Rattle.dump_captures.specs.declared.counts.Category.{Category}
use Rattle.dump_captures.specs.declared.counts.Category.TheVariants as category
use Rattle.dump_captures.specs.declared.counts.Count.{Count}
use Rattle.dump_captures.specs.declared.counts.Counts.{Counts}

-- ---- categories

-- the place of a registry among them, and the number in it
abbrev pub registry_place : Category → ℕ
registry_place (category.Link n) = 0
registry_place (category.Protocol n) = 1
registry_place (category.EtherType n) = 2
registry_place (category.Network n) = 3

abbrev pub number_of : Category → ℕ
number_of (category.Link n) = n
number_of (category.Protocol n) = n
number_of (category.EtherType n) = n
number_of (category.Network n) = n

-- the same number of the same registry
abbrev pub is_of : Category → Category → Bool
is_of a b = (registry_place a == registry_place b) && (number_of a == number_of b)

abbrev pub name_or : List ℕ → Option (List ℕ) → List ℕ
name_or other None = other
name_or other (Some name) = name

-- by its name in the registry, or else by its number
abbrev pub category_text : Category → List ℕ
category_text (category.Link n) = name_or (decimal n) (name_in link_names n)
category_text (category.Protocol n) = name_or (codes "protocol " ++ decimal n) (name_in protocol_names n)
category_text (category.EtherType n) = name_or (codes "ethertype 0x" ++ octets_text (be16 n)) (name_in
    ether_type_names n)
category_text (category.Network n) = codes "network " ++ decimal n

-- ---- the packets of each

-- all packets, the rows of the first 16 categories, and the packets of further ones
pub record CountsValue : Type 0 where
  pub all : ℕ
  pub rows : List Count
  pub further : ℕ

abbrev pub counts_of : Counts → CountsValue
counts_of c = record { all = c.all; rows = c.rows.items; further = c.further }

abbrev pub no_counts : CountsValue
no_counts = record { all = 0; rows = []; further = 0 }

abbrev pub has_category : Category → List Count → Bool
has_category c [] = false
has_category c (row ∷ rows) = is_of row.category c || has_category c rows

abbrev pub one_more_in : Count → Count
one_more_in row = record row { packets = one_more row.packets }

abbrev pub one_more_of : Category → List Count → List Count
one_more_of c [] = record { category = c; packets = 1 } ∷ []
one_more_of c (row ∷ rows) =
    if is_of row.category c then one_more_in row ∷ rows else row ∷ one_more_of c rows

-- one packet more of a category
abbrev pub in_its_row : Category → CountsValue → CountsValue
in_its_row c counts =
    if has_category c counts.rows || nat_lt (length counts.rows) 16
    then record counts { rows = one_more_of c counts.rows }
    else record counts { further = one_more counts.further }

abbrev pub with_one_more : Category → CountsValue → CountsValue
with_one_more c counts = in_its_row c (record counts { all = one_more counts.all })

-- ---- what is printed of them

-- as `2 tcp`
abbrev pub row_part : Count → List ℕ
row_part row = decimal row.packets ++ codes " " ++ category_text row.category

abbrev pub further_parts : ℕ → List (List ℕ)
further_parts n = if n == 0 then [] else (decimal n ++ codes " further") ∷ []

-- as ` (2 tcp, 1 arp, 3 further)`, and nothing where there is none
unfoldable pub counts_text : CountsValue → List ℕ
counts_text counts = in_brackets (flat_map (λ row. row_part row ∷ []) counts.rows ++ further_parts counts.further)
