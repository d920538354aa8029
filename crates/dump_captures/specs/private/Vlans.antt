-- The numbers of VLANs with commas between them, as they are printed in a loop.
use Rattle.std.specs.Prelude.{[], ◌∷◌, ◌++◌, Bool, List, decimal, false, ℕ}
use Rattle.frame_wire.specs.Link.{vlan_in}
use Rattle.packet_fields.specs.Fields.{comma_unless}

-- that of a tag, after a comma where it is not the first
abbrev pub one_of : Bool → List ℕ → List ℕ
one_of is_first tag = comma_unless is_first ++ decimal (vlan_in tag 0)

abbrev pub run_from : Bool → List ℕ → List ℕ
run_from is_first (a ∷ b ∷ c ∷ d ∷ rest) = one_of is_first (a ∷ b ∷ c ∷ d ∷ []) ++ run_from false rest
run_from is_first _ = []
