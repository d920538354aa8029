-- Options of neighbor discovery that are not refused.
use Rattle.std.specs.Prelude.{◌≡◌, ◌≤◌, List, None, length, ℕ}
use Rattle.neighbor_fields.specs.Messages.{type_in}
use Rattle.neighbor_fields.specs.Ndisc.{wrong_form}

-- what is known of one of a type
pub record IsRight (t : ℕ) (option : List ℕ) : Type 0 where
  pub kind : type_in option ≡ t
  pub long : 2 ≤ length option
  pub right_form : wrong_form option ≡ None
