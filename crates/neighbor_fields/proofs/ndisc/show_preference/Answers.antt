-- The number, and its name.
use Rattle.neighbor_fields.proofs.ndisc.show_preference.Goals as goal

pub returns : goal.returns
returns g c =
    rw c.preference_name-name.ensures at c.named.ensures
