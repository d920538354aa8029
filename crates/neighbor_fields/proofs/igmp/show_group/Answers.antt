-- The address by its octets.
use Rattle.neighbor_fields.proofs.igmp.show_group.Goals as goal

pub returns : goal.returns
returns g c =
    rw c.field-addr.ensures.value at c.field.ensures
