-- The state, and the flags.
use Rattle.packet_fields.proofs.Fields.{◌and◌, prints_last}
use Rattle.icmp_fields.proofs.extended_echo.show_state.Goals as goal

pub returns : goal.returns
returns g c =
    let state = rw c.state_name.ensures at c.in_ok-named.ensures in
    prints_last _ _ _ (state and c.in_ok-field.ensures and c.in_ok-field-2.ensures) c.field-3.ensures
