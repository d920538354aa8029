use Rattle.opt_wire.proofs.Words.{◌≤◌, arith, units_in, view_octets}
use Rattle.opt_wire.proofs.NdiscOptionRefusals.{length-packet}
use Rattle.opt_wire.proofs.ndiscoption.refusal.why_not_redirected.Goals as goal

pub payload_len-requires : goal.payload_len-requires
payload_len-requires c =
    let bytes = view_octets c.args.opt.now in
    let fits : 6 ≤ units_in bytes = omega (arith, c.if-units-lt6.false, c.data_len-units.ensures) in
    rw (c.new_unchecked-packet.ensures, c.redirected.ensures)
    (omega (arith, fits, length-packet bytes c.requires.units fits))
