-- Some numbers.
use Rattle.dhcp_fields.proofs.Numbers.{line_is}
use Rattle.dhcp_fields.proofs.kinds.put_line.Goals as goal

pub returns : goal.returns
returns g c = rw (← line_is c.args.kinds.now c.if-is_empty.ensures) c.put_numbers.ensures
