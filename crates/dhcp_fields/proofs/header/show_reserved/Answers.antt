-- Some are set.
use Rattle.std.proofs.Common.{ne_eqb}
use Rattle.dhcp_fields.proofs.header.show_reserved.Goals as goal

pub returns : goal.returns
returns g c = rw (ne_eqb c.args.bits 0 c.if-bits-eq0.false) c.field.ensures
