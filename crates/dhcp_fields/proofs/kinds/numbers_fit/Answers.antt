use Rattle.dhcp_fields.proofs.Numbers.{bytes_fit}
use Rattle.dhcp_fields.proofs.kinds.numbers_fit.Goals as goal

pub returns : goal.returns
returns c = bytes_fit c.args.kinds.now c.are_bytes.ensures
