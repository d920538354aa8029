-- What is printed in a row, as attributes name it: texts and fields, where there are some and where there are none.
use Rattle.packet_fields.proofs.Fields.{prints_both, prints_none}
use Rattle.packet_fields.proofs.Printing.{gained, gains_both, gains_none}

pub ruleset texts = (gained, gains_both, gains_none)

pub ruleset fields = (prints_both, prints_none)
