use Rattle.icmp6_wire.specs.Words.{be8, be16, fields}
use Rattle.opt_wire.proofs.FieldsAtOnce.{puts-fields}
use Rattle.icmp6_wire.proofs.mld.repr.put_report_header.Goals as goal

pub returns-clause-puts : goal.returns-clause-puts
unfolding fields be8 be16
returns-clause-puts c = puts-fields c.put_header.ensures.puts (rw (c.into.ensures, c.to_be_bytes.ensures))
