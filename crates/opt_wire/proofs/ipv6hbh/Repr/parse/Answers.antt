use Rattle.opt_wire.proofs.Words.{all_rewrites, arith}
use Rattle.opt_wire.specs.Ipv6Hbh.{view_octets, value_of, format}
use Rattle.opt_wire.proofs.Ipv6HbhFormat.{header_format}
use Rattle.opt_wire.proofs.ipv6hbh.Repr.parse.Goals as goal

pub returns-clause-rewrites : goal.returns-clause-rewrites
returns-clause-rewrites c =
    all_rewrites (format 8) (header_format 8 (omega arith)) value_of
    (view_octets c.args.header.now) c.read.result c.are_bytes.ensures c.read.ensures.sound
