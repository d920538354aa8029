use Rattle.record_wire.proofs.Words.{arith}
use Rattle.record_wire.proofs.EdnsTiles.{data_cut}
use Rattle.record_wire.proofs.edns.why_no_option.Goals as goal

pub returns : goal.returns
returns c = data_cut c.args.octets.now (omega (arith, c.if-octets-lt-DATA.false)) c.requires
