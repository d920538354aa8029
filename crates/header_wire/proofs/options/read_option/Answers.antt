use Rattle.std.proofs.Common.{rules, arith}
use Rattle.header_wire.proofs.OptionTiles.{alert_option}
use Rattle.header_wire.proofs.options.read_option.Goals as goal

pub returns-then-data-eq2 : goal.returns-then-data-eq2
returns-then-data-eq2 c =
    alert_option c.args.octets.now c.u16_at.result c.requires (omega (arith, c.if-octets-lt2.false)) c.if-kind.true
    (search rules) c.u16_at.ensures
