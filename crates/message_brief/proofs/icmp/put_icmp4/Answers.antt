-- The type and the code, and what is behind them.
use Rattle.std.proofs.Common.{◌≤◌, arith, length, refl}
use Rattle.std.proofs.lemmas.Bool.{le-ltb}
use Rattle.wirebase.proofs.Sinks.{puts_two}
use Rattle.message_brief.proofs.icmp.put_icmp4.Goals as goal

pub returns : goal.returns
returns g c =
    let bytes = c.args.octets.now in
    let long : 4 ≤ length bytes = omega arith in
    rw (le-ltb (length bytes) 4 long)
    (puts_two g.S.Sink.took _ _ _ _ _ _ c.put_behind4.result c.in_ok-put_head4.ensures c.put_behind4.ensures refl)
