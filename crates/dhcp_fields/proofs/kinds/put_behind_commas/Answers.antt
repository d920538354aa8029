-- Each turn prints one number more.
use Rattle.std.proofs.Common.{◌++◌, codes, decimal}
use Rattle.packet_fields.proofs.Printing.{◌then◌, gains_none, one_more}
use Rattle.dhcp_fields.proofs.kinds.put_behind_commas.Goals as goal

pub loop-kind-init : goal.loop-kind-init
loop-kind-init g c = gains_none _

pub loop-kind-preserved : goal.loop-kind-preserved
loop-kind-preserved g c =
    rw (one_more (λ next. codes "," ++ decimal next) c.args.kinds.now c.loop-kind.kind-index 0 c.loop-kind-test.true)
    (c.loop-kind.invariant then c.in_ok-put_behind_comma.ensures)
