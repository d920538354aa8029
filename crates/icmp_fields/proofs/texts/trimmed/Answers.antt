-- Each turn leaves out a zero.
use Rattle.std.proofs.Common.{arith}
use Rattle.extension_wire.specs.InterfaceParts.{trimmed}
use Rattle.extension_wire.proofs.InterfacePartsRead.{zero_off, some_last, none_left}
use Rattle.icmp_fields.proofs.texts.trimmed.Goals.{then-loop-len-test+else-octets-len-eq0}
use Rattle.icmp_fields.proofs.texts.trimmed.Goals.{else-loop-len-test}
use Rattle.icmp_fields.proofs.texts.trimmed.Goals as goal

pub loop-len-preserved : goal.loop-len-preserved
loop-len-preserved c =
    let l = c.args.octets.now in (
      omega (arith, c.loop-len.invariant.0),
      zero_off l (trimmed l) c.loop-len.len (omega (arith, c.loop-len-test.true)) c.loop-len.invariant.0
          c.if-octets-len-eq0.true c.loop-len.invariant.1,
    )

pub returns : goal.returns
returns c =
    let l = c.args.octets.now in
    elim c.loop-len-test.branch [
      | then-loop-len-test+else-octets-len-eq0 w ↦
          some_last l (trimmed l) c.loop-len.len (omega (arith, w.loop-len-test.true)) c.loop-len.invariant.0
          w.if-octets-len-eq0.false c.loop-len.invariant.1
      | else-loop-len-test w ↦
          none_left l (trimmed l) c.loop-len.len (omega (arith, w.loop-len-test.false)) c.loop-len.invariant.1
    ]
