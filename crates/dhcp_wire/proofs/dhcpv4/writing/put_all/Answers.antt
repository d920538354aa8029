use Rattle.dhcp_wire.proofs.Words.{arith}
use Rattle.dhcp_wire.proofs.Dhcpv4Writing.{emission, emitted_step}
use Rattle.dhcp_wire.proofs.dhcpv4.writing.put_all.Goals as goal

pub returns-in_err-emit-clause-steps : goal.returns-in_err-emit-clause-steps
returns-in_err-emit-clause-steps c =
    let step = emitted_step c.loop-option.w c.emit.new.self c.emit.result _ c.emit.ensures.accepts
    c.emit.ensures.settled c.emit.ensures.free c.emit.ensures.refused in
    grind (arith, emission, step)

pub loop-option-preserved : goal.loop-option-preserved
loop-option-preserved c =
    let step = emitted_step c.loop-option.w c.emit.new.self c.emit.result _ c.emit.ensures.accepts
    c.emit.ensures.settled c.emit.ensures.free c.emit.ensures.refused in
    grind (arith, emission, step)
