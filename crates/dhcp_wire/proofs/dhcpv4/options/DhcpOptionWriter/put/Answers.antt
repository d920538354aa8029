use Rattle.dhcp_wire.proofs.Words.{◌∙◌, Ok, ap, option, option_map, progress, slot, step_slot, sym}
use Rattle.dhcp_wire.proofs.Dhcpv4Writing.{emitted_step}
use Rattle.dhcp_wire.proofs.dhcpv4.options.DhcpOptionWriter.put.Goals as goal

pub returns-in-Some-clause-step : goal.returns-in-Some-clause-step
unfolding step_slot
returns-in-Some-clause-step g c =
    emitted_step c.args.self.now c.emit_data.new.self c.emit_data.result
    (option c.args.kind (g.D.Data.bytes c.in-Some.«data»)) c.emit_data.ensures.accepts c.emit_data.ensures.settled
    c.emit_data.ensures.free c.emit_data.ensures.refused
    ∙ ap (λ field. step_slot (progress c.args.self.now (Ok tt)) (slot c.args.kind (option_map g.D.Data.bytes field)))
    (sym c.in-Some.is)

pub returns-in-None-clause-step : goal.returns-in-None-clause-step
unfolding step_slot
returns-in-None-clause-step g c =
    ap (λ field. step_slot (progress c.args.self.now (Ok tt)) (slot c.args.kind (option_map g.D.Data.bytes field)))
    (sym c.in-None.is)
