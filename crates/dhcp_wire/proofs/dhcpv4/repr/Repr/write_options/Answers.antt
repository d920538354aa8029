use Rattle.dhcp_wire.proofs.Words.{◌≡◌, Err, arith, common_steps, options_of, rules, value_of}
use Rattle.dhcp_wire.proofs.Dhcpv4Writing.{writes-refused, writes-ended}
use Rattle.dhcp_wire.proofs.dhcpv4.repr.Repr.write_options.Goals as goal

pub returns-in_err-put_options : goal.returns-in_err-put_options
returns-in_err-put_options c =
    let failed : c.from_residual.result ≡ Err c.in_err-put_options.field-0.0 = search rules in
    writes-refused (options_of (value_of c.args.self.now)) c.new-w.result c.put_options.new.w c.args.octets.now _ _ _
    c.new-w.ensures.settled c.new-w.ensures.free c.in_err-put_options.ensures.steps failed
    (grind (arith, common_steps))

pub returns : goal.returns
returns c =
    writes-ended (options_of (value_of c.args.self.now)) c.new-w.result c.put_options.new.w c.end.new.self
    c.args.octets.now _ c.end.result c.new-w.ensures.settled c.new-w.ensures.free c.in_ok-put_options.ensures.steps
    c.end.ensures.accepts c.end.ensures.settled c.end.ensures.free c.end.ensures.refused
    (grind (arith, common_steps))
