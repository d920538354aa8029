use Rattle.dhcp_wire.proofs.Words.{◌≡◌, Err, rules, value_of}
use Rattle.dhcp_wire.proofs.Dhcpv4Writing.{fields-refused, fields-written}
use Rattle.dhcp_wire.proofs.dhcpv4.repr.Repr.put_options.Goals as goal

pub returns-in_err-put_fields-clause-steps : goal.returns-in_err-put_fields-clause-steps
returns-in_err-put_fields-clause-steps c =
    let failed : c.from_residual.result ≡ Err c.in_err-put_fields.field-0.0 = search rules in
    fields-refused c.args.w.now c.put_fields.new.w _ _ (value_of c.args.self.now) c.in_err-put_fields.ensures.steps
    failed

pub returns-clause-steps : goal.returns-clause-steps
returns-clause-steps c =
    fields-written c.args.w.now c.put_fields.new.w c.put_all.new.w c.put_all.result (value_of c.args.self.now)
    c.in_ok-put_fields.ensures.steps c.put_all.ensures.steps
