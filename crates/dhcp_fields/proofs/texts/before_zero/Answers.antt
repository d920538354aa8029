use Rattle.dhcp_wire.proofs.Dhcpv4Text.{no_zero-more}
use Rattle.dhcp_fields.proofs.Names.{all_before, some_before}
use Rattle.dhcp_fields.proofs.texts.before_zero.Goals as goal

pub loop-place-preserved : goal.loop-place-preserved
loop-place-preserved c =
    no_zero-more c.args.octets.now c.loop-place.place c.loop-place-test.true c.loop-place.invariant c.if-octet-eq0.false

pub returns-then-octet-eq0 : goal.returns-then-octet-eq0
returns-then-octet-eq0 c =
    some_before c.args.octets.now c.loop-place.place c.loop-place-test.true c.loop-place.invariant c.if-octet-eq0.true

pub returns : goal.returns
returns c = all_before c.args.octets.now c.loop-place.place c.loop-place-test.false c.loop-place.invariant
