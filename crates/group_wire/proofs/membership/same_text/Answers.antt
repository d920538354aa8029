use Rattle.group_wire.specs.Membership.{value_of}
use Rattle.group_wire.proofs.MembershipFormat.{membership_same_text}
use Rattle.group_wire.proofs.membership.same_text.Goals as goal

pub returns : goal.returns
returns g c = λ sum.
    membership_same_text g.A.Address.family sum (value_of g.A.Address.bytes c.args.a.now)
    (value_of g.A.Address.bytes c.args.b.now)
