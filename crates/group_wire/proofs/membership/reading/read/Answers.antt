use Rattle.std.proofs.Common.{ℕ, sym, subst}
use Rattle.std.specs.Result.{IfOk}
use Rattle.wirebase.proofs.Format.{all_rewrites}
use Rattle.group_wire.specs.Membership.{value_of, IsMessage, format}
use Rattle.group_wire.proofs.MembershipFormat.{membership_format}
use Rattle.group_wire.proofs.membership.reading.read.Goals as goal

pub returns-clause-rewrites : goal.returns-clause-rewrites
returns-clause-rewrites g c = λ sum extra few.
    let f = g.A.Address.family in
    let octets = c.args.octets.now in
    all_rewrites (format f sum) (membership_format f sum) (value_of g.A.Address.bytes) octets c.read_message.result
    c.are_bytes.ensures
    (subst
    (λ (n : ℕ). IfOk c.read_message.result (λ message. IsMessage f n octets (value_of g.A.Address.bytes message)))
    (sym extra) c.read_message.ensures.sound) few
