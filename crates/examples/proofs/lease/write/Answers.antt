use Rattle.std.proofs.Common.{◌≤◌, sym, subst}
use Rattle.control_wire.specs.Dhcpv4.{options_of}
use Rattle.control_wire.specs.Dhcpv4Format.{AllShort, text_len}
use Rattle.examples.specs.Lease.{client_of}
use Rattle.examples.proofs.Leases.{message-short, message-len}
use Rattle.examples.proofs.lease.write.Goals as goal

pub write_padded-requires-clause-short : goal.write_padded-requires-clause-short
write_padded-requires-clause-short c =
    subst (λ v. AllShort (options_of v)) (sym c.repr.ensures)
    (message-short (client_of c.args.client.now) c.args.transaction_id c.args.message.now c.requires)

pub write_padded-requires-clause-small : goal.write_padded-requires-clause-small
write_padded-requires-clause-small c =
    subst (λ v. text_len v ≤ 600) (sym c.repr.ensures)
    (message-len (client_of c.args.client.now) c.args.transaction_id c.args.message.now c.requires)
