use Rattle.dns_wire.proofs.Words.{Emits, sym, value_of}
use Rattle.wirebase.proofs.Chains.{lent}
use Rattle.dns_wire.proofs.dns.repr.Repr.emit.Goals as goal

pub returns-clause-emits : goal.returns-clause-emits
returns-clause-emits g c =
    lent (Emits (value_of c.args.self.now)) c.octets_mut.ensures.value
    (sym (g.met.T.OctetsMut.bytes_put c.args.packet.now.buffer _)) c.emit_into.ensures
