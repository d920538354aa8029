use Rattle.std.proofs.Common.{arith}
use Rattle.quote_wire.specs.Icmpv4Error.{protocol, value_of}
use Rattle.quote_wire.proofs.ErrorFormat.{length-packet_text}
use Rattle.quote_wire.proofs.icmpv4_error.Repr.buffer_len.Goals as goal

pub returns-clause-exact : goal.returns-clause-exact
returns-clause-exact c = λ capabilities.
    omega (arith, c.min.ensures, length-packet_text (protocol capabilities) (value_of c.args.self.now))
