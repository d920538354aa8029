use Rattle.std.proofs.Common.{arith}
use Rattle.quote_wire.specs.Icmpv6Error.{protocol, value_of}
use Rattle.quote_wire.proofs.ErrorFormat.{length-packet_text}
use Rattle.quote_wire.proofs.icmpv6_error.Repr.buffer_len.Goals as goal

pub returns-clause-exact : goal.returns-clause-exact
returns-clause-exact c = λ source destination capabilities.
    let p = protocol source destination capabilities in
    omega (arith, c.min.ensures, length-packet_text p (value_of c.args.self.now))
