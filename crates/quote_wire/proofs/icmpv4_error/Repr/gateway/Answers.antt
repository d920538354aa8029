use Rattle.std.proofs.Common.{◌≡◌, refl}
use Rattle.wirebase.specs.ByteWriter.{be32}
use Rattle.wirebase.specs.Ipv4.{octets_of}
use Rattle.quote_wire.proofs.icmpv4_error.Repr.gateway.Goals as goal

pub returns-in-Redirect : goal.returns-in-Redirect
unfolding be32
returns-in-Redirect c =
    let octets : octets_of c.from_octets.result ≡ be32 c.args.self.now.rest = cc in
    rw (c.in-Redirect.is, octets) refl
