use Rattle.wirebase.proofs.Format.{all_rewrites}
use Rattle.quote_wire.specs.Error.{format}
use Rattle.quote_wire.specs.Icmpv6Error.{protocol, value_of}
use Rattle.quote_wire.proofs.ErrorFormat.{error_format}
use Rattle.quote_wire.proofs.Icmpv6Errors.{icmpv6_errors}
use Rattle.quote_wire.proofs.icmpv6_error.Repr.parse.Goals as goal

pub returns-clause-rewrites : goal.returns-clause-rewrites
returns-clause-rewrites c =
    let p = protocol c.args.src_addr.now c.args.dst_addr.now c.args.checksum_caps.now in
    let is = icmpv6_errors c.args.src_addr.now c.args.dst_addr.now c.args.checksum_caps.now in
    all_rewrites (format p) (error_format p is) value_of c.args.octets.now c.read.result c.are_bytes.ensures
    c.read.ensures.sound
