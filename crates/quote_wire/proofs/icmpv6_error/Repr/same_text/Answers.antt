use Rattle.quote_wire.proofs.ErrorFormat.{error_same_text}
use Rattle.quote_wire.specs.Icmpv6Error.{protocol}
use Rattle.quote_wire.proofs.Icmpv6Errors.{icmpv6_errors}
use Rattle.quote_wire.proofs.icmpv6_error.Repr.same_text.Goals as goal

pub returns : goal.returns
returns c =
    let p = protocol c.args.src_addr.now c.args.dst_addr.now c.args.checksum_caps.now in
    error_same_text p (icmpv6_errors c.args.src_addr.now c.args.dst_addr.now c.args.checksum_caps.now) _ _
