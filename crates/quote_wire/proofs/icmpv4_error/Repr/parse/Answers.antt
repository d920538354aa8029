use Rattle.wirebase.proofs.Format.{all_rewrites}
use Rattle.quote_wire.specs.Error.{format}
use Rattle.quote_wire.specs.Icmpv4Error.{protocol, value_of}
use Rattle.quote_wire.proofs.ErrorFormat.{error_format}
use Rattle.quote_wire.proofs.Icmpv4Errors.{icmpv4_errors}
use Rattle.quote_wire.proofs.icmpv4_error.Repr.parse.Goals as goal

pub returns-clause-rewrites : goal.returns-clause-rewrites
returns-clause-rewrites c =
    let caps = c.args.checksum_caps.now in
    all_rewrites (format (protocol caps)) (error_format (protocol caps) (icmpv4_errors caps)) value_of
    c.args.octets.now c.read.result c.are_bytes.ensures c.read.ensures.sound
