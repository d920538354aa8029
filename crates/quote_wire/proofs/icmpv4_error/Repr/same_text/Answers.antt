use Rattle.quote_wire.proofs.ErrorFormat.{error_same_text}
use Rattle.quote_wire.specs.Icmpv4Error.{protocol}
use Rattle.quote_wire.proofs.Icmpv4Errors.{icmpv4_errors}
use Rattle.quote_wire.proofs.icmpv4_error.Repr.same_text.Goals as goal

pub returns : goal.returns
returns c =
    error_same_text (protocol c.args.checksum_caps.now) (icmpv4_errors c.args.checksum_caps.now) _ _
