use Rattle.std.proofs.Common.{◌∙◌}
use Rattle.examples.proofs.Alerts.{header_bytes}
use Rattle.examples.proofs.listener.write_header.Goals as goal

pub returns : goal.returns
returns c = c.emit_into.ensures.exact c.requires ∙ header_bytes
