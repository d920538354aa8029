-- The digits as they are computed.
use Rattle.dump_captures.specs.private.Parts.{kept_text}
use Rattle.dump_captures.proofs.time.date_octets.Goals as goal

pub returns : goal.returns
unfolding kept_text
returns c = cc
