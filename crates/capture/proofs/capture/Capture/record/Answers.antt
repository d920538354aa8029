-- The packet's bytes are as many as were captured.
use Rattle.std.proofs.Common.{◌+◌, arith, refl}
use Rattle.wirebase.proofs.Pieces.{length-part}
use Rattle.capture.proofs.capture.Capture.record.Goals as goal

pub returns-clause-order : goal.returns-clause-order
returns-clause-order c =
    let k = c.args.packet in
    record {
      number = c.saturating_add-self.ensures;
      count_is = refl;
      nanoseconds = c.requires.nanoseconds;
      captured_len = omega (
        arith,
        length-part c.args.self.now.octets.items k.start (k.start + k.captured_len) (omega arith) c.requires.within,
      );
    }
