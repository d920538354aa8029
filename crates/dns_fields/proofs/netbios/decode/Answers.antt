-- Each turn decodes a byte.
use Rattle.std.proofs.Common.{arith, ℕ}
use Rattle.std.proofs.Math.ListN.{length-set}
use Rattle.dns_fields.proofs.EncodedNames.{all_decoded, label_len, one_more}
use Rattle.dns_fields.proofs.netbios.decode.Goals as goal

pub loop-i-preserved : goal.loop-i-preserved
loop-i-preserved c =
    let long = label_len c.args.label.now c.requires in
    let bytes = c.loop-i.invariant.long in
    record {
      long = omega (arith, bytes, length-set {A = ℕ});
      so_far =
          one_more c.args.label.now c.loop-i.bytes c.loop-i.i _ (omega (arith, long)) (omega (arith, bytes))
          (omega arith) c.loop-i.invariant.so_far;
    }

pub returns : goal.returns
returns c =
    let long = label_len c.args.label.now c.requires in
    let bytes = c.loop-i.invariant.long in
    all_decoded c.args.label.now c.loop-i.bytes c.loop-i.i (omega (arith, bytes)) (omega (arith, long))
    c.loop-i.invariant.so_far
