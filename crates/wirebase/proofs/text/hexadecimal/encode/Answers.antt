-- Each turn writes the digits of one octet.
use Rattle.wirebase.proofs.Words.{arith, lower_digits}
use Rattle.hex.proofs.Pairs.{encode_step, encode_done}
use Rattle.wirebase.proofs.text.hexadecimal.encode.Goals as goal

pub octets-preserved : goal.octets-preserved
octets-preserved c =
    encode_step lower_digits c.args.octets.now c.octets.digits c.octets.i _ _ (omega arith) (omega arith)
    c.digit_of.ensures c.digit_of-in-octets.ensures c.octets.invariant

pub returns : goal.returns
returns c =
    encode_done lower_digits c.args.octets.now c.octets.digits c.octets.i (omega arith) (omega arith)
    c.octets.invariant
