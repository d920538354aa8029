-- Each turn spells four octets, and then one.
use Rattle.std.proofs.Common.{arith, refl}
use Rattle.dump_lines.proofs.Turning.{all_spelled, eight_digits, four_more, one_more}
use Rattle.dump_lines.proofs.hex_digits.decode.Goals as goal

pub decode_word-requires : goal.decode_word-requires
decode_word-requires c =
    eight_digits c.args.text.now c.in-Some.digits.now c.words.i c.in-Some.ensures.cases.same c.requires.digits

pub words-preserved : goal.words-preserved
words-preserved c =
    four_more c.args.text.now c.in-Some.digits.now c.words.i c.in-Some.ensures.cases.same c.requires.digits
    c.words.octets _ (omega arith) (omega arith) (omega arith)
    (rw (← c.copy_from_slice.ensures.after) at c.decode_word.ensures) c.words.invariant

pub octets-preserved : goal.octets-preserved
octets-preserved c =
    one_more c.args.text.now c.octets.octets c.octets.i _ _ _ (omega arith) (omega arith)
    c.digit_value.ensures.value c.digit_value-in-octets.ensures.value refl c.octets.invariant

pub returns : goal.returns
returns c =
    all_spelled c.args.text.now c.octets.octets c.octets.i (omega arith) (omega arith) c.requires.digits
    c.octets.invariant
