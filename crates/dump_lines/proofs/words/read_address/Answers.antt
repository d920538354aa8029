-- The word has another number of digits, or other octets.
use Rattle.std.proofs.Common.{◌∙◌, sym}
use Rattle.dump_lines.proofs.Spelling.{address_of-length, address_of-none}
use Rattle.dump_lines.proofs.words.read_address.Goals.{then-text-ne-ADDRESS_DIGITS-via-then-text-ne-ADDRESS_DIGITS}
use Rattle.dump_lines.proofs.words.read_address.Goals.{then-text-ne-ADDRESS_DIGITS-via-else-text-ne-ADDRESS_DIGITS+then-not-are_digits}
use Rattle.dump_lines.proofs.words.read_address.Goals as goal

pub returns-then-text-ne-ADDRESS_DIGITS : goal.returns-then-text-ne-ADDRESS_DIGITS
returns-then-text-ne-ADDRESS_DIGITS c = elim c.then-text-ne-ADDRESS_DIGITS.branch [
  | then-text-ne-ADDRESS_DIGITS-via-then-text-ne-ADDRESS_DIGITS w ↦
      address_of-length c.args.text.now w.if-text-ne-ADDRESS_DIGITS.true
  | then-text-ne-ADDRESS_DIGITS-via-else-text-ne-ADDRESS_DIGITS+then-not-are_digits w ↦
      address_of-none c.args.text.now (sym w.are_digits.ensures ∙ w.if-not-are_digits.true)
]
