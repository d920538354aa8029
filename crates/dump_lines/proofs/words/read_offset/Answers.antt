-- A number that is too great stays so.
use Rattle.std.proofs.Common.{◌+◌, ◌*◌, ◌-◌, ◌<◌, drop, get_or, ◌∙◌, sym, arith}
use Rattle.dump_lines.proofs.Offsets.{offset-digit, offset-great}
use Rattle.dump_lines.proofs.words.read_offset.Goals as goal

pub returns-then-offset-gt-MOST_OFFSET : goal.returns-then-offset-gt-MOST_OFFSET
returns-then-offset-gt-MOST_OFFSET c =
    let text = c.args.text.now in
    let n = c.loop-octet.offset in
    let i = c.loop-octet.octet-index in
    let great : 65535 < 10 * n + (get_or text i 0 - 48) = omega arith in
    sym (c.loop-octet.invariant.so_far ∙ offset-digit n i text c.loop-octet-test.true c.if-octet-lt48.false
    c.if-octet-gt57.false ∙ offset-great (10 * n + (get_or text i 0 - 48)) (drop (i + 1) text) great)
