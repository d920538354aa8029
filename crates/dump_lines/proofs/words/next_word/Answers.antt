-- The word is cut off after the spaces, up to the next space.
use Rattle.dump_lines.proofs.Cutting.{one_word, no_word}
use Rattle.dump_lines.proofs.words.next_word.Goals as goal

pub returns-clause-some : goal.returns-clause-some
returns-clause-some c some =
    rw (c.split_at.ensures.front, c.split_at.ensures.back)
    (one_word c.args.text.now _ c.spaces_len.ensures.bound c.spaces_len.ensures.spaces _ c.spaces_len.ensures.ends
    c.len_before-len.ensures.bound c.len_before-len.ensures.free c.len_before-len.ensures.found
    (rw c.split_at.ensures.front at some))

pub returns-clause-none : goal.returns-clause-none
returns-clause-none c none =
    no_word c.args.text.now _ c.spaces_len.ensures.bound c.spaces_len.ensures.spaces _ c.spaces_len.ensures.ends
    c.len_before-len.ensures.bound c.len_before-len.ensures.free c.len_before-len.ensures.found
    (rw c.split_at.ensures.front at none)
