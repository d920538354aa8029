-- Spaces are taken, and then a word.
use Rattle.dump_lines.proofs.Taking.{front_takes, front_free, word_free}
use Rattle.dump_lines.proofs.partial_line.take_front.Goals as goal

pub take_word-requires-clause-word : goal.take_word-requires-clause-word
take_word-requires-clause-word c =
    word_free _ _ _ c.spaces_len-spaces.ensures.bound c.word_len.ensures.bound c.word_len.ensures.no_space

pub returns-clause-takes : goal.returns-clause-takes
returns-clause-takes c =
    front_takes _ _ _ c.spaces_len-spaces.ensures.bound c.word_len.ensures.bound _ _ _
    c.in_ok-take_spaces.ensures.takes c.in_ok-take_word.ensures.takes

pub returns-clause-no_end : goal.returns-clause-no_end
returns-clause-no_end c =
    front_free _ _ _ c.spaces_len-spaces.ensures.bound c.word_len.ensures.bound
    c.spaces_len-spaces.ensures.spaces c.word_len.ensures.no_end
