-- The words so far and those of what is left are all words, and none so far is too long.
use Rattle.std.proofs.Common.{◌≡◌, ◌-◌, ◌++◌, true}
use Rattle.std.specs.Prelude.{map}
use Rattle.arrayvec.specs.ArrayVec.{array_vec_len}
use Rattle.dump_lines.specs.Lines.{are_short, words_in}
use Rattle.dump_lines.proofs.shape.Shape.of_text.Given as goal

abbrev pub invariant-loop-word : goal.invariant-loop-word
invariant-loop-word l = record {
  so_far : words_in l.text ≡ map (λ word. word.now) l.words.items ++ words_in l.rest;
  short : are_short (map (λ word. word.now) l.words.items) ≡ true;
}

abbrev pub decreases-loop-word : goal.decreases-loop-word
decreases-loop-word l = 4 - array_vec_len l.words
