-- Spaces are skipped, end a word, or follow one word too many.
use Rattle.std.proofs.Common.{rules, ◌≡◌, ◌≢◌, [], ◌∷◌, ◌++◌, sym, refl, ap, ◌∙◌, arith, eqb-true, length}
use Rattle.dump_lines.proofs.Taking.{takes_nothing, takes_bad, takes_spaces, takes_word_end, kept_word_end, takes_many}
use Rattle.dump_lines.proofs.partial_line.Line.take_spaces.Goals.{then-is_empty-via-then-is_empty}
use Rattle.dump_lines.proofs.partial_line.Line.take_spaces.Goals.{then-is_empty-via-else-is_empty+then-self}
use Rattle.dump_lines.proofs.partial_line.Line.take_spaces.Goals.{then-is_empty-via-else-is_empty+else-self+then-self-as_slice}
use Rattle.dump_lines.proofs.partial_line.Line.take_spaces.Goals as goal

pub returns-then-is_empty-clause-takes : goal.returns-then-is_empty-clause-takes
returns-then-is_empty-clause-takes c = elim c.then-is_empty.branch [
  | then-is_empty-via-then-is_empty w ↦ takes_nothing _ _ (eqb-true _ _ (sym c.is_empty.ensures ∙ w.if-is_empty.true))
  | then-is_empty-via-else-is_empty+then-self w ↦ takes_bad _ _ w.if-self.true
  | then-is_empty-via-else-is_empty+else-self+then-self-as_slice w ↦
      takes_spaces _ c.requires.kept _ c.requires.spaces (w.if-self-as_slice.true ∙ ap length w.as_slice.ensures.value)
]

pub returns-then-self-eq-MOST_WORDS-clause-takes :
    goal.returns-then-self-eq-MOST_WORDS-clause-takes
returns-then-self-eq-MOST_WORDS-clause-takes c =
    let some : length c.args.spaces.now ≢ 0 = grind arith in
    let more : c.args.self.now.start ≢ length c.args.self.now.octets.items =
    λ e. c.if-self-as_slice.false (e ∙ sym (ap length c.as_slice.ensures.value)) in
    takes_many _ c.requires.kept _ _ c.requires.spaces some more c.if-self-eq-MOST_WORDS.true refl

pub returns-clause-kept : goal.returns-clause-kept
returns-clause-kept c =
    let more : c.args.self.now.start ≢ length c.args.self.now.octets.items =
    λ e. c.if-self-as_slice.false (e ∙ sym (ap length c.as_slice.ensures.value)) in
    let items : c.extend_from_slice.new.self.items ≡ c.args.self.now.octets.items ++ (32 ∷ []) = search rules in
    kept_word_end _ c.requires.kept _ more c.if-self-eq-MOST_WORDS.false items
    (ap length c.as_slice-2.ensures.value) refl

pub returns-clause-takes : goal.returns-clause-takes
returns-clause-takes c =
    let some : length c.args.spaces.now ≢ 0 = grind arith in
    let more : c.args.self.now.start ≢ length c.args.self.now.octets.items =
    λ e. c.if-self-as_slice.false (e ∙ sym (ap length c.as_slice.ensures.value)) in
    let items : c.extend_from_slice.new.self.items ≡ c.args.self.now.octets.items ++ (32 ∷ []) = search rules in
    takes_word_end _ c.requires.kept _ _ c.requires.spaces some more items refl
