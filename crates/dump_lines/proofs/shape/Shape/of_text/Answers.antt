-- Each turn cuts a word off, which is too long, one too many, or kept.
use Rattle.std.proofs.Common.{◌≡◌, [], ◌∷◌, ◌++◌, ◌∙◌, ap, append_assoc, length, map, rules, sym}
use Rattle.std.proofs.lemmas.List.{length-map, map-append}
use Rattle.dump_lines.specs.Lines.{words_in}
use Rattle.dump_lines.specs.Listing.{shape_of}
use Rattle.dump_lines.proofs.Shaping.{some_octet, are_short-more, shape_of-full, shape_of-too_long}
use Rattle.dump_lines.proofs.shape.Shape.of_text.Goals.{then-word-gt-MOST_OCTETS-via-then-word-gt-MOST_OCTETS}
use Rattle.dump_lines.proofs.shape.Shape.of_text.Goals.{then-word-gt-MOST_OCTETS-via-else-word-gt-MOST_OCTETS+then-is_err}
use Rattle.dump_lines.proofs.shape.Shape.of_text.Goals as goal

pub returns-then-word-gt-MOST_OCTETS-clause-shape :
    goal.returns-then-word-gt-MOST_OCTETS-clause-shape
returns-then-word-gt-MOST_OCTETS-clause-shape c =
    let cut = c.next_word.ensures.some (some_octet _ _ c.is_empty.ensures c.if-is_empty.false) in
    let kept = map (λ word. word.now) c.loop-word.words.items in
    let more = words_in c.next_word.result.1.now in
    let words = c.loop-word.invariant.so_far ∙ ap (λ l. kept ++ l) cut in
    elim c.then-word-gt-MOST_OCTETS.branch [
      | then-word-gt-MOST_OCTETS-via-then-word-gt-MOST_OCTETS w ↦
          sym (ap shape_of words ∙ shape_of-too_long kept _ more w.if-word-gt-MOST_OCTETS.true)
      | then-word-gt-MOST_OCTETS-via-else-word-gt-MOST_OCTETS+then-is_err w ↦
          let full : length c.loop-word.words.items ≡ 4 = search rules in
          sym (ap shape_of words
          ∙ shape_of-full kept _ more (length-map c.loop-word.words.items (λ word. word.now) ∙ full))
    ]

pub loop-word-preserved : goal.loop-word-preserved
loop-word-preserved c =
    let cut = c.next_word.ensures.some (some_octet _ _ c.is_empty.ensures c.if-is_empty.false) in
    let kept = map (λ word. word.now) c.loop-word.words.items in
    let items : c.try_push.new.self.items ≡ c.loop-word.words.items ++ (c.next_word.result.0 ∷ []) = search rules in
    record {
      so_far = rw (items, map-append)
          (c.loop-word.invariant.so_far ∙ ap (λ l. kept ++ l) cut ∙ sym (append_assoc kept _ _));
      short = rw (items, map-append)
          (are_short-more kept _ c.loop-word.invariant.short c.if-word-gt-MOST_OCTETS.false);
    }
