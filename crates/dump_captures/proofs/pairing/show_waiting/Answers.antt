-- The questions of both slices, and then how many were dropped.
use Rattle.std.proofs.Common.{◌++◌, ap, sym}
use Rattle.std.proofs.lemmas.Grind.{flat_map-append}
use Rattle.std.specs.Option.{option_map}
use Rattle.packet_fields.proofs.Printing.{◌then◌, gained_text, gains_last}
use Rattle.packet_pairs.specs.Pairs.{state_of}
use Rattle.dump_captures.specs.Pairing.{Unanswered, dropped_text, question_text}
use Rattle.dump_captures.proofs.pairing.show_waiting.Goals as goal

pub returns : goal.returns
returns g c =
    let options = c.args.options.now in
    let file = option_map (λ name. name.now) c.args.file in
    let earlier = c.waiting.result.0.now in
    let later = c.waiting.result.1.now in
    let dropped = dropped_text options file (state_of c.args.pairs.now).dropped in
    gained_text (Unanswered options file (state_of c.args.pairs.now)) _ _ _ c.show_dropped.result
    (record {
      questions = earlier ++ later;
      are = c.waiting.ensures;
      text_is =
          ap (λ questions. questions ++ dropped) (sym (flat_map-append (question_text options file) earlier later));
    })
    (gains_last _ dropped _ (c.in_ok-show_questions.ensures then c.in_ok-show_questions-2.ensures)
    (rw c.dropped.ensures at c.show_dropped.ensures))
