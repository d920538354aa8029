-- The message is paired, and then counted.
use Rattle.dump_captures.proofs.session.Session.see_message.Goals as goal

pub returns : goal.returns
returns c =
    let paired = c.in_ok-answer.ensures in
    let counted = c.in_ok-count.ensures in
    record {
      answers = rw counted.questions paired.answers;
      counts = rw (paired.counts, c.after_in.ensures) at counted.counts;
    }
