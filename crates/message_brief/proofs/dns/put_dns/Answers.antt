-- Nothing, a query, or a response.
use Rattle.std.proofs.Common.{◌∙◌, ◌≤◌, arith, length, refl, sym}
use Rattle.packet_fields.proofs.Printing.{◌then◌, gains_none, put}
use Rattle.message_brief.specs.Dns.{asks, is_short, responds}
use Rattle.message_brief.proofs.dns.put_dns.Goals as goal

pub returns-in_default : goal.returns-in_default
returns-in_default g c =
    let short : 12 ≤ length c.args.octets.now → ⊥ = λ reaches. cc (c.in_default.ensures.accepts.1 reaches) in
    (_, is_short (omega (arith, short)), gains_none _)

pub returns-then-is_query : goal.returns-then-is_query
returns-then-is_query g c =
    let asks_is = rw c.word_of.ensures at (sym c.is_query.ensures ∙ c.if-is_query.true) in
    rw c.is_read.ensures (
      _,
      asks _ (c.in-Ok.ensures.accepts.0 refl) asks_is (rw c.in-Ok.ensures.buffer at c.question_in-asked.ensures),
      put g.W.Write.contents _ _ _ c.in_ok-put_front.ensures
          then put g.W.Write.contents _ _ _ (rw c.u16_at.ensures at c.in_ok-put_query.ensures),
    )

pub returns : goal.returns
returns g c =
    let responds_is = rw c.word_of.ensures at (sym c.is_query.ensures ∙ c.if-is_query.false) in
    rw c.are_read.ensures (
      _,
      responds _ _ (c.in-Ok.ensures.accepts.0 refl) responds_is
          (rw c.in-Ok.ensures.buffer at c.question_in-asked.ensures)
          (rw c.in-Ok.ensures.buffer at c.answer_in-answer.ensures),
      put g.W.Write.contents _ _ _ c.in_ok-put_front.ensures
          then put g.W.Write.contents _ _ _ (rw c.u16_at-2.ensures at c.in_ok-put_response.ensures),
    )
