-- A frame is read, or the protocol of its session is cut.
use Rattle.frame_wire.proofs.Words.{refl, typed_of, value_of}
use Rattle.frame_wire.proofs.Witnesses.{number_of_two, typed_read, typed_cut}
use Rattle.frame_wire.proofs.link.refusal.why_not_typed.Goals as goal

pub returns-in-Ok-payload_of-clause-exact : goal.returns-in-Ok-payload_of-clause-exact
returns-in-Ok-payload_of-clause-exact c = (
  λ _.
      typed_read c.args.octets.now c.args.place c.args.start c.u16_at.result _ (typed_of c.in-Ok.typed)
      (value_of c.in-Ok-payload_of.field-0) c.if-octets-start.false
      (number_of_two c.args.octets.now c.args.place _ c.u16_at.ensures) c.behind.ensures
      c.in-Ok.ensures.sound c.in-Ok-payload_of.ensures.sound,
  λ _. refl,
)

pub returns-in-Err-clause-told : goal.returns-in-Err-clause-told
returns-in-Err-clause-told c =
    typed_cut c.args.octets.now c.args.place c.args.start c.u16_at.result _ (typed_of c.in-Ok.typed)
    c.if-octets-start.false (number_of_two c.args.octets.now c.args.place _ c.u16_at.ensures) c.behind.ensures
    c.in-Ok.ensures.sound c.in-Err.ensures.cut
