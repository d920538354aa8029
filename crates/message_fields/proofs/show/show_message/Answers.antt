-- The refusal alone, or what the checksum says and the fields.
use Rattle.std.proofs.Common.{◌∙◌, refl, sym}
use Rattle.packet_fields.proofs.Fields.{◌and◌}
use Rattle.message_fields.specs.Messages.{refused, shown}
use Rattle.message_fields.proofs.show.show_message.Goals as goal

pub returns-then-is_refused : goal.returns-then-is_refused
returns-then-is_refused g c = (
  _,
  refused c.checksum-state.result c.checksum-state.ensures (sym c.is_refused.ensures ∙ c.if-is_refused.true) refl refl,
  c.in_ok-show_refused.ensures,
)

pub returns : goal.returns
returns g c =
    let (body, is, printed) = c.in_ok-told.ensures in (
      _,
      shown c.checksum-state.result body c.in_ok-told.told c.checksum-state.ensures
          (sym c.is_refused.ensures ∙ c.if-is_refused.false) is refl c.first_of.ensures,
      c.in_ok-show_state.ensures and printed,
    )
