-- An error or another message is printed, or there is none.
use Rattle.std.proofs.Common.{refl}
use Rattle.icmp4_wire.specs.Icmpv4.{value_of}
use Rattle.quote_wire.specs.Icmpv4Error as errors
use Rattle.quote_wire.specs.Icmpv4Message.{error, other}
use Rattle.packet_fields.proofs.Fields.{◌and◌}
use Rattle.message_fields.specs.Icmp.{reads, refuses}
use Rattle.message_fields.proofs.icmp.show_icmp4.Goals as goal

pub returns-in_ok-show_error-in-Ok-Error : goal.returns-in_ok-show_error-in-Ok-Error
returns-in_ok-show_error-in-Ok-Error g c =
    let (items, are, printed) = c.in_ok-show_error-in-Ok-Error.ensures in (
      items,
      reads (error (errors.value_of c.in-Ok-Error.error))
          (rw (c.ignored.ensures, c.in-Ok-Error.field-0-is) at c.in-Ok-Error.ensures.sound)
          (rw c.in-Ok-Error.error-is at are) refl,
      printed,
    )

pub returns-in_ok-show_message-in-Ok-Message : goal.returns-in_ok-show_message-in-Ok-Message
returns-in_ok-show_message-in-Ok-Message g c = (
  _,
  reads (other (value_of c.in-Ok-Message.message))
      (rw (c.ignored.ensures, c.in-Ok-Message.field-0-is) at c.in-Ok-Message.ensures.sound) refl refl,
  rw c.in-Ok-Message.message-is at c.in_ok-show_message-in-Ok-Message.ensures,
)

pub returns-in_ok-show_mistake-in-Err : goal.returns-in_ok-show_mistake-in-Err
returns-in_ok-show_mistake-in-Err g c = (
  _,
  refuses c.in-Err.refusal (rw c.ignored.ensures at c.in-Err.ensures.complete)
      (rw c.ignored.ensures at c.in-Err.ensures.told) refl
      (rw c.told.ensures at c.unless_told.ensures),
  c.in_ok-show_unread-in-Err.ensures and c.in_ok-show_mistake-in-Err.ensures,
)
