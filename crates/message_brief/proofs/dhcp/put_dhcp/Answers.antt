-- Nothing, what stands before the options, or all.
use Rattle.std.proofs.Common.{◌∙◌, arith, sym}
use Rattle.packet_fields.proofs.Printing.{gains_none, put}
use Rattle.message_brief.specs.Dhcp.{bare, short, whole}
use Rattle.message_brief.proofs.dhcp.put_dhcp.Goals as goal

pub returns-then-octets-lt-FIXED_END : goal.returns-then-octets-lt-FIXED_END
returns-then-octets-lt-FIXED_END g c = (_, short (omega arith), gains_none _)

pub returns-then-not-has_options : goal.returns-then-not-has_options
returns-then-not-has_options g c = (
  _,
  bare (omega arith) (sym c.has_options.ensures ∙ c.if-not-has_options.true),
  put g.W.Write.contents _ _ _ (rw c.nothing.ensures at c.in_ok-put_packet.ensures),
)

pub returns : goal.returns
returns g c =
    rw c.are_whole.ensures (
      _,
      whole c.of-parts.result (sym c.has_options.ensures ∙ c.if-not-has_options.false) c.of-parts.ensures.parts,
      put g.W.Write.contents _ _ _ (rw c.told_by.ensures at c.in_ok-put_packet-2.ensures),
    )
