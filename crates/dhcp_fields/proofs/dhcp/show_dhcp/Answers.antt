-- The fields of a short packet, of one without the magic cookie, and of one with options.
use Rattle.std.proofs.Common.{◌≡◌, ◌∙◌, sym}
use Rattle.packet_fields.proofs.Fields.{◌and◌}
use Rattle.dhcp_fields.specs.Dhcp.{has_options, no_cookie, packet_items, short}
use Rattle.dhcp_fields.specs.Refusal.{first_cut}
use Rattle.dhcp_fields.proofs.dhcp.show_dhcp.Goals as goal

pub returns-then-octets-lt-OPTIONS : goal.returns-then-octets-lt-OPTIONS
returns-then-octets-lt-OPTIONS g c = (_, short c.if-octets-lt-OPTIONS.true, c.in_ok-show_short.ensures)

pub returns-then-u32_at-ne-MAGIC_COOKIE : goal.returns-then-u32_at-ne-MAGIC_COOKIE
returns-then-u32_at-ne-MAGIC_COOKIE g c = (
  _,
  no_cookie c.if-octets-lt-OPTIONS.false (λ is. c.if-u32_at-ne-MAGIC_COOKIE.true (c.u32_at.ensures ∙ is)),
  c.in_ok-show_bare.ensures,
)

pub returns : goal.returns
returns g c =
    let parts = c.of-2.result in
    let refused : c.first_cut-refused.result ≡ first_cut parts = c.first_cut-refused.ensures in
    rw refused (
      packet_items c.of.result parts c.args.octets.now,
      has_options c.of.result parts c.if-octets-lt-OPTIONS.false
          (sym c.u32_at.ensures ∙ c.if-u32_at-ne-MAGIC_COOKIE.false) c.of.ensures.overload c.of-2.ensures.parts,
      c.in_ok-show_fixed.ensures and c.in_ok-show_names.ensures
          and (c.in_ok-show_options.ensures parts c.of-2.ensures.parts
          and (rw refused at c.in_ok-show_refused.ensures)),
    )
