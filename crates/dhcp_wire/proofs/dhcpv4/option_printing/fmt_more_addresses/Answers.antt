-- Each turn writes one address after a comma.
use Rattle.dhcp_wire.proofs.Words.{◌++◌, ◌∙◌, Ipv4Address, IsOk, List, ℕ, address_text, ap, append_assoc, codes}
use Rattle.dhcp_wire.proofs.Words.{flat_map, rules, sym}
use Rattle.std.proofs.Output.{has_written_append}
use Rattle.dhcp_wire.proofs.dhcpv4.option_printing.fmt_more_addresses.Goals as goal

abbrev behind_comma : Ipv4Address → List ℕ
behind_comma address = codes "," ++ address_text address

pub loop-address-preserved : goal.loop-address-preserved
loop-address-preserved g c = λ plain.
    let so_far = c.loop-address.invariant plain in
    let ok : IsOk c.write.result = search rules in
    let this = behind_comma c.in-Some.address in (
      so_far.0 ++ this,
      has_written_append _ _ _ _ _ _ so_far.1 (c.write.ensures.writes so_far.1.plain ok),
      append_assoc so_far.0 this _
          ∙ ap (λ (left : List Ipv4Address). so_far.0 ++ flat_map behind_comma left) (sym c.in-Some.ensures.steps)
          ∙ so_far.2,
    )
