use Rattle.dhcp_wire.proofs.Words.{[], ◌∷◌, ◌≡◌, Puts, arith, be8, common_steps, length, option, option_text, rules}
use Rattle.dhcp_wire.proofs.Dhcpv4Writes.{option-whole}
use Rattle.dhcp_wire.proofs.dhcpv4.options.write_option.Goals as goal

pub returns : goal.returns
returns g c =
    let body = g.D.Data.bytes c.args.body in
    let puts : Puts c.new-w.result c.put.new.w (be8 c.args.kind ∷ be8 (length body) ∷ body ∷ []) =
    record { puts = grind (arith, common_steps); same_slice = grind (arith, common_steps) } in
    let left : c.put.new.w.buffer.now ≡ option_text (option c.args.kind body) =
    option-whole c.args.octets.now c.new-w.result c.put.new.w (option c.args.kind body) c.new-w.ensures.blank
    c.requires.room puts in
    search rules
