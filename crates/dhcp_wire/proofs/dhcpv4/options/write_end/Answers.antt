use Rattle.dhcp_wire.proofs.Words.{◌∷◌, ◌≡◌, drop, rules}
use Rattle.dhcp_wire.proofs.Dhcpv4Writes.{mark-first}
use Rattle.dhcp_wire.proofs.dhcpv4.options.write_end.Goals as goal

pub returns : goal.returns
returns c =
    let left : c.put_u8.new.self.buffer.now ≡ 255 ∷ drop 1 c.args.octets.now =
    mark-first c.args.octets.now c.new.result c.put_u8.new.self c.new.ensures.blank c.requires
    c.put_u8.ensures.puts in
    search rules
