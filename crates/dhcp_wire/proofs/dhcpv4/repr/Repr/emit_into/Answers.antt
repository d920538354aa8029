use Rattle.dhcp_wire.proofs.Words.{◌∙◌, rules, value_of}
use Rattle.dhcp_wire.proofs.Dhcpv4Laws.{emits}
use Rattle.dhcp_wire.proofs.Dhcpv4Packet.{laid_behind}
use Rattle.dhcp_wire.proofs.dhcpv4.repr.Repr.emit_into.Goals as goal

pub returns : goal.returns
returns c =
    let mine = c.write_options.new.octets in
    let long = c.write_options.auto.octets ∙ c.part.ensures.len in
    emits (value_of c.args.self.now) c.args.octets.now _ c.write_options.result
    (laid_behind (value_of c.args.self.now) c.args.octets.now c.part.result.now mine _ c.new-w.result
    c.put_header.new.w _ c.free-room.result c.write_options.result c.requires c.new-w.ensures.blank
    c.put_header.ensures.puts c.free-room.ensures c.part.ensures.value c.write_options.ensures long
    (c.part.ensures.puts mine long) (search rules))
