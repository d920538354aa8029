use Rattle.dhcp_wire.proofs.Words.{HasWritten, IsPlainFormatter, character, flat_map, take}
use Rattle.dhcp_wire.proofs.dhcpv4.option_printing.fmt_characters.Given as goal

abbrev pub invariant-loop-byte : goal.invariant-loop-byte
invariant-loop-byte g l =
    IsPlainFormatter l.fn.f → HasWritten g.W.Write.write_str_gives l.fn.f
    (flat_map character (take l.byte-index l.octets)) l.f
