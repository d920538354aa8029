use Rattle.dhcp_wire.proofs.Words.{◌++◌, HasWritten, IsPlainFormatter, address_text, codes, flat_map, take}
use Rattle.dhcp_wire.proofs.dhcpv4.printing.fmt_more_addresses.Given as goal

abbrev pub invariant-loop-address : goal.invariant-loop-address
invariant-loop-address g l =
    IsPlainFormatter l.fn.f → HasWritten g.W.Write.write_str_gives l.fn.f
    (flat_map (λ next. codes "," ++ address_text next) (take l.address-index l.addresses)) l.f
