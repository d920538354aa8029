use Rattle.dhcp_wire.proofs.Words.{◌++◌, HasWritten, IsPlainFormatter, codes, decimal, flat_map, take}
use Rattle.dhcp_wire.proofs.dhcpv4.printing.fmt_more_kinds.Given as goal

abbrev pub invariant-loop-kind : goal.invariant-loop-kind
invariant-loop-kind g l =
    IsPlainFormatter l.fn.f → HasWritten g.W.Write.write_str_gives l.fn.f
    (flat_map (λ next. codes "," ++ decimal next) (take l.kind-index l.kinds)) l.f
