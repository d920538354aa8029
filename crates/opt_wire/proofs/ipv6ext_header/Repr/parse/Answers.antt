use Rattle.std.proofs.Common.{lit≤}
use Rattle.opt_wire.proofs.Ipv6ExtHeaderText.{carries_options}
use Rattle.opt_wire.proofs.ipv6ext_header.Repr.parse.Goals as goal

pub returns-in_err-check_len-clause-hop_by_hop : goal.returns-in_err-check_len-clause-hop_by_hop
returns-in_err-check_len-clause-hop_by_hop c = carries_options 8 (lit≤ tt)

pub returns-clause-hop_by_hop : goal.returns-clause-hop_by_hop
returns-clause-hop_by_hop c = carries_options 8 (lit≤ tt)
