use Rattle.header_wire.proofs.Ipv6FragmentFormat.{all_rewrite}
use Rattle.header_wire.proofs.ipv6_fragment.Header.parse.Goals as goal

pub returns-clause-rewrites : goal.returns-clause-rewrites
returns-clause-rewrites c = all_rewrite c.args.octets.now c.read.result c.are_bytes.ensures c.read.ensures.sound
