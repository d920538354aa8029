-- A message that is no echo is what is found of neighbors.
use Rattle.std.specs.Option.{option_map}
use Rattle.packet_pairs.specs.Exchange.{exchange_of}
use Rattle.packet_pairs.proofs.Found.{no_echo}
use Rattle.packet_pairs.proofs.exchange.icmp6_in.Goals as goal

pub returns-in-None : goal.returns-in-None
returns-in-None c =
    no_echo c.args.src_addr c.args.dst_addr c.args.octets.now (option_map exchange_of c.neighbor_in.result)
    c.in-None.ensures c.neighbor_in.ensures
