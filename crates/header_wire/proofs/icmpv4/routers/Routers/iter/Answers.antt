use Rattle.header_wire.specs.Routers.{count_in, words_in, octets_in, entry_len}
use Rattle.header_wire.proofs.RoutersAhead.{entries_of}
use Rattle.header_wire.proofs.icmpv4.routers.Routers.iter.Goals as goal

pub returns : goal.returns
returns c =
    entries_of (entry_len (words_in c.args.self.now)) (count_in c.args.self.now) (octets_in c.args.self.now)
