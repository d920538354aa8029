-- What is kept from packet to packet.
use Rattle.packet_pairs.specs.Pairs.{state_of}
use Rattle.packet_stats.specs.Stats.{state_of as counts_of}
use Rattle.reassembly.specs.Reassembly.{state_of as fragments_of}
use Rattle.dump_captures.specs.Dump.{KeptValue}
use Rattle.dump_captures.specs.Session.{SessionValue}
use Rattle.dump_captures.specs.declared.packets.Kept.{Kept}
use Rattle.dump_captures.specs.declared.session.Session.{Session}

abbrev pub session_of : Session → SessionValue
session_of s = record { questions = state_of s.pairs; counts = counts_of s.stats }

abbrev pub kept_of : Kept → KeptValue
kept_of k = record { fragments = fragments_of k.fragments; session = session_of k.session }
