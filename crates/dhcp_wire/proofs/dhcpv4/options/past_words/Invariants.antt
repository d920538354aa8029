use Rattle.dhcp_wire.proofs.Words.{◌≡◌, length, list_of}
use Rattle.dhcp_wire.proofs.dhcpv4.options.past_words.Given as goal

abbrev pub invariant-loop-rest : goal.invariant-loop-rest
invariant-loop-rest l = list_of l.rest ≡ list_of l.octets

abbrev pub decreases-loop-rest : goal.decreases-loop-rest
decreases-loop-rest l = length l.rest
