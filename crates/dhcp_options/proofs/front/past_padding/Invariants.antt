use Rattle.dhcp_options.proofs.Words.{◌≡◌, ahead_of, drop}
use Rattle.dhcp_options.proofs.front.past_padding.Given as goal

abbrev pub invariant-loop-i : goal.invariant-loop-i
invariant-loop-i l = ahead_of (drop l.i l.octets) ≡ ahead_of l.octets
