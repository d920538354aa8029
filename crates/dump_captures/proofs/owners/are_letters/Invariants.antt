-- All so far are letters.
use Rattle.std.proofs.Common.{◌≡◌, drop}
use Rattle.std.specs.List.{list_all}
use Rattle.dns_fields.specs.Netbios.{is_letter}
use Rattle.dump_captures.proofs.owners.are_letters.Given as goal

abbrev pub invariant-loop-octet : goal.invariant-loop-octet
invariant-loop-octet l = list_all is_letter l.octets ≡ list_all is_letter (drop l.octet-index l.octets)
