-- Those below the index are.
use Rattle.std.proofs.Common.{◌≡◌, take, true}
use Rattle.std.specs.List.{list_all}
use Rattle.dns_fields.specs.Netbios.{is_letter}
use Rattle.dns_fields.proofs.netbios.are_letters.Given as goal

abbrev pub invariant-loop-letter : goal.invariant-loop-letter
invariant-loop-letter l = list_all is_letter (take l.letter-index l.label) ≡ true
