-- All so far are digits.
use Rattle.std.proofs.Common.{◌≡◌, drop}
use Rattle.std.specs.Str.{all_ascii_digits}
use Rattle.dump_captures.proofs.settings.are_digits.Given as goal

abbrev pub invariant-loop-octet : goal.invariant-loop-octet
invariant-loop-octet l = all_ascii_digits l.octets ≡ all_ascii_digits (drop l.octet-index l.octets)
