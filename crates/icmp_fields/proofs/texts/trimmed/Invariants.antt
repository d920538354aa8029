-- What is behind is zeros.
use Rattle.std.proofs.Common.{◌≡◌, ◌≤◌, length, take}
use Rattle.extension_wire.specs.InterfaceParts.{trimmed}
use Rattle.icmp_fields.proofs.texts.trimmed.Given as goal

abbrev pub invariant-loop-len : goal.invariant-loop-len
invariant-loop-len l = (l.len ≤ length l.fn.octets) × (trimmed (take l.len l.fn.octets) ≡ trimmed l.fn.octets)

abbrev pub decreases-loop-len : goal.decreases-loop-len
decreases-loop-len l = l.len
