-- A text is that of one address at most.
use Rattle.std.proofs.Common.{List, None, Option, Some, ℕ}
use Rattle.std.specs.Prelude.{IfNone}
use Rattle.std.proofs.NetLemmas.Theorems.{IsIpText_unique}
use Rattle.std.specs.Net.Grammar.{IsIpText}
use Rattle.std.specs.declared.net.ip_addr.IpAddr.{IpAddr}
use Rattle.dump_captures.specs.Host.{HasBits, IsAddress, IsHostText}
use Rattle.dump_captures.specs.Settings.{before, behind}
use Rattle.dump_captures.specs.declared.host.Host.{Host}
use Rattle.dump_captures.proofs.host.Host.read.Goals as goal

-- of an address that has no such bits there is no host
none_of : (text : List ℕ) (a : IpAddr) (r : Option Host) → IsIpText (before 47 text) a
    → IfNone r ((host : Host) → IsAddress a host → HasBits (behind 47 text) host → ⊥)
    → IfNone r ((host : Host) → IsHostText text host → ⊥)
none_of text a (Some host) is none = tt
none_of text a None is none =
    λ host told. none host (rw (IsIpText_unique _ a told.address is told.is_text) told.is_address) told.bits

pub returns-in-Ok-clause-none : goal.returns-in-Ok-clause-none
returns-in-Ok-clause-none c =
    none_of c.args.text.now c.in-Ok.address c.of.result (rw (← c.split.ensures.before) c.in-Ok.ensures.value)
    (rw c.split.ensures.behind at c.of.ensures.none)
