-- One part of a name at the front of a text, in the words of the code that finds it.
use Rattle.std.specs.Prelude.{◌≡◌, ◌++◌, List, ℕ}
use Rattle.dns_wire.specs.DnsName.{IsOnePart}
use Rattle.dns_wire.specs.DnsNameAhead.{whole}

-- a text is one part of a name, and then a rest
pub record IsSplit (text name rest : List ℕ) : Type 0 where
  pub name_is : IsOnePart name
  pub whole : text ≡ name ++ rest
