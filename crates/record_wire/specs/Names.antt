-- The names that are read of messages (RFC 1035 sections 2.3.4 and 4.1.4).
use Rattle.std.specs.Prelude.{◌≤◌, List, ℕ, length}
use Rattle.dns_wire.specs.DnsName.{IsName}
use Rattle.record_wire.specs.Labels.{AreOfName}

-- The most pointers that are followed. A name of 255 octets has 127 labels at most, so after more pointers one leads to
-- no label of its own.
abbrev pub most_pointers : ℕ
most_pointers = 127

-- The name that begins in a text and may go on in a message has these labels, after as many pointers as are followed.
pub record IsFollowed (text message : List ℕ) (labels : List (List ℕ)) : Type 0 where
  pub is : IsName text message labels
  pub few : length is.targets ≤ most_pointers

-- a name of at most 255 octets
pub record Names (message bytes : List ℕ) (labels : List (List ℕ)) : Type 0 where
  pub name_is : IsFollowed bytes message labels
  pub fits : AreOfName labels
