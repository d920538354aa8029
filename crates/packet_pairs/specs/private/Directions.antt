-- The addresses of a message.
use Rattle.packet_pairs.specs.Key.{reversed}
use Rattle.packet_pairs.specs.Types.{Addresses, Role}

-- the asker's first
abbrev pub from_asker : Role → Addresses → Addresses
from_asker Role.Asks addresses = addresses
from_asker Role.Answers addresses = reversed addresses
