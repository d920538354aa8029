-- Addresses of DNS servers printed.
use Rattle.std.specs.Prelude.{ℕ, List, ◌++◌, codes, flat_map}
use Rattle.std.specs.Net.Addr.{segments_of}
use Rattle.std.specs.Net.Text.{hex_groups_text}
use Rattle.neighbor_wire.specs.Servers.{servers_in}

-- an address by its octets (RFC 5952 section 4)
abbrev pub octets_text : List ℕ → List ℕ
octets_text octets = hex_groups_text (segments_of octets)

abbrev pub behind_space : List ℕ → List ℕ
behind_space server = codes " " ++ octets_text server

-- each address after a space
abbrev pub servers_display : List ℕ → List ℕ
servers_display bytes = flat_map behind_space (servers_in bytes)
