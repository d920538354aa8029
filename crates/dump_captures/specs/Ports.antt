-- The ports that are given to services beside their own, and the service that they tell.
use Rattle.std.specs.Prelude.{ℕ, ◌^◌, ◌==◌, ◌||◌, ◌&&◌, nat_lt, Bool, false, if◌then◌else◌, List, codes, bytes_eq}
use Rattle.std.specs.Prelude.{Option, None, Some}
use Rattle.std.specs.Option.{option_and_then}
use Rattle.message_fields.specs.declared.message.Service.{Service}
use Rattle.dump_captures.specs.Settings.{before, behind, count_in}
use Rattle.dump_captures.specs.declared.ports.Ports.{Ports}

-- ---- by the texts of the option

abbrev pub no_ports : Ports
no_ports = record { dns = None; mdns = None; llmnr = None; nbns = None; dhcp = None }

-- a number of 16 bits from 1 on in decimal digits
abbrev pub port_in : List ℕ → Option ℕ
port_in text = option_and_then (λ number. if nat_lt number (2 ^ 16) then Some number else None) (count_in text)

-- another port for the service of a name, none where no service has the name
abbrev pub with_port : Ports → List ℕ → ℕ → Option Ports
with_port given name port =
    if bytes_eq name (codes "dns") then Some (record given { dns = Some port })
    else if bytes_eq name (codes "mdns") then Some (record given { mdns = Some port })
    else if bytes_eq name (codes "llmnr") then Some (record given { llmnr = Some port })
    else if bytes_eq name (codes "nbns") then Some (record given { nbns = Some port })
    else if bytes_eq name (codes "dhcp") then Some (record given { dhcp = Some port })
    else None

-- the same for a name and a port with an equals sign between them
abbrev pub with_ports : Ports → List ℕ → Option Ports
with_ports given text =
    option_and_then (with_port given (before 61 text)) (option_and_then port_in (behind 61 text))

-- ---- the service of two ports

-- a port is that of the source or of the destination
abbrev pub has_port : ℕ × ℕ → ℕ → Bool
has_port ports n = (ports.0 == n) || (ports.1 == n)

-- the same of a port that may be given
abbrev pub has_given : ℕ × ℕ → Option ℕ → Bool
has_given ports None = false
has_given ports (Some n) = has_port ports n

-- the first service that one of them is given to; DHCP is over IPv4 alone
abbrev pub given_service : Ports → Bool → ℕ × ℕ → Option Service
given_service given over_v4 ports =
    if has_given ports given.dns then Some Service.Dns
    else if has_given ports given.mdns then Some Service.Mdns
    else if has_given ports given.llmnr then Some Service.Llmnr
    else if has_given ports given.nbns then Some Service.Nbns
    else if over_v4 && has_given ports given.dhcp then Some Service.Dhcp
    else None
