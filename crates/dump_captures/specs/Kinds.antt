-- The kinds of control packets, and the reasons for which one is refused.
use Rattle.std.specs.Prelude.{ℕ, List, [], ◌∷◌, codes}
use Rattle.dump_captures.specs.declared.kind.Kind.{Kind}
use Rattle.dump_captures.specs.declared.kind.Kind.TheVariants as kind
use Rattle.dump_captures.specs.declared.kind.Reason.{Reason}
use Rattle.dump_captures.specs.declared.kind.Reason.TheVariants as reason

-- ---- kinds

abbrev pub kind_text : Kind → List ℕ
kind_text kind.Icmp4 = codes "icmp4"
kind_text kind.Igmp = codes "igmp"
kind_text kind.Icmp6 = codes "icmp6"
kind_text kind.Dns = codes "dns"
kind_text kind.Mdns = codes "mdns"
kind_text kind.Llmnr = codes "llmnr"
kind_text kind.Nbns = codes "nbns"
kind_text kind.Dhcp = codes "dhcp"
kind_text kind.Frame = codes "frame"

-- the order in tables
abbrev pub kinds : List Kind
kinds =
    kind.Icmp4 ∷ kind.Igmp ∷ kind.Icmp6 ∷ kind.Dns ∷ kind.Mdns ∷ kind.Llmnr ∷ kind.Nbns ∷ kind.Dhcp
    ∷ kind.Frame ∷ []

-- the place of each in that order
abbrev pub kind_place : Kind → ℕ
kind_place kind.Icmp4 = 0
kind_place kind.Igmp = 1
kind_place kind.Icmp6 = 2
kind_place kind.Dns = 3
kind_place kind.Mdns = 4
kind_place kind.Llmnr = 5
kind_place kind.Nbns = 6
kind_place kind.Dhcp = 7
kind_place kind.Frame = 8

-- ---- reasons

abbrev pub reason_text : Reason → List ℕ
reason_text reason.Cut = codes "cut"
reason_text reason.Fragment = codes "fragment"
reason_text reason.Short = codes "short"
reason_text reason.Checksum = codes "checksum"
reason_text reason.UnknownType = codes "type"
reason_text reason.Quote = codes "quote"
reason_text reason.Name = codes "name"
reason_text reason.Malformed = codes "malformed"

-- the order in tables
abbrev pub reasons : List Reason
reasons =
    reason.Cut ∷ reason.Fragment ∷ reason.Short ∷ reason.Checksum ∷ reason.UnknownType ∷ reason.Quote ∷ reason.Name
    ∷ reason.Malformed ∷ []

-- the place of each in that order
abbrev pub reason_place : Reason → ℕ
reason_place reason.Cut = 0
reason_place reason.Fragment = 1
reason_place reason.Short = 2
reason_place reason.Checksum = 3
reason_place reason.UnknownType = 4
reason_place reason.Quote = 5
reason_place reason.Name = 6
reason_place reason.Malformed = 7
