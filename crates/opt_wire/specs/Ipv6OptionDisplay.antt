-- The printed texts of options and their parts.
use Rattle.std.specs.Prelude.{ℕ, List, [], ◌∷◌, Option, None, Some, codes, decimal}
use Rattle.opt_wire.specs.Words.{FailureType, RouterAlert, pieces}
use Rattle.opt_wire.specs.declared.ipv6option.tables.Type.{«Type» as Kind}
use Rattle.opt_wire.specs.Ipv6Option.{OptionValue, pad1, pad_n, router_alert, unknown}

-- a type, by its name
abbrev pub type_display : Kind → List ℕ
type_display Kind.Pad1 = codes "Pad1"
type_display Kind.PadN = codes "PadN"
type_display Kind.RouterAlert = codes "RouterAlert"
type_display Kind.Rpl = codes "RPL"
type_display (Kind.Unknown n) = decimal n

-- the value of a router alert
abbrev pub alert_text : RouterAlert → List ℕ
alert_text RouterAlert.MulticastListenerDiscovery = codes "multicast listener discovery"
alert_text RouterAlert.Rsvp = codes "RSVP"
alert_text RouterAlert.ActiveNetworks = codes "active networks"
alert_text (RouterAlert.Unknown n) = decimal n

-- the value of a router alert as it is printed in an option, by its name
abbrev pub alert_display : RouterAlert → List ℕ
alert_display RouterAlert.MulticastListenerDiscovery = codes "MulticastListenerDiscovery"
alert_display RouterAlert.Rsvp = codes "Rsvp"
alert_display RouterAlert.ActiveNetworks = codes "ActiveNetworks"
alert_display (RouterAlert.Unknown n) = pieces (codes "Unknown(" ∷ decimal n ∷ codes ")" ∷ [])

-- what a node does with an option that it does not know
abbrev pub failure_display : FailureType → List ℕ
failure_display FailureType.Skip = codes "skip"
failure_display FailureType.Discard = codes "discard"
failure_display FailureType.DiscardSendAll = codes "discard and send error"
failure_display FailureType.DiscardSendUnicast = codes "discard and send error if unicast"

-- an option; three of the four end with a space
abbrev pub option_display : OptionValue → List ℕ
option_display pad1 = codes "IPv6 Option Pad1 "
option_display (pad_n n) = pieces (codes "IPv6 Option PadN length=" ∷ decimal n ∷ codes " " ∷ [])
option_display (router_alert a) = pieces (codes "IPv6 Option RouterAlert value=" ∷ alert_display a ∷ [])
option_display (unknown k n d) =
    pieces (codes "IPv6 Option " ∷ type_display k ∷ codes " length=" ∷ decimal n ∷ codes " " ∷ [])

-- octets that begin with no option
abbrev pub refusal_display : List ℕ
refusal_display = codes "IPv6 Extension Option (wire::Error)"

-- octets, by the option that they begin with
abbrev pub view_display : Option OptionValue → List ℕ
view_display None = refusal_display
view_display (Some v) = option_display v
