-- The numbers of an IPv6 option: its type, the value of a router alert, and what a node does with a type that it
-- does not know.
use Rattle.std.specs.Prelude.{ℕ, ◌*◌, ◌/◌, List, [], ◌∷◌}
use Rattle.opt_wire.specs.Words.{FailureType, RouterAlert, case_in, rows_of}
use Rattle.opt_wire.specs.declared.ipv6option.tables.Type.{«Type» as Kind}

-- option types (RFC 8200 section 4.2, RFC 2711, RFC 6553)
abbrev pub type_number : Kind → ℕ
type_number Kind.Pad1 = 0
type_number Kind.PadN = 1
type_number Kind.RouterAlert = 5
type_number Kind.Rpl = 0x63
type_number (Kind.Unknown n) = n

abbrev pub types : List Kind
types = Kind.Pad1 ∷ Kind.PadN ∷ Kind.RouterAlert ∷ Kind.Rpl ∷ []

abbrev pub type_rows : List (Kind × ℕ)
type_rows = rows_of type_number types

abbrev pub type_of : ℕ → Kind
type_of n = case_in Kind.Unknown type_rows n

-- router alerts (RFC 2711 section 2.1)
abbrev pub alert_number : RouterAlert → ℕ
alert_number RouterAlert.MulticastListenerDiscovery = 0
alert_number RouterAlert.Rsvp = 1
alert_number RouterAlert.ActiveNetworks = 2
alert_number (RouterAlert.Unknown n) = n

abbrev pub alerts : List RouterAlert
alerts = RouterAlert.MulticastListenerDiscovery ∷ RouterAlert.Rsvp ∷ RouterAlert.ActiveNetworks ∷ []

abbrev pub alert_rows : List (RouterAlert × ℕ)
alert_rows = rows_of alert_number alerts

abbrev pub alert_of : ℕ → RouterAlert
alert_of n = case_in RouterAlert.Unknown alert_rows n

-- what the two highest bits of an option type ask of a node that does not know it (RFC 8200 section 4.2)
abbrev pub failure_number : FailureType → ℕ
failure_number FailureType.Skip = 0x00
failure_number FailureType.Discard = 0x40
failure_number FailureType.DiscardSendAll = 0x80
failure_number FailureType.DiscardSendUnicast = 0xc0

abbrev pub failures : List FailureType
failures = FailureType.Skip ∷ FailureType.Discard ∷ FailureType.DiscardSendAll ∷ FailureType.DiscardSendUnicast ∷ []

-- the failure type of the two highest bits of a byte
abbrev pub failure_of : ℕ → FailureType
failure_of n = case_in (λ _. FailureType.DiscardSendUnicast) (rows_of failure_number failures) (n / 64 * 64)
