-- The numbers of ICMPv6: message types, and the codes of each (RFC 4443).
use Rattle.std.specs.Prelude.{ℕ, Bool, true, false, List, [], ◌∷◌, codes, decimal}
use Rattle.icmp6_wire.specs.Words.{rows_of, case_in, Message, DstUnreachable, ParamProblem, TimeExceeded}

-- message types (RFC 4443 section 2.1, RFC 4861 section 4, RFC 3810 section 5, RFC 6550 section 6)
abbrev pub message_number : Message → ℕ
message_number Message.DstUnreachable = 1
message_number Message.PktTooBig = 2
message_number Message.TimeExceeded = 3
message_number Message.ParamProblem = 4
message_number Message.EchoRequest = 0x80
message_number Message.EchoReply = 0x81
message_number Message.MldQuery = 0x82
message_number Message.RouterSolicit = 0x85
message_number Message.RouterAdvert = 0x86
message_number Message.NeighborSolicit = 0x87
message_number Message.NeighborAdvert = 0x88
message_number Message.Redirect = 0x89
message_number Message.MldReport = 0x8f
message_number Message.RplControl = 0x9b
message_number (Message.Unknown n) = n

abbrev pub messages : List Message
messages =
    Message.DstUnreachable ∷ Message.PktTooBig ∷ Message.TimeExceeded ∷ Message.ParamProblem
    ∷ Message.EchoRequest ∷ Message.EchoReply ∷ Message.MldQuery ∷ Message.RouterSolicit
    ∷ Message.RouterAdvert ∷ Message.NeighborSolicit ∷ Message.NeighborAdvert ∷ Message.Redirect
    ∷ Message.MldReport ∷ Message.RplControl ∷ []

abbrev pub message_rows : List (Message × ℕ)
message_rows = rows_of message_number messages

abbrev pub message_of : ℕ → Message
message_of n = case_in Message.Unknown message_rows n

abbrev pub message_text : Message → List ℕ
message_text Message.DstUnreachable = codes "destination unreachable"
message_text Message.PktTooBig = codes "packet too big"
message_text Message.TimeExceeded = codes "time exceeded"
message_text Message.ParamProblem = codes "parameter problem"
message_text Message.EchoRequest = codes "echo request"
message_text Message.EchoReply = codes "echo reply"
message_text Message.MldQuery = codes "multicast listener query"
message_text Message.RouterSolicit = codes "router solicitation"
message_text Message.RouterAdvert = codes "router advertisement"
message_text Message.NeighborSolicit = codes "neighbor solicitation"
message_text Message.NeighborAdvert = codes "neighbor advert"
message_text Message.Redirect = codes "redirect"
message_text Message.MldReport = codes "multicast listener report"
message_text Message.RplControl = codes "RPL control message"
message_text (Message.Unknown n) = decimal n

-- codes of destination unreachable (RFC 4443 section 3.1)
abbrev pub unreachable_number : DstUnreachable → ℕ
unreachable_number DstUnreachable.NoRoute = 0
unreachable_number DstUnreachable.AdminProhibit = 1
unreachable_number DstUnreachable.BeyondScope = 2
unreachable_number DstUnreachable.AddrUnreachable = 3
unreachable_number DstUnreachable.PortUnreachable = 4
unreachable_number DstUnreachable.FailedPolicy = 5
unreachable_number DstUnreachable.RejectRoute = 6
unreachable_number (DstUnreachable.Unknown n) = n

abbrev pub unreachables : List DstUnreachable
unreachables =
    DstUnreachable.NoRoute ∷ DstUnreachable.AdminProhibit ∷ DstUnreachable.BeyondScope ∷ DstUnreachable.AddrUnreachable
    ∷ DstUnreachable.PortUnreachable ∷ DstUnreachable.FailedPolicy ∷ DstUnreachable.RejectRoute ∷ []

abbrev pub unreachable_rows : List (DstUnreachable × ℕ)
unreachable_rows = rows_of unreachable_number unreachables

abbrev pub unreachable_of : ℕ → DstUnreachable
unreachable_of n = case_in DstUnreachable.Unknown unreachable_rows n

abbrev pub unreachable_text : DstUnreachable → List ℕ
unreachable_text DstUnreachable.NoRoute = codes "no route to destination"
unreachable_text DstUnreachable.AdminProhibit = codes "communication with destination administratively prohibited"
unreachable_text DstUnreachable.BeyondScope = codes "beyond scope of source address"
unreachable_text DstUnreachable.AddrUnreachable = codes "address unreachable"
unreachable_text DstUnreachable.PortUnreachable = codes "port unreachable"
unreachable_text DstUnreachable.FailedPolicy = codes "source address failed ingress/egress policy"
unreachable_text DstUnreachable.RejectRoute = codes "reject route to destination"
unreachable_text (DstUnreachable.Unknown n) = decimal n

-- codes of parameter problem (RFC 4443 section 3.4)
abbrev pub param_problem_number : ParamProblem → ℕ
param_problem_number ParamProblem.ErroneousHdrField = 0
param_problem_number ParamProblem.UnrecognizedNxtHdr = 1
param_problem_number ParamProblem.UnrecognizedOption = 2
param_problem_number (ParamProblem.Unknown n) = n

abbrev pub param_problems : List ParamProblem
param_problems =
    ParamProblem.ErroneousHdrField ∷ ParamProblem.UnrecognizedNxtHdr ∷ ParamProblem.UnrecognizedOption ∷ []

abbrev pub param_problem_rows : List (ParamProblem × ℕ)
param_problem_rows = rows_of param_problem_number param_problems

abbrev pub param_problem_of : ℕ → ParamProblem
param_problem_of n = case_in ParamProblem.Unknown param_problem_rows n

abbrev pub param_problem_text : ParamProblem → List ℕ
param_problem_text ParamProblem.ErroneousHdrField = codes "erroneous header field."
param_problem_text ParamProblem.UnrecognizedNxtHdr = codes "unrecognized next header type."
param_problem_text ParamProblem.UnrecognizedOption = codes "unrecognized IPv6 option."
param_problem_text (ParamProblem.Unknown n) = decimal n

-- codes of time exceeded (RFC 4443 section 3.3)
abbrev pub time_exceeded_number : TimeExceeded → ℕ
time_exceeded_number TimeExceeded.HopLimitExceeded = 0
time_exceeded_number TimeExceeded.FragReassemExceeded = 1
time_exceeded_number (TimeExceeded.Unknown n) = n

abbrev pub time_exceededs : List TimeExceeded
time_exceededs =
    TimeExceeded.HopLimitExceeded ∷ TimeExceeded.FragReassemExceeded ∷ []

abbrev pub time_exceeded_rows : List (TimeExceeded × ℕ)
time_exceeded_rows = rows_of time_exceeded_number time_exceededs

abbrev pub time_exceeded_of : ℕ → TimeExceeded
time_exceeded_of n = case_in TimeExceeded.Unknown time_exceeded_rows n

abbrev pub time_exceeded_text : TimeExceeded → List ℕ
time_exceeded_text TimeExceeded.HopLimitExceeded = codes "hop limit exceeded in transit"
time_exceeded_text TimeExceeded.FragReassemExceeded = codes "fragment reassembly time exceeded"
time_exceeded_text (TimeExceeded.Unknown n) = decimal n

-- the messages of neighbor discovery (RFC 4861 section 4), and those of multicast listener discovery (RFC 3810 section
-- 5)
abbrev pub is_ndisc : Message → Bool
is_ndisc Message.RouterSolicit = true
is_ndisc Message.RouterAdvert = true
is_ndisc Message.NeighborSolicit = true
is_ndisc Message.NeighborAdvert = true
is_ndisc Message.Redirect = true
is_ndisc _ = false

abbrev pub is_mld : Message → Bool
is_mld Message.MldQuery = true
is_mld Message.MldReport = true
is_mld _ = false
