-- The printed texts of messages of ICMPv4 and their parts.
use Rattle.std.specs.Prelude.{ℕ, List, [], ◌∷◌, codes, decimal, length, nat_lt, if◌then◌else◌}
use Rattle.icmp4_wire.specs.Words.{DstUnreachable, ParamProblem, Redirect, TimeExceeded, code_field, pieces, type_field}
use Rattle.wirebase.specs.Bytes.{byte_of}
use Rattle.icmp4_wire.specs.declared.icmpv4.tables.Message.{Message}
use Rattle.icmp4_wire.specs.Icmpv4Tables.{message_of, unreachable_of, time_exceeded_of}
use Rattle.icmp4_wire.specs.Icmpv4.{MessageValue, echo_request, echo_reply, unreachable, time_exceeded}

-- the type of a message
abbrev pub message_display : Message → List ℕ
message_display Message.EchoReply = codes "echo reply"
message_display Message.DstUnreachable = codes "destination unreachable"
message_display Message.Redirect = codes "message redirect"
message_display Message.EchoRequest = codes "echo request"
message_display Message.RouterAdvert = codes "router advertisement"
message_display Message.RouterSolicit = codes "router solicitation"
message_display Message.TimeExceeded = codes "time exceeded"
message_display Message.ParamProblem = codes "parameter problem"
message_display Message.Timestamp = codes "timestamp"
message_display Message.TimestampReply = codes "timestamp reply"
message_display (Message.Unknown n) = decimal n

-- why a destination is unreachable
abbrev pub unreachable_display : DstUnreachable → List ℕ
unreachable_display DstUnreachable.NetUnreachable = codes "destination network unreachable"
unreachable_display DstUnreachable.HostUnreachable = codes "destination host unreachable"
unreachable_display DstUnreachable.ProtoUnreachable = codes "destination protocol unreachable"
unreachable_display DstUnreachable.PortUnreachable = codes "destination port unreachable"
unreachable_display DstUnreachable.FragRequired = codes "fragmentation required, and DF flag set"
unreachable_display DstUnreachable.SrcRouteFailed = codes "source route failed"
unreachable_display DstUnreachable.DstNetUnknown = codes "destination network unknown"
unreachable_display DstUnreachable.DstHostUnknown = codes "destination host unknown"
unreachable_display DstUnreachable.SrcHostIsolated = codes "source host isolated"
unreachable_display DstUnreachable.NetProhibited = codes "network administratively prohibited"
unreachable_display DstUnreachable.HostProhibited = codes "host administratively prohibited"
unreachable_display DstUnreachable.NetUnreachToS = codes "network unreachable for ToS"
unreachable_display DstUnreachable.HostUnreachToS = codes "host unreachable for ToS"
unreachable_display DstUnreachable.CommProhibited = codes "communication administratively prohibited"
unreachable_display DstUnreachable.HostPrecedViol = codes "host precedence violation"
unreachable_display DstUnreachable.PrecedCutoff = codes "precedence cutoff in effect"
unreachable_display (DstUnreachable.Unknown n) = decimal n

-- for which packets another gateway is better
abbrev pub redirect_display : Redirect → List ℕ
redirect_display Redirect.Net = codes "redirect for the network"
redirect_display Redirect.Host = codes "redirect for the host"
redirect_display Redirect.NetToS = codes "redirect for the ToS and network"
redirect_display Redirect.HostToS = codes "redirect for the ToS and host"
redirect_display (Redirect.Unknown n) = decimal n

-- which time was exceeded
abbrev pub time_exceeded_display : TimeExceeded → List ℕ
time_exceeded_display TimeExceeded.TtlExpired = codes "time-to-live exceeded in transit"
time_exceeded_display TimeExceeded.FragExpired = codes "fragment reassembly time exceeded"
time_exceeded_display (TimeExceeded.Unknown n) = decimal n

-- what is wrong with a parameter
abbrev pub param_problem_display : ParamProblem → List ℕ
param_problem_display ParamProblem.AtPointer = codes "pointer indicates the error"
param_problem_display ParamProblem.MissingOption = codes "missing a required option"
param_problem_display ParamProblem.BadLength = codes "bad length"
param_problem_display (ParamProblem.Unknown n) = decimal n

-- a message: an echo by its numbers and the bytes of its data, an error by its reason
abbrev pub repr_display : MessageValue → List ℕ
repr_display (echo_request ident seq_no d) =
    pieces (codes "ICMPv4 echo request id=" ∷ decimal ident
    ∷ codes " seq=" ∷ decimal seq_no
    ∷ codes " len=" ∷ decimal (length d) ∷ [])
repr_display (echo_reply ident seq_no d) =
    pieces (codes "ICMPv4 echo reply id=" ∷ decimal ident
    ∷ codes " seq=" ∷ decimal seq_no
    ∷ codes " len=" ∷ decimal (length d) ∷ [])
repr_display (unreachable reason quoted d) =
    pieces (codes "ICMPv4 destination unreachable (" ∷ unreachable_display reason ∷ codes ")" ∷ [])
repr_display (time_exceeded reason quoted d) =
    pieces (codes "ICMPv4 time exceeded (" ∷ time_exceeded_display reason ∷ codes ")" ∷ [])

-- ---- of octets that are refused, the type and the code by their names

abbrev unknown_name : ℕ → List ℕ
unknown_name n = pieces (codes "Unknown(" ∷ decimal n ∷ codes ")" ∷ [])

abbrev pub message_name : Message → List ℕ
message_name Message.EchoReply = codes "EchoReply"
message_name Message.DstUnreachable = codes "DstUnreachable"
message_name Message.Redirect = codes "Redirect"
message_name Message.EchoRequest = codes "EchoRequest"
message_name Message.RouterAdvert = codes "RouterAdvert"
message_name Message.RouterSolicit = codes "RouterSolicit"
message_name Message.TimeExceeded = codes "TimeExceeded"
message_name Message.ParamProblem = codes "ParamProblem"
message_name Message.Timestamp = codes "Timestamp"
message_name Message.TimestampReply = codes "TimestampReply"
message_name (Message.Unknown n) = unknown_name n

abbrev pub unreachable_name : DstUnreachable → List ℕ
unreachable_name DstUnreachable.NetUnreachable = codes "NetUnreachable"
unreachable_name DstUnreachable.HostUnreachable = codes "HostUnreachable"
unreachable_name DstUnreachable.ProtoUnreachable = codes "ProtoUnreachable"
unreachable_name DstUnreachable.PortUnreachable = codes "PortUnreachable"
unreachable_name DstUnreachable.FragRequired = codes "FragRequired"
unreachable_name DstUnreachable.SrcRouteFailed = codes "SrcRouteFailed"
unreachable_name DstUnreachable.DstNetUnknown = codes "DstNetUnknown"
unreachable_name DstUnreachable.DstHostUnknown = codes "DstHostUnknown"
unreachable_name DstUnreachable.SrcHostIsolated = codes "SrcHostIsolated"
unreachable_name DstUnreachable.NetProhibited = codes "NetProhibited"
unreachable_name DstUnreachable.HostProhibited = codes "HostProhibited"
unreachable_name DstUnreachable.NetUnreachToS = codes "NetUnreachToS"
unreachable_name DstUnreachable.HostUnreachToS = codes "HostUnreachToS"
unreachable_name DstUnreachable.CommProhibited = codes "CommProhibited"
unreachable_name DstUnreachable.HostPrecedViol = codes "HostPrecedViol"
unreachable_name DstUnreachable.PrecedCutoff = codes "PrecedCutoff"
unreachable_name (DstUnreachable.Unknown n) = unknown_name n

abbrev pub time_exceeded_name : TimeExceeded → List ℕ
time_exceeded_name TimeExceeded.TtlExpired = codes "TtlExpired"
time_exceeded_name TimeExceeded.FragExpired = codes "FragExpired"
time_exceeded_name (TimeExceeded.Unknown n) = unknown_name n

-- the code of a message: of an error its reason, otherwise its number
abbrev pub code_name : Message → ℕ → List ℕ
code_name Message.DstUnreachable code = unreachable_name (unreachable_of code)
code_name Message.TimeExceeded code = time_exceeded_name (time_exceeded_of code)
code_name _ code = decimal code

-- as far as the octets have a type and a code
abbrev pub type_and_code_display : Message → ℕ → List ℕ
type_and_code_display kind code =
    pieces (codes "ICMPv4 (wire::Error) type=" ∷ message_name kind ∷ codes " code=" ∷ code_name kind code ∷ [])

abbrev pub refused_display : List ℕ → List ℕ
refused_display bytes =
    if nat_lt (length bytes) 2 then codes "ICMPv4 (wire::Error)"
    else type_and_code_display (message_of (byte_of type_field bytes)) (byte_of code_field bytes)
