-- What the codes of ICMPv6 errors say, in the words that icmp6_wire has for them (RFC 4443 sections 3.1, 3.3 and 3.4).
use Rattle.std.specs.Prelude.{ℕ, List, [], ◌∷◌, Option, None, codes}
use Rattle.quote_wire.specs.Reason.{reason_in}
use Rattle.quote_wire.specs.declared.icmpv6_error.Kind.{Kind}

abbrev pub unreachable_reason : ℕ → Option (List ℕ)
unreachable_reason code =
    reason_in (codes "no route to destination"
    ∷ codes "communication with destination administratively prohibited"
    ∷ codes "beyond scope of source address"
    ∷ codes "address unreachable"
    ∷ codes "port unreachable"
    ∷ codes "source address failed ingress/egress policy"
    ∷ codes "reject route to destination" ∷ []) code

abbrev pub time_exceeded_reason : ℕ → Option (List ℕ)
time_exceeded_reason code =
    reason_in (codes "hop limit exceeded in transit" ∷ codes "fragment reassembly time exceeded" ∷ []) code

abbrev pub param_problem_reason : ℕ → Option (List ℕ)
param_problem_reason code =
    reason_in (codes "erroneous header field."
    ∷ codes "unrecognized next header type."
    ∷ codes "unrecognized IPv6 option." ∷ []) code

-- by the type
abbrev pub reason_of : Kind → ℕ → Option (List ℕ)
reason_of Kind.DstUnreachable code = unreachable_reason code
reason_of Kind.PktTooBig code = None
reason_of Kind.TimeExceeded code = time_exceeded_reason code
reason_of Kind.ParamProblem code = param_problem_reason code
