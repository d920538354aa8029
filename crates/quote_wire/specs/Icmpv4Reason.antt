-- What the codes of ICMPv4 errors say, in the words that icmp4_wire has for them (RFC 792, RFC 1122 section 3.2.2,
-- RFC 1812 section 5.2.7.1).
use Rattle.std.specs.Prelude.{ℕ, List, [], ◌∷◌, Option, None, codes}
use Rattle.quote_wire.specs.Reason.{reason_in}
use Rattle.quote_wire.specs.declared.icmpv4_error.Kind.{Kind}

abbrev pub unreachable_reason : ℕ → Option (List ℕ)
unreachable_reason code =
    reason_in (codes "destination network unreachable"
    ∷ codes "destination host unreachable"
    ∷ codes "destination protocol unreachable"
    ∷ codes "destination port unreachable"
    ∷ codes "fragmentation required, and DF flag set"
    ∷ codes "source route failed"
    ∷ codes "destination network unknown"
    ∷ codes "destination host unknown"
    ∷ codes "source host isolated"
    ∷ codes "network administratively prohibited"
    ∷ codes "host administratively prohibited"
    ∷ codes "network unreachable for ToS"
    ∷ codes "host unreachable for ToS"
    ∷ codes "communication administratively prohibited"
    ∷ codes "host precedence violation"
    ∷ codes "precedence cutoff in effect" ∷ []) code

abbrev pub redirect_reason : ℕ → Option (List ℕ)
redirect_reason code =
    reason_in (codes "redirect for the network"
    ∷ codes "redirect for the host"
    ∷ codes "redirect for the ToS and network"
    ∷ codes "redirect for the ToS and host" ∷ []) code

abbrev pub time_exceeded_reason : ℕ → Option (List ℕ)
time_exceeded_reason code =
    reason_in (codes "time-to-live exceeded in transit" ∷ codes "fragment reassembly time exceeded" ∷ []) code

abbrev pub param_problem_reason : ℕ → Option (List ℕ)
param_problem_reason code =
    reason_in (codes "pointer indicates the error" ∷ codes "missing a required option" ∷ codes "bad length" ∷ []) code

-- by the type
abbrev pub reason_of : Kind → ℕ → Option (List ℕ)
reason_of Kind.DstUnreachable code = unreachable_reason code
reason_of Kind.SourceQuench code = None
reason_of Kind.Redirect code = redirect_reason code
reason_of Kind.TimeExceeded code = time_exceeded_reason code
reason_of Kind.ParamProblem code = param_problem_reason code
