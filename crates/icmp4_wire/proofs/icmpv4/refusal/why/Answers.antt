use Rattle.icmp4_wire.proofs.Words.{List, Passes, ℕ, inr, rules, subst}
use Rattle.icmp4_wire.specs.Icmpv4.{view_octets, quote_checks}
use Rattle.icmp4_wire.proofs.Icmpv4Grammar.{passes_read, error_passes, echo_fails}
use Rattle.icmp4_wire.proofs.icmpv4.refusal.why.Goals as goal

pub why_no_quote-requires : goal.why_no_quote-requires
why_no_quote-requires c = λ q.
    let bytes = view_octets c.args.packet.now in
    let quote = subst (λ (l : List ℕ). Passes (quote_checks l)) c.data.ensures q in
    c.requires
    (passes_read c.args.checksum_caps.now bytes
    (search rules, (search rules, error_passes bytes (search rules) quote)))

pub returns-in-EchoRequest : goal.returns-in-EchoRequest
returns-in-EchoRequest c =
    let bytes = view_octets c.args.packet.now in
    inr (
      search rules,
      inr (
        search rules,
        echo_fails bytes c.msg_code.result c.msg_code.ensures
            (λ p. c.requires (passes_read c.args.checksum_caps.now bytes (search rules, (search rules, p))))
            (search rules),
      ),
    )
