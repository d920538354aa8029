use Rattle.dhcp_wire.proofs.Words.{Ends, List, None, Some, ℕ, inner, list_of, options_in, subst, take_rest}
use Rattle.dhcp_wire.proofs.dhcpv4.refusal.end_refusal.Goals as goal

pub returns-in-Some : goal.returns-in-Some
returns-in-Some c =
    let bytes = (inner c.args.packet.now).now in (
      list_of (options_in bytes),
      c.requires.no_type,
      c.requires.none,
      subst (λ (l : List ℕ). Ends l (Some c.in-Some.kind)) (take_rest bytes 240) c.in-Some.ensures,
    )

pub returns-in-None : goal.returns-in-None
returns-in-None c =
    let bytes = (inner c.args.packet.now).now in (
      list_of (options_in bytes),
      c.requires.no_type,
      c.requires.none,
      subst (λ (l : List ℕ). Ends l None) (take_rest bytes 240) c.in-None.ensures,
    )
