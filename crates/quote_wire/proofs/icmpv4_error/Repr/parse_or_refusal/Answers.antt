use Rattle.std.proofs.Common.{◌-◌, List, ℕ, inr, length, drop, refl, subst, rules, arith}
use Rattle.std.proofs.lemmas.List.{take_all, length-drop}
use Rattle.quote_wire.specs.Quote.{RefusesIpv4}
use Rattle.quote_wire.proofs.icmpv4_error.Repr.parse_or_refusal.Goals as goal

pub returns-then-not-is_datagram-clause-told : goal.returns-then-not-is_datagram-clause-told
returns-then-not-is_datagram-clause-told c =
    let octets = c.args.octets.now in
    let why = c.why_no_datagram.result in
    let behind = take_all (length octets - 8) (drop 8 octets) (omega (arith, length-drop 8 octets)) in
    inr (
      (search rules, (search rules, (search rules, tt))),
      why,
      subst (λ (bytes : List ℕ). RefusesIpv4 bytes why) behind c.why_no_datagram.ensures,
      refl,
    )
