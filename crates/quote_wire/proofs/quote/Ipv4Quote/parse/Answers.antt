use Rattle.std.proofs.Common.{◌≡◌, ℕ, ◌-◌, length, take, drop, ap, ◌∙◌, rules, arith}
use Rattle.std.proofs.lemmas.List.{take_all, length-drop}
use Rattle.wirebase.specs.Bytes.{part}
use Rattle.wirebase.specs.Ipv4.{header_len_in}
use Rattle.quote_wire.proofs.quote.Ipv4Quote.parse.Goals as goal

pub returns-clause-fields : goal.returns-clause-fields
unfolding part
returns-clause-fields c =
    let octets = c.args.octets.now in
    let n = c.header_len-header_len.result in
    let counted : n ≡ header_len_in octets = search rules in
    record {
      service = search rules;
      total = search rules;
      identification = search rules;
      whole = search rules;
      more = search rules;
      offset = search rules;
      hops = search rules;
      protocol = search rules;
      source = search rules;
      destination = search rules;
      options = ap (λ (k : ℕ). take (k - 20) (drop 20 octets)) counted;
      payload =
          take_all (length octets - n) (drop n octets) (omega (arith, length-drop n octets))
          ∙ ap (λ (k : ℕ). drop k octets) counted;
    }
