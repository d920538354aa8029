use Rattle.std.proofs.Common.{◌-◌, length, drop, rules, arith}
use Rattle.std.proofs.lemmas.List.{take_all, length-drop}
use Rattle.quote_wire.proofs.quote.Ipv6Quote.parse.Goals as goal

pub returns-clause-fields : goal.returns-clause-fields
returns-clause-fields c = record {
  class = search rules;
  flow = search rules;
  length_is = search rules;
  protocol = search rules;
  hops = search rules;
  source = search rules;
  destination = search rules;
  payload = let octets = c.args.octets.now in
      take_all (length octets - 40) (drop 40 octets) (omega (arith, length-drop 40 octets));
}
