use Rattle.record_wire.proofs.Words.{◌≡◌, ◌∙◌, address6, ap, refl, rules, sym}
use Rattle.wirebase.specs.Ipv6Address.{octets_of}
use Rattle.record_wire.proofs.rdata.read_ipv6.Goals as goal

pub returns-clause-sound : goal.returns-clause-sound
returns-clause-sound c =
    let whole : octets_of c.from_octets.result ≡ c.args.octets.now = search rules in
    record { address = c.from_octets.result; len = search rules; octets = whole; is = refl }

pub returns-clause-complete : goal.returns-clause-complete
returns-clause-complete c = λ value is.
    let whole : octets_of c.from_octets.result ≡ c.args.octets.now = search rules in
    ap address6 ((c.from_octets.ensures.same c.from_octets.result is.address).1 (whole ∙ sym is.octets)) ∙ sym is.is
