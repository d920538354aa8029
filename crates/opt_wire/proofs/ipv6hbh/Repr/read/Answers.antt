use Rattle.opt_wire.proofs.Words.{List, ℕ, map, refl, subst, value_of}
use Rattle.std.specs.Borrow.{Bor}
use Rattle.opt_wire.specs.Ipv6Hbh.{inner, IsHeader}
use Rattle.opt_wire.proofs.Ipv6HbhGrammar.{header-unique}
use Rattle.opt_wire.proofs.ipv6hbh.Repr.read.Goals as goal

pub returns-clause-complete : goal.returns-clause-complete
returns-clause-complete c = λ other header.
    let read = map value_of c.read_options.new.options.items in
    header-unique 8 (inner c.args.header.now).now read other
    (subst (λ (octets : Bor (List ℕ)). IsHeader 8 octets.now read) c.options.ensures
    (c.in_ok-read_options.ensures.sound refl)) header
