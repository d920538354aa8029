use Rattle.opt_wire.proofs.Words.{arith, refl}
use Rattle.opt_wire.specs.Ipv6ExtHeader.{view_octets}
use Rattle.opt_wire.proofs.Ipv6ExtHeaderText.{whole-read}
use Rattle.opt_wire.proofs.ipv6ext_header.Repr.refusal.Goals as goal

pub returns-clause-exact : goal.returns-clause-exact
returns-clause-exact c = (
  λ none. whole-read (view_octets c.args.header.now) (
    omega (arith, c.if-len-lt-MIN_END.false),
    omega (arith, c.if-len-end.false, c.end_of-end.ensures, c.header_len.ensures),
  ),
  λ read. refl,
)
