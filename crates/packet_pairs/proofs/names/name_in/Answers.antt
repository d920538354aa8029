-- A message without one question is none.
use Rattle.std.proofs.Common.{refl, subst, sym}
use Rattle.packet_pairs.specs.Names.{Asks}
use Rattle.packet_pairs.proofs.names.name_in.Goals as goal

pub returns-in_default : goal.returns-in_default
returns-in_default c e h =
    c.in_default.ensures.none refl h.question h.labels
    (subst (λ b. Asks b.now h.question h.labels) (sym c.in-Ok.ensures.buffer) h.asks)
