use Rattle.icmp4_wire.proofs.Words.{◌∙◌, List, ℕ, ap}
use Rattle.icmp4_wire.specs.Icmpv4.{seal}
use Rattle.icmp4_wire.proofs.Icmpv4Format.{message_emits}
use Rattle.icmp4_wire.proofs.icmpv4.repr.Repr.emit_into.Goals as goal

pub returns : goal.returns
returns c =
    message_emits _ _ _ _ (c.seal.ensures ∙ ap (λ (l : List ℕ). seal c.args.checksum_caps.now l) c.write.ensures)
