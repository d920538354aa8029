use Rattle.std.proofs.Common.{ℕ, List, ap, ◌∙◌}
use Rattle.wirebase.specs.Checksum.{sealed}
use Rattle.wirebase.specs.Ipv4.{checksum_field}
use Rattle.header_wire.specs.Ipv4.{value_of}
use Rattle.header_wire.proofs.HeaderTexts.{over-text}
use Rattle.header_wire.proofs.ipv4.Header.write.Goals as goal

pub returns : goal.returns
returns c =
    c.fill.ensures.sealed
    ∙ ap (λ (l : List ℕ). sealed checksum_field l 0)
    (c.write_fields.ensures ∙ over-text c.args.header.now (value_of c.args.self.now) c.requires.whole)
