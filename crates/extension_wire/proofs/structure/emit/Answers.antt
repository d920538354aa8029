use Rattle.std.proofs.Common.{ℕ, List, map, sym, ap, subst, ◌∙◌}
use Rattle.wirebase.specs.ByteWriter.{fields}
use Rattle.wirebase.specs.Checksum.{sealed}
use Rattle.wirebase.proofs.Pieces.{over-exact}
use Rattle.extension_wire.specs.Object.{ObjectValue, value_of}
use Rattle.extension_wire.specs.Structure.{checksum_field, IsStructure}
use Rattle.extension_wire.specs.Writer.{objects_text, structure_fields}
use Rattle.extension_wire.proofs.WriterFormat.{length-fields, structure_read, tile_objects}
use Rattle.extension_wire.proofs.structure.emit.Goals as goal

pub returns-clause-text : goal.returns-clause-text
returns-clause-text c =
    let objects : List ObjectValue = map value_of c.args.objects.now in
    c.fill.ensures.sealed
    ∙ ap (λ (l : List ℕ). sealed checksum_field l 0)
    (c.write_fields.ensures
    ∙ over-exact c.args.octets.now (fields (structure_fields objects))
    (sym c.requires.room ∙ sym (length-fields objects)))

pub returns-clause-structure : goal.returns-clause-structure
returns-clause-structure c =
    let objects : List ObjectValue = map value_of c.args.objects.now in
    subst (λ (l : List ℕ). IsStructure l (objects_text objects)) (sym (returns-clause-text c)) (structure_read objects)

pub returns-clause-objects : goal.returns-clause-objects
returns-clause-objects c = tile_objects (map value_of c.args.objects.now)
