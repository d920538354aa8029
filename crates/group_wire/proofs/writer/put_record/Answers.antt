use Rattle.opt_wire.proofs.FieldsAtOnce.{puts-then, puts-fields}
use Rattle.group_wire.proofs.RecordTexts.{written_text}
use Rattle.group_wire.proofs.writer.put_record.Goals as goal

pub returns : goal.returns
returns g c =
    let f = g.A.Address.family in
    let bytes = g.A.Address.bytes in
    let puts = puts-then (puts-then (puts-then (puts-then c.put_u8.ensures.puts c.put_u8-2.ensures.puts)
    c.put_u16.ensures.puts) c.put.ensures.puts) c.put_addresses.ensures in
    puts-fields puts (rw c.into.ensures
    (written_text bytes f g.met.A.Address.whole c.args.record_type (bytes c.args.group.now) c.args.sources.now))
