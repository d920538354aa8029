use Rattle.std.proofs.Common.{length, rules}
use Rattle.std.specs.Prelude.{map}
use Rattle.std.specs.List.{concat}
use Rattle.group_wire.specs.Family.{width}
use Rattle.group_wire.proofs.RecordTexts.{length-addresses, pushed, record_read}
use Rattle.group_wire.proofs.writer.RecordsWriter.push.Goals as goal

pub invariant_of-self-clause-whole : goal.invariant_of-self-clause-whole
invariant_of-self-clause-whole g c =
    let f = g.A.Address.family in
    let bytes = g.A.Address.bytes in
    let w = c.args.self.now in
    let after = pushed f c.args.record_type (bytes c.args.group) (concat (map bytes c.args.sources.now))
    (length c.args.sources.now) w.count w.position _ w.buffer.now c.write_record.new.octets
    (g.met.A.Address.whole c.args.group)
    (length-addresses bytes (width f) g.met.A.Address.whole c.args.sources.now) c.if-sources.false w.within w.whole
    (search rules) c.if-self-len.false c.write_record.ensures in
    after.1

pub returns-clause-settled : goal.returns-clause-settled
returns-clause-settled g c =
    let f = g.A.Address.family in
    let bytes = g.A.Address.bytes in
    let w = c.args.self.now in
    let after = pushed f c.args.record_type (bytes c.args.group) (concat (map bytes c.args.sources.now))
    (length c.args.sources.now) w.count w.position _ w.buffer.now c.write_record.new.octets
    (g.met.A.Address.whole c.args.group)
    (length-addresses bytes (width f) g.met.A.Address.whole c.args.sources.now) c.if-sources.false w.within w.whole
    (search rules) c.if-self-len.false c.write_record.ensures in
    after.0

pub returns-clause-listed : goal.returns-clause-listed
returns-clause-listed g c =
    let f = g.A.Address.family in
    let bytes = g.A.Address.bytes in
    let w = c.args.self.now in
    let after = pushed f c.args.record_type (bytes c.args.group) (concat (map bytes c.args.sources.now))
    (length c.args.sources.now) w.count w.position _ w.buffer.now c.write_record.new.octets
    (g.met.A.Address.whole c.args.group)
    (length-addresses bytes (width f) g.met.A.Address.whole c.args.sources.now) c.if-sources.false w.within w.whole
    (search rules) c.if-self-len.false c.write_record.ensures in
    after.2

pub returns-clause-read : goal.returns-clause-read
returns-clause-read g c = λ proper.
    let f = g.A.Address.family in
    let bytes = g.A.Address.bytes in
    record_read f c.args.record_type (bytes c.args.group) (concat (map bytes c.args.sources.now))
    (g.met.A.Address.whole c.args.group) (length c.args.sources.now)
    (length-addresses bytes (width f) g.met.A.Address.whole c.args.sources.now) c.if-sources.false proper
