use Rattle.std.proofs.Common.{◌≡◌, ◌*◌, ◌≤◌, length, drop}
use Rattle.icmp6_wire.specs.Words.{sheet, free, put_all, the_slice}
use Rattle.icmp6_wire.specs.Mld.{values_of, record_texts, AreGroups}
use Rattle.icmp6_wire.proofs.mld.repr.put_records.Given as goal

-- writing the rest gives the result of writing the whole
abbrev pub invariant-loop-record : goal.invariant-loop-record
invariant-loop-record l = record {
  texts : put_all (sheet l.w) (record_texts (values_of (drop l.record-index l.records)))
      ≡ put_all (sheet l.initial.w) (record_texts (values_of l.records));
  room : 20 * length (drop l.record-index l.records) ≤ length (free l.w);
  groups : AreGroups (values_of (drop l.record-index l.records));
  same_slice : the_slice l.w ≡ the_slice l.initial.w;
}
