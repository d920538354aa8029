use Rattle.std.proofs.Common.{drop}
use Rattle.control_wire.specs.Mld.{values_of}
use Rattle.examples.specs.Listener.{IsListedIn}
use Rattle.examples.proofs.listener.is_listed.Given as goal

-- the group is in the list where it is in what is left of it
abbrev pub invariant-loop-record : goal.invariant-loop-record
invariant-loop-record l = record {
  back : IsListedIn (values_of (drop l.record-index l.records)) l.group → IsListedIn (values_of l.records) l.group;
  forth : IsListedIn (values_of l.records) l.group → IsListedIn (values_of (drop l.record-index l.records)) l.group;
}
