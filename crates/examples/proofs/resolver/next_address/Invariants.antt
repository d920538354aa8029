use Rattle.std.proofs.Common.{◌≤◌}
use Rattle.examples.specs.Resolver.{Search, search_of, Finds}
use Rattle.examples.specs.declared.resolver.AddressRecord.{AddressRecord}
use Rattle.examples.proofs.resolver.next_address.Given as goal

abbrev pub invariant-records : goal.invariant-records
invariant-records l =
    let now : Search = record { name = l.name; left = l.left; bytes = l.bytes } in
    let first : Search = search_of l.fn.answers in
    record {
      found : (address : AddressRecord) (after : Search) → Finds l.message l.fn.answers.type_ address after now
          → Finds l.message l.fn.answers.type_ address after first;
      none : (address : AddressRecord) (after : Search) → Finds l.message l.fn.answers.type_ address after first
          → Finds l.message l.fn.answers.type_ address after now;
      fewer : l.left ≤ first.left;
    }

abbrev pub decreases-records : goal.decreases-records
decreases-records l = l.left
