-- Each turn prints an entry, also for one that can't be read.
use Rattle.std.proofs.Common.{inl, inr}
use Rattle.dns_wire.specs.DnsPacket.{view_octets}
use Rattle.record_wire.specs.Entries.{all_of, entry_of}
use Rattle.dns_fields.proofs.Entries.{all_printed, last_printed, one_printed}
use Rattle.dns_fields.proofs.message.show_entries.Goals as goal

pub returns-in-None : goal.returns-in-None
returns-in-None g c =
    let octets = view_octets c.args.packet.now in
    all_printed c.args.form c.args.kind octets _ (all_of octets) _ _ _ _ c.loop-entry.invariant.so_far
    (elim c.in-None.ensures.steps.0 [
      | inl refused ↦ absurd (cc (refused, c.loop-entry.invariant.unbroken))
      | inr all ↦ all
    ])

pub returns-in-Some-Err : goal.returns-in-Some-Err
returns-in-Some-Err g c =
    let octets = view_octets c.args.packet.now in
    rw c.first_of.ensures
    (last_printed c.args.form c.args.kind octets c.loop-entry.entries c.next.new.self (all_of octets) _ _ _ _ _ _
    c.loop-entry.invariant.so_far (rw c.in-Some-Err.field-0-is at c.in-Some-Err.ensures.steps)
    c.in_ok-refusal-in-Some-Err.ensures)

pub loop-entry-preserved : goal.loop-entry-preserved
loop-entry-preserved g c =
    let octets = view_octets c.args.packet.now in
    let next = rw c.in-Some-Ok.field-0-is at c.in-Some-Ok.ensures.steps in
    record {
      unbroken = next.refused;
      so_far =
          rw c.first_of-unread.ensures
          (one_printed c.args.form c.args.kind octets c.loop-entry.entries c.next.new.self (all_of octets)
          (entry_of c.in-Some-Ok.entry) _ _ _ _ _ _ c.loop-entry.invariant.so_far next c.in_ok-refusal.ensures);
    }
