-- The address, the client and the time are counted.
use Rattle.std.proofs.Common.{◌∙◌, OnErr, OnOk, subst, sym}
use Rattle.wirebase.specs.Ipv4.{octets_of}
use Rattle.packet_stats.specs.Stats.{CountsAll, CountsSome, state_of}
use Rattle.packet_stats.proofs.DhcpSaid.{address_is}
use Rattle.packet_stats.proofs.stats.Stats.count_address.Goals as goal

pub returns-then-gives_address-clause-counts : goal.returns-then-gives_address-clause-counts
returns-then-gives_address-clause-counts c =
    let said =
    address_is c.args.parts.now c.args.octets.now (octets_of c.address_of-address.result)
    c.hardware_of-hardware.result.items c.time_in.result (sym c.gives_address.ensures ∙ c.if-gives_address.true)
    (c.address_of-address.ensures ∙ c.field.ensures.value) c.hardware_of-hardware.ensures c.time_in.ensures in
    subst
    (λ l. OnOk c.count_subject.result (CountsAll (state_of c.args.self.now) l (state_of c.count_subject.new.self)))
    said c.count_subject.ensures.counts

pub returns-then-gives_address-clause-fault : goal.returns-then-gives_address-clause-fault
returns-then-gives_address-clause-fault c =
    let said =
    address_is c.args.parts.now c.args.octets.now (octets_of c.address_of-address.result)
    c.hardware_of-hardware.result.items c.time_in.result (sym c.gives_address.ensures ∙ c.if-gives_address.true)
    (c.address_of-address.ensures ∙ c.field.ensures.value) c.hardware_of-hardware.ensures c.time_in.ensures in
    subst
    (λ l. OnErr c.count_subject.result (CountsSome (state_of c.args.self.now) l (state_of c.count_subject.new.self)))
    said c.count_subject.ensures.fault
