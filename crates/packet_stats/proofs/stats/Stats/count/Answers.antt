-- A datagram of UDP has addresses of its own.
use Rattle.std.proofs.Common.{OnErr, OnOk, ap, subst}
use Rattle.wirebase.specs.Ipv6Address.{octets_of}
use Rattle.packet_stats.specs.Groups.{igmp_said}
use Rattle.packet_stats.specs.Message.{icmp6_said}
use Rattle.packet_stats.specs.Stats.{CountsAll, CountsSome, state_of}
use Rattle.packet_stats.specs.Subject.{octets_in, source_in}
use Rattle.packet_stats.specs.Types.{IpAddress}
use Rattle.packet_stats.proofs.Bounds.{bounds_of}
use Rattle.packet_stats.proofs.Counting.{that_counted}
use Rattle.packet_stats.proofs.stats.Stats.count.Goals as goal

pub returns-in-Udp-clause-counts : goal.returns-in-Udp-clause-counts
returns-in-Udp-clause-counts c = rw c.in-Udp.is c.count_udp.ensures.counts

pub returns-in-Udp-clause-bounds : goal.returns-in-Udp-clause-bounds
returns-in-Udp-clause-bounds c = bounds_of c.count_udp.new.self

pub returns-in-Tcp-clause-bounds : goal.returns-in-Tcp-clause-bounds
returns-in-Tcp-clause-bounds c = bounds_of c.count_dns.new.self

pub returns-in-Icmp4-clause-bounds : goal.returns-in-Icmp4-clause-bounds
returns-in-Icmp4-clause-bounds c = bounds_of c.args.self.now

pub returns-in-Igmp-clause-counts : goal.returns-in-Igmp-clause-counts
returns-in-Igmp-clause-counts c =
    let host = octets_in (source_in c.args.addresses.now) in
    let same = ap (λ (a : IpAddress). igmp_said (octets_in a) c.in-Igmp.octets.now) c.source.ensures in
    rw c.in-Igmp.is
    (that_counted c.count_igmp.result (state_of c.args.self.now) (state_of c.count_igmp.new.self)
    (igmp_said host c.in-Igmp.octets.now)
    (subst
    (λ l. OnOk c.count_igmp.result (CountsAll (state_of c.args.self.now) l (state_of c.count_igmp.new.self)))
    same c.count_igmp.ensures.counts))

pub returns-in-Igmp-clause-fault : goal.returns-in-Igmp-clause-fault
returns-in-Igmp-clause-fault c =
    let same = ap (λ (a : IpAddress). igmp_said (octets_in a) c.in-Igmp.octets.now) c.source.ensures in
    rw c.in-Igmp.is
    (subst
    (λ l. OnErr c.count_igmp.result (CountsSome (state_of c.args.self.now) l (state_of c.count_igmp.new.self)))
    same c.count_igmp.ensures.fault)

pub returns-in-Igmp-clause-bounds : goal.returns-in-Igmp-clause-bounds
returns-in-Igmp-clause-bounds c = bounds_of c.count_igmp.new.self

pub returns-in-Icmp6-clause-counts : goal.returns-in-Icmp6-clause-counts
returns-in-Icmp6-clause-counts c =
    rw c.in-Icmp6.is
    (that_counted c.count_icmp6.result (state_of c.args.self.now) (state_of c.count_icmp6.new.self)
    (icmp6_said (octets_of c.in-Icmp6.source) c.in-Icmp6.octets.now) c.count_icmp6.ensures.counts)

pub returns-in-Icmp6-clause-fault : goal.returns-in-Icmp6-clause-fault
returns-in-Icmp6-clause-fault c = rw c.in-Icmp6.is c.count_icmp6.ensures.fault

pub returns-in-Icmp6-clause-bounds : goal.returns-in-Icmp6-clause-bounds
returns-in-Icmp6-clause-bounds c = bounds_of c.count_icmp6.new.self
