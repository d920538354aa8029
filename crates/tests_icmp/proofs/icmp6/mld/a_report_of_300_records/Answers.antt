use Rattle.std.proofs.Common.{rules, ℕ, zero, suc, replicate, arith}
use Rattle.wirebase.specs.Ipv6Address.{IsMulticast}
use Rattle.icmp6_wire.specs.Mld.{values_of, AreGroups}
use Rattle.icmp6_wire.specs.declared.mld.record.AddressRecordRepr.{AddressRecordRepr}
use Rattle.tests_icmp.proofs.icmp6.mld.a_report_of_300_records.Goals as goal

-- one record of a group, repeated
groups-repeated : (n : ℕ) (r : AddressRecordRepr) → IsMulticast r.mcast_addr → AreGroups (values_of (replicate n r))
groups-repeated zero r group = tt
groups-repeated (suc n) r group = (group, groups-repeated n r group)

pub emit-requires : goal.emit-requires
emit-requires g c =
    let group : IsMulticast c.new-record.result.mcast_addr = search rules in
    (search rules, omega arith, groups-repeated 300 c.new-record.result group)
