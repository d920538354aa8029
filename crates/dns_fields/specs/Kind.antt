-- What kinds of messages differ in.
use Rattle.std.specs.Prelude.{◌==◌, Bool, List, ℕ, codes, false, if◌then◌else◌, true}
use Rattle.dns_wire.specs.DnsDisplay.{type_display}
use Rattle.dns_wire.specs.DnsTables.{type_number}
use Rattle.dns_wire.specs.declared.dns.tables.Type.{«Type» as RecordType}
use Rattle.record_wire.specs.ZoneText.{whole_name}
use Rattle.dns_fields.specs.Netbios as netbios
use Rattle.dns_fields.specs.declared.kind.Kind.{Kind}

abbrev pub is_multicast : Kind → Bool
is_multicast Kind.Mdns = true
is_multicast _ = false

abbrev pub is_netbios : Kind → Bool
is_netbios Kind.Nbns = true
is_netbios _ = false

-- a name
abbrev pub name_text : Kind → List (List ℕ) → List ℕ
name_text Kind.Nbns labels = netbios.name_text labels
name_text _ labels = whole_name labels

-- a type of records, of which some have other names in the NetBIOS name service (RFC 1002 section 4.2.1.3)
abbrev pub netbios_by : ℕ → List ℕ → List ℕ
netbios_by n other =
    if n == 10 then codes "NULL" else if n == 32 then codes "NB" else if n == 33 then codes "NBSTAT" else other

abbrev pub netbios_type : RecordType → List ℕ
netbios_type t = netbios_by (type_number t) (type_display t)

abbrev pub type_text : Kind → RecordType → List ℕ
type_text Kind.Nbns t = netbios_type t
type_text _ t = type_display t
