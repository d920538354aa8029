-- The data of resource records by their type (RFC 1035 sections 3.3 and 3.4, RFC 2782, RFC 3596, RFC 3597 section 4).
use Rattle.std.specs.Prelude.{◌≡◌, ◌==◌, ◌≤◌, ◌++◌, Bool, List, ℕ, drop, false, if◌then◌else◌, length, true}
use Rattle.std.specs.List.{flat_map}
use Rattle.record_wire.specs.Words.{Field, Form, FrontForm, Ipv4Address, Ipv6Address, IsOnePart, Layout, Reaches}
use Rattle.record_wire.specs.Words.{RestForm, field, number_of, written}
use Rattle.wirebase.specs.Ipv4 as ipv4
use Rattle.wirebase.specs.Ipv6Address as ipv6
use Rattle.dns_wire.specs.DnsQuestion.{internet}
use Rattle.dns_wire.specs.declared.dns.tables.Type.{«Type» as RecordType}
use Rattle.record_wire.specs.Fields.{FieldsValue, fields_of, IsFields}
use Rattle.record_wire.specs.declared.rdata.Authority.{Authority}
use Rattle.record_wire.specs.declared.rdata.RData.{RData}

-- ---- layouts

-- fields before one name or two and after them
abbrev pub form : FrontForm → Bool → RestForm → Layout
form front has_two rest = Layout.Fields (record { front = front; has_two = has_two; «rest» = rest })

-- Which layout the data of a type has, by the type's number: 3 is MD, 4 MF, 7 MB, 8 MG, 9 MR, 12 PTR, 14 MINFO, 15 MX,
-- 16 TXT (RFC 1035 section 3.2.2), 17 RP, 18 AFSDB, 21 RT (RFC 1183), 24 SIG, 30 NXT (RFC 2535), 26 PX (RFC 2163),
-- 33 SRV (RFC 2782), 35 NAPTR (RFC 3403), 36 KX (RFC 2230), 39 DNAME (RFC 6672) and 47 NSEC (RFC 4034). Addresses are
-- those of the internet.
abbrev pub layout_of : RecordType → ℕ → Layout
layout_of RecordType.A class = if class == internet then Layout.Ipv4 else Layout.Opaque
layout_of RecordType.Aaaa class = if class == internet then Layout.Ipv6 else Layout.Opaque
layout_of RecordType.Cname class = Layout.Name
layout_of RecordType.Ns class = Layout.Name
layout_of RecordType.Soa class = Layout.Authority
layout_of (RecordType.Unknown n) class =
    if n == 12 then Layout.Name
    else if n == 39 then Layout.Name
    else if n == 7 then Layout.Name
    else if n == 3 then Layout.Name
    else if n == 4 then Layout.Name
    else if n == 8 then Layout.Name
    else if n == 9 then Layout.Name
    else if n == 15 then Layout.Mail
    else if n == 16 then Layout.Strings
    else if n == 33 then Layout.Service
    else if n == 14 then form FrontForm.Nothing true RestForm.Nothing
    else if n == 17 then form FrontForm.Nothing true RestForm.Nothing
    else if n == 18 then form FrontForm.Number false RestForm.Nothing
    else if n == 21 then form FrontForm.Number false RestForm.Nothing
    else if n == 36 then form FrontForm.Number false RestForm.Nothing
    else if n == 26 then form FrontForm.Number true RestForm.Nothing
    else if n == 35 then form FrontForm.Rule false RestForm.Nothing
    else if n == 24 then form FrontForm.Signed false RestForm.Signature
    else if n == 30 then form FrontForm.Nothing false RestForm.Bits
    else if n == 47 then form FrontForm.Nothing false RestForm.Types
    else Layout.Opaque

-- ---- data

-- the fields of MX and SRV before the name, and those of SOA after the two names
abbrev pub preference_field : Field
preference_field = field 0 2

abbrev pub priority_field : Field
priority_field = field 0 2

abbrev pub weight_field : Field
weight_field = field 2 4

abbrev pub port_field : Field
port_field = field 4 6

abbrev pub serial_field : Field
serial_field = field 0 4

abbrev pub refresh_field : Field
refresh_field = field 4 8

abbrev pub retry_field : Field
retry_field = field 8 12

abbrev pub expire_field : Field
expire_field = field 12 16

abbrev pub minimum_field : Field
minimum_field = field 16 20

-- strings of up to 255 bytes, each after its length (RFC 1035 section 3.3)
abbrev pub AreStrings : List ℕ → Type 0
AreStrings bytes = (strings : List (List ℕ)) × (bytes ≡ flat_map written strings)

-- who is responsible for a zone, and how copies of it are kept (RFC 1035 section 3.3.13)
pub record AuthorityValue : Type 0 where
  pub primary : List ℕ
  pub mailbox : List ℕ
  pub serial : ℕ
  pub refresh : ℕ
  pub retry : ℕ
  pub expire : ℕ
  pub minimum : ℕ

-- the data of a record by its content
pub data RDataValue : Type 0 where
  address4 : Ipv4Address → RDataValue
  address6 : Ipv6Address → RDataValue
  name : List ℕ → RDataValue
  mail : ℕ → List ℕ → RDataValue
  service : ℕ → ℕ → ℕ → List ℕ → RDataValue
  authority : AuthorityValue → RDataValue
  strings : List ℕ → RDataValue
  fields : FieldsValue → RDataValue
  other : List ℕ → RDataValue

abbrev pub authority_of : Authority → AuthorityValue
authority_of soa = record {
  primary = soa.primary.now;
  mailbox = soa.mailbox.now;
  serial = soa.serial;
  refresh = soa.refresh;
  retry = soa.retry;
  expire = soa.expire;
  minimum = soa.minimum;
}

abbrev pub rdata_of : RData → RDataValue
rdata_of (RData.A address) = address4 address
rdata_of (RData.Aaaa address) = address6 address
rdata_of (RData.Name bytes) = name bytes.now
rdata_of (RData.Mx preference exchange) = mail preference exchange.now
rdata_of (RData.Srv priority weight port target) = service priority weight port target.now
rdata_of (RData.Soa soa) = authority (authority_of soa)
rdata_of (RData.Txt bytes) = strings bytes.now
rdata_of (RData.Fields read) = fields (fields_of read)
rdata_of (RData.Other bytes) = other bytes.now

-- ---- the grammar of each layout

pub record IsAddress4 (bytes : List ℕ) (value : RDataValue) : Type 0 where
  pub address : Ipv4Address
  pub len : length bytes ≡ 4
  pub octets : ipv4.octets_of address ≡ bytes
  pub is : value ≡ address4 address

pub record IsAddress6 (bytes : List ℕ) (value : RDataValue) : Type 0 where
  pub address : Ipv6Address
  pub len : length bytes ≡ 16
  pub octets : ipv6.octets_of address ≡ bytes
  pub is : value ≡ address6 address

-- one part of a name and nothing more
pub record IsNameData (bytes : List ℕ) (value : RDataValue) : Type 0 where
  pub one : IsOnePart bytes
  pub is : value ≡ name bytes

-- a preference, the lower the better, and the name of a host (RFC 1035 section 3.3.9)
pub record IsMail (bytes : List ℕ) (value : RDataValue) : Type 0 where
  pub reaches : Reaches preference_field bytes
  pub one : IsOnePart (drop 2 bytes)
  pub is : value ≡ mail (number_of preference_field bytes) (drop 2 bytes)

-- a priority, a weight, a port, and the name of a host (RFC 2782)
pub record IsService (bytes : List ℕ) (value : RDataValue) : Type 0 where
  pub reaches : Reaches port_field bytes
  pub one : IsOnePart (drop 6 bytes)
  pub is : value ≡ service (number_of priority_field bytes) (number_of weight_field bytes)
      (number_of port_field bytes) (drop 6 bytes)

-- two names, and five numbers
pub record IsAuthority (bytes : List ℕ) (value : RDataValue) : Type 0 where
  pub primary : List ℕ
  pub mailbox : List ℕ
  pub after : List ℕ
  pub primary_is : IsOnePart primary
  pub mailbox_is : IsOnePart mailbox
  pub whole : bytes ≡ primary ++ (mailbox ++ after)
  pub len : length after ≡ 20
  pub is : value ≡ authority (record {
    primary = primary;
    mailbox = mailbox;
    serial = number_of serial_field after;
    refresh = number_of refresh_field after;
    retry = number_of retry_field after;
    expire = number_of expire_field after;
    minimum = number_of minimum_field after;
  })

-- strings of up to 255 bytes, each after its length, one at least (RFC 1035 sections 3.3 and 3.3.14)
pub record IsStrings (bytes : List ℕ) (value : RDataValue) : Type 0 where
  pub some : 1 ≤ length bytes
  pub are : AreStrings bytes
  pub is : value ≡ strings bytes

-- fields and one name or two
abbrev pub IsFieldsData : Form → List ℕ → RDataValue → Type 0
IsFieldsData form bytes value = (read : FieldsValue) × IsFields form bytes read × (value ≡ fields read)

-- the data of a type and a class
abbrev pub IsLaidOut : Layout → List ℕ → RDataValue → Type 0
IsLaidOut Layout.Ipv4 bytes value = IsAddress4 bytes value
IsLaidOut Layout.Ipv6 bytes value = IsAddress6 bytes value
IsLaidOut Layout.Name bytes value = IsNameData bytes value
IsLaidOut Layout.Mail bytes value = IsMail bytes value
IsLaidOut Layout.Service bytes value = IsService bytes value
IsLaidOut Layout.Authority bytes value = IsAuthority bytes value
IsLaidOut Layout.Strings bytes value = IsStrings bytes value
IsLaidOut (Layout.Fields form) bytes value = IsFieldsData form bytes value
IsLaidOut Layout.Opaque bytes value = value ≡ other bytes

abbrev pub IsRData : RecordType → ℕ → List ℕ → RDataValue → Type 0
IsRData t class bytes value = IsLaidOut (layout_of t class) bytes value
