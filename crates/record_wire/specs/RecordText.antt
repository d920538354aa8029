-- Records whose names are read, and their lines in a zone file (RFC 1035 section 5.1, RFC 3597 section 5).
use Rattle.std.specs.Prelude.{◌≡◌, ◌⊎◌, [], ◌∷◌, Bool, List, None, Option, Some, ℕ, codes, decimal, true}
use Rattle.record_wire.specs.Words.{Ipv4Address, Ipv6Address, NameRefusal, TextRefusal, pieces}
use Rattle.record_wire.specs.Words.{type_display}
use Rattle.record_wire.specs.declared.text.question.QuestionText.{QuestionText}
use Rattle.wirebase.specs.Ipv4 as ipv4
use Rattle.wirebase.specs.Ipv6Address as ipv6
use Rattle.dns_wire.specs.declared.dns.tables.Type.{«Type» as RecordType}
use Rattle.record_wire.specs.Edns.{EdnsValue}
use Rattle.record_wire.specs.FieldsText.{FieldsTextValue, fields_text_of, IsFieldsText, RefusesNamesIn, fields_text}
use Rattle.record_wire.specs.Mnemonics.{class_text}
use Rattle.record_wire.specs.Multicast.{is_opt}
use Rattle.record_wire.specs.Name.{labels_of}
use Rattle.record_wire.specs.NameRefusal.{RefusesName, HasName, name_refusal_display}
use Rattle.record_wire.specs.Names.{Names}
use Rattle.record_wire.specs.OptText.{edns_by, opt_text}
use Rattle.record_wire.specs.RData as rdata
use Rattle.record_wire.specs.Record.{QuestionValue, RecordValue}
use Rattle.record_wire.specs.Strings.{strings_in}
use Rattle.record_wire.specs.RDataRefusal.{RefusesLayout, data_refusal_display}
use Rattle.record_wire.specs.Update.{data_layout, IsDataOf}
use Rattle.record_wire.specs.ZoneText.{whole_name, strings_text, generic_text}
use Rattle.record_wire.specs.declared.text.AuthorityText.{AuthorityText}
use Rattle.record_wire.specs.declared.text.DataText.{DataText}
use Rattle.record_wire.specs.declared.text.RecordText.{RecordText}

-- ---- records and their data by content: of each name its labels

pub record AuthorityTextValue : Type 0 where
  pub primary : List (List ℕ)
  pub mailbox : List (List ℕ)
  pub serial : ℕ
  pub refresh : ℕ
  pub retry : ℕ
  pub expire : ℕ
  pub minimum : ℕ

pub data DataTextValue : Type 0 where
  address4 : Ipv4Address → DataTextValue
  address6 : Ipv6Address → DataTextValue
  name : List (List ℕ) → DataTextValue
  mail : ℕ → List (List ℕ) → DataTextValue
  service : ℕ → ℕ → ℕ → List (List ℕ) → DataTextValue
  authority : AuthorityTextValue → DataTextValue
  strings : List ℕ → DataTextValue
  fields : FieldsTextValue → DataTextValue
  other : List ℕ → DataTextValue

-- the time to live is in seconds
pub record RecordTextValue : Type 0 where
  pub name : List (List ℕ)
  pub ttl : ℕ
  pub class : ℕ
  pub kind : RecordType
  pub «data» : DataTextValue

abbrev pub authority_text_of : AuthorityText → AuthorityTextValue
authority_text_of soa = record {
  primary = labels_of soa.primary;
  mailbox = labels_of soa.mailbox;
  serial = soa.serial;
  refresh = soa.refresh;
  retry = soa.retry;
  expire = soa.expire;
  minimum = soa.minimum;
}

abbrev pub data_text_of : DataText → DataTextValue
data_text_of (DataText.A address) = address4 address
data_text_of (DataText.Aaaa address) = address6 address
data_text_of (DataText.Name read) = name (labels_of read)
data_text_of (DataText.Mx preference exchange) = mail preference (labels_of exchange)
data_text_of (DataText.Srv priority weight port target) = service priority weight port (labels_of target)
data_text_of (DataText.Soa soa) = authority (authority_text_of soa)
data_text_of (DataText.Txt bytes) = strings bytes.now
data_text_of (DataText.Fields read) = fields (fields_text_of read)
data_text_of (DataText.Other bytes) = other bytes.now

abbrev pub record_text_of : RecordText → RecordTextValue
record_text_of r = record {
  name = labels_of r.name;
  ttl = r.ttl;
  class = r.class;
  kind = r.type_;
  «data» = data_text_of r.«data»;
}

-- ---- what is read, in a message

pub record IsAuthorityText (message : List ℕ) (soa : rdata.AuthorityValue) (value : AuthorityTextValue) : Type 0 where
  pub primary_is : Names message soa.primary value.primary
  pub mailbox_is : Names message soa.mailbox value.mailbox
  pub serial : value.serial ≡ soa.serial
  pub refresh : value.refresh ≡ soa.refresh
  pub retry : value.retry ≡ soa.retry
  pub expire : value.expire ≡ soa.expire
  pub minimum : value.minimum ≡ soa.minimum

-- these data, with each name read
abbrev pub IsDataText : List ℕ → rdata.RDataValue → DataTextValue → Type 0
IsDataText message (rdata.address4 address) value = value ≡ address4 address
IsDataText message (rdata.address6 address) value = value ≡ address6 address
IsDataText message (rdata.name bytes) value =
    (labels : List (List ℕ)) × Names message bytes labels × (value ≡ name labels)
IsDataText message (rdata.mail preference bytes) value =
    (labels : List (List ℕ)) × Names message bytes labels × (value ≡ mail preference labels)
IsDataText message (rdata.service priority weight port bytes) value =
    (labels : List (List ℕ)) × Names message bytes labels × (value ≡ service priority weight port labels)
IsDataText message (rdata.authority soa) value =
    (read : AuthorityTextValue) × IsAuthorityText message soa read × (value ≡ authority read)
IsDataText message (rdata.strings bytes) value = value ≡ strings bytes
IsDataText message (rdata.fields those) value =
    (read : FieldsTextValue) × IsFieldsText message those read × (value ≡ fields read)
IsDataText message (rdata.other bytes) value = value ≡ other bytes

-- this record, taken as one of a class, with its name and those in its data read
pub record IsRecordText (message : List ℕ) (class : ℕ) (r : RecordValue) (value : RecordTextValue) : Type 0 where
  pub name_is : Names message r.name value.name
  pub read : rdata.RDataValue
  pub data_is : IsDataOf r.kind class r.«data» read
  pub data_text : IsDataText message read value.«data»
  pub ttl_is : value.ttl ≡ r.ttl
  pub class_is : value.class ≡ class
  pub kind_is : value.kind ≡ r.kind

-- this question, taken as one of a class, with its name read
abbrev pub IsQuestionText : List ℕ → ℕ → QuestionValue → QuestionText → Type 0
IsQuestionText message class q text =
    Names message q.name (labels_of text.name) × (text.class ≡ class) × (text.type_ ≡ q.kind)

-- ---- what is refused: the first name that can't be read

abbrev pub RefusesNamesOf : List ℕ → rdata.AuthorityValue → NameRefusal → Type 0
RefusesNamesOf message soa why =
    RefusesName soa.primary message why ⊎ (HasName soa.primary message × RefusesName soa.mailbox message why)

abbrev pub RefusesNameIn : List ℕ → rdata.RDataValue → NameRefusal → Type 0
RefusesNameIn message (rdata.address4 address) why = ⊥
RefusesNameIn message (rdata.address6 address) why = ⊥
RefusesNameIn message (rdata.name bytes) why = RefusesName bytes message why
RefusesNameIn message (rdata.mail preference bytes) why = RefusesName bytes message why
RefusesNameIn message (rdata.service priority weight port bytes) why = RefusesName bytes message why
RefusesNameIn message (rdata.authority soa) why = RefusesNamesOf message soa why
RefusesNameIn message (rdata.strings bytes) why = ⊥
RefusesNameIn message (rdata.fields those) why = RefusesNamesIn message those why
RefusesNameIn message (rdata.other bytes) why = ⊥

-- the name is malformed; the data are not those of their type and class; a name in these is malformed
abbrev pub RefusesText : List ℕ → ℕ → RecordValue → TextRefusal → Type 0
RefusesText message class r (TextRefusal.Owner why) = RefusesName r.name message why
RefusesText message class r (TextRefusal.Data why) =
    HasName r.name message × ((value : rdata.RDataValue) → IsDataOf r.kind class r.«data» value → ⊥)
    × RefusesLayout (data_layout r.kind class r.«data») r.«data» why
RefusesText message class r (TextRefusal.DataName why) =
    HasName r.name message
    × ((value : rdata.RDataValue) × IsDataOf r.kind class r.«data» value × RefusesNameIn message value why)

-- ---- texts

abbrev pub authority_text : AuthorityTextValue → List ℕ
authority_text soa =
    pieces (whole_name soa.primary ∷ codes " " ∷ whole_name soa.mailbox
    ∷ codes " " ∷ decimal soa.serial ∷ codes " " ∷ decimal soa.refresh
    ∷ codes " " ∷ decimal soa.retry ∷ codes " " ∷ decimal soa.expire
    ∷ codes " " ∷ decimal soa.minimum ∷ [])

abbrev pub data_text : DataTextValue → List ℕ
data_text (address4 address) = ipv4.address_text address
data_text (address6 address) = ipv6.address_text address
data_text (name labels) = whole_name labels
data_text (mail preference labels) = pieces (decimal preference ∷ codes " " ∷ whole_name labels ∷ [])
data_text (service priority weight port labels) =
    pieces (decimal priority ∷ codes " " ∷ decimal weight ∷ codes " " ∷ decimal port
    ∷ codes " " ∷ whole_name labels ∷ [])
data_text (authority soa) = authority_text soa
data_text (strings bytes) = strings_text (strings_in bytes)
data_text (fields read) = fields_text read
data_text (other bytes) = generic_text bytes

abbrev pub zone_line : RecordTextValue → List ℕ
zone_line r =
    pieces (whole_name r.name ∷ codes " " ∷ decimal r.ttl
    ∷ codes " " ∷ class_text r.class
    ∷ codes " " ∷ type_display r.kind
    ∷ codes " " ∷ data_text r.«data» ∷ [])

-- what an OPT record says
abbrev pub edns_with : Bool → RecordTextValue → DataTextValue → Option EdnsValue
edns_with true r (other bytes) = Some (edns_by r.class r.ttl bytes)
edns_with _ r _ = None

abbrev pub edns_in : RecordTextValue → Option EdnsValue
edns_in r = edns_with (is_opt r.kind) r r.«data»

-- an OPT record is not a line of a zone file
abbrev pub opt_or_line : Option EdnsValue → RecordTextValue → List ℕ
opt_or_line None r = zone_line r
opt_or_line (Some edns) r = opt_text edns

abbrev pub record_text : RecordTextValue → List ℕ
record_text r = opt_or_line (edns_in r) r

-- a question: a record without its time to live and its data
abbrev pub question_text : List (List ℕ) → ℕ → RecordType → List ℕ
question_text labels class kind =
    pieces (whole_name labels ∷ codes " " ∷ class_text class ∷ codes " " ∷ type_display kind ∷ [])

abbrev pub text_refusal_display : TextRefusal → List ℕ
text_refusal_display (TextRefusal.Owner why) = pieces (codes "the owner: " ∷ name_refusal_display why ∷ [])
text_refusal_display (TextRefusal.Data why) = pieces (codes "the data: " ∷ data_refusal_display why ∷ [])
text_refusal_display (TextRefusal.DataName why) = pieces (codes "a name in the data: " ∷ name_refusal_display why ∷ [])
