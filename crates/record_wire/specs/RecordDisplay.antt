-- What questions, records and their data print. Names and data are printed by their lengths, since a name may go on
-- elsewhere in its message.
use Rattle.std.specs.Prelude.{[], ◌∷◌, List, ℕ, codes, decimal, length}
use Rattle.record_wire.specs.Words.{OptionRefusal, Section, encode_lower, name_in, name_or, pieces, type_display}
use Rattle.wirebase.specs.Display.{truth_text}
use Rattle.wirebase.specs.Ipv4 as ipv4
use Rattle.wirebase.specs.Ipv6Address as ipv6
use Rattle.record_wire.specs.FieldsText.{fields_display}
use Rattle.record_wire.specs.Mnemonics.{class_text}
use Rattle.record_wire.specs.Record.{QuestionValue, RecordValue}
use Rattle.record_wire.specs.RData.{AuthorityValue, RDataValue, address4, address6, name, mail, service, authority}
use Rattle.record_wire.specs.RData.{strings, fields, other}
use Rattle.record_wire.specs.Edns.{EdnsValue, OptionValue}
use Rattle.record_wire.specs.Entries.{EntryValue, question, record_in}

abbrev pub question_display : QuestionValue → List ℕ
question_display q =
    pieces (codes "question name_len=" ∷ decimal (length q.name)
    ∷ codes " type=" ∷ type_display q.kind
    ∷ codes " class=" ∷ class_text q.class ∷ [])

-- the time to live is in seconds
abbrev pub record_display : RecordValue → List ℕ
record_display r =
    pieces (codes "record name_len=" ∷ decimal (length r.name)
    ∷ codes " type=" ∷ type_display r.kind
    ∷ codes " class=" ∷ class_text r.class
    ∷ codes " ttl=" ∷ decimal r.ttl
    ∷ codes " len=" ∷ decimal (length r.«data») ∷ [])

-- ---- data

abbrev pub authority_display : AuthorityValue → List ℕ
authority_display soa =
    pieces (codes "SOA primary_len=" ∷ decimal (length soa.primary)
    ∷ codes " mailbox_len=" ∷ decimal (length soa.mailbox)
    ∷ codes " serial=" ∷ decimal soa.serial
    ∷ codes " refresh=" ∷ decimal soa.refresh
    ∷ codes " retry=" ∷ decimal soa.retry
    ∷ codes " expire=" ∷ decimal soa.expire
    ∷ codes " minimum=" ∷ decimal soa.minimum ∷ [])

abbrev pub rdata_display : RDataValue → List ℕ
rdata_display (address4 address) = ipv4.address_text address
rdata_display (address6 address) = ipv6.address_text address
rdata_display (name bytes) = pieces (codes "name len=" ∷ decimal (length bytes) ∷ [])
rdata_display (mail preference exchange) =
    pieces (codes "MX preference=" ∷ decimal preference
    ∷ codes " exchange_len=" ∷ decimal (length exchange) ∷ [])
rdata_display (service priority weight port target) =
    pieces (codes "SRV priority=" ∷ decimal priority
    ∷ codes " weight=" ∷ decimal weight
    ∷ codes " port=" ∷ decimal port
    ∷ codes " target_len=" ∷ decimal (length target) ∷ [])
rdata_display (authority soa) = authority_display soa
rdata_display (strings bytes) = pieces (codes "TXT len=" ∷ decimal (length bytes) ∷ [])
rdata_display (fields read) = fields_display read
rdata_display (other bytes) = pieces (codes "data len=" ∷ decimal (length bytes) ∷ [])

-- ---- what an OPT record says, and its options

abbrev pub edns_display : EdnsValue → List ℕ
edns_display edns =
    pieces (codes "EDNS payload_size=" ∷ decimal edns.payload_size
    ∷ codes " extended_rcode=" ∷ decimal edns.extended_rcode
    ∷ codes " version=" ∷ decimal edns.version
    ∷ codes " dnssec_ok=" ∷ truth_text edns.dnssec_ok
    ∷ codes " flags=" ∷ decimal edns.flags
    ∷ codes " len=" ∷ decimal (length edns.options) ∷ [])

-- options of EDNS, by IANA's registry of EDNS option codes
abbrev pub option_names : List (List ℕ × ℕ)
option_names =
    (codes "nsid", 3) ∷ (codes "dau", 5) ∷ (codes "dhu", 6) ∷ (codes "n3u", 7) ∷ (codes "client-subnet", 8)
    ∷ (codes "expire", 9) ∷ (codes "cookie", 10) ∷ (codes "tcp-keepalive", 11) ∷ (codes "padding", 12)
    ∷ (codes "chain", 13) ∷ (codes "key-tag", 14) ∷ (codes "extended-error", 15) ∷ (codes "report-channel", 18)
    ∷ (codes "zone-version", 19) ∷ []

abbrev pub option_display : OptionValue → List ℕ
option_display option =
    pieces (name_or (codes "option-") (name_in option_names option.code) option.code
    ∷ codes "=" ∷ encode_lower option.«data» ∷ [])

abbrev pub option_refusal_display : OptionRefusal → List ℕ
option_refusal_display OptionRefusal.Fields = codes "the code and the length are cut"
option_refusal_display OptionRefusal.Data = codes "the data of the option is cut"

-- ---- entries

abbrev pub section_display : Section → List ℕ
section_display Section.Question = codes "question"
section_display Section.Answer = codes "answer"
section_display Section.Authority = codes "authority"
section_display Section.Additional = codes "additional"

abbrev pub entry_display : EntryValue → List ℕ
entry_display (question q) = question_display q
entry_display (record_in section r) = pieces (section_display section ∷ codes " " ∷ record_display r ∷ [])
