-- The printed texts of messages and their parts, by the names of IANA's registry of DNS parameters.
use Rattle.std.specs.Prelude.{◌==◌, [], ◌∷◌, ◌++◌, List, None, Option, Some, ℕ, codes, decimal, if◌then◌else◌, length}
use Rattle.std.specs.Prelude.{nat_lt}
use Rattle.std.specs.Int.Bits.{bit_and}
use Rattle.dns_wire.specs.Words.{Opcode, Rcode, number_of, pieces}
use Rattle.wirebase.specs.Ipv4 as ipv4
use Rattle.wirebase.specs.Ipv6Address as ipv6
use Rattle.dns_wire.specs.DnsTables.{opcode_number, opcode_of, rcode_number, rcode_of, type_number}
use Rattle.dns_wire.specs.DnsPacket.{id_field, flags_field, question_count_field, answer_count_field}
use Rattle.dns_wire.specs.DnsPacket.{authority_count_field, additional_count_field, flags_in, opcode_in, rcode_in}
use Rattle.dns_wire.specs.DnsQuestion.{QuestionValue}
use Rattle.dns_wire.specs.DnsRecord.{DataValue, address4, address6, canonical_name, other, RecordValue}
use Rattle.dns_wire.specs.DnsRepr.{QueryValue}
use Rattle.dns_wire.specs.declared.dns.tables.Type.{«Type» as RecordType}

-- ---- numbers

-- the name of a number, or a word and the number where the table has no name for it
abbrev pub named : List ℕ → List (List ℕ × ℕ) → ℕ → List ℕ
named word [] n = word ++ decimal n
named word (row ∷ rest) n = if n == row.1 then row.0 else named word rest n

-- the name of a number, where the table has one
abbrev pub name_in : List (List ℕ × ℕ) → ℕ → Option (List ℕ)
name_in [] n = None
name_in (row ∷ rest) n = if n == row.1 then Some row.0 else name_in rest n

-- a name, or a word and the number where there is none
abbrev pub name_or : List ℕ → Option (List ℕ) → ℕ → List ℕ
name_or word None n = word ++ decimal n
name_or word (Some name) n = name

-- types of record; a number with no name is written as RFC 3597 section 5 has it
abbrev pub type_names : List (List ℕ × ℕ)
type_names =
    (codes "A", 1) ∷ (codes "NS", 2) ∷ (codes "MD", 3) ∷ (codes "MF", 4)
    ∷ (codes "CNAME", 5) ∷ (codes "SOA", 6) ∷ (codes "MB", 7) ∷ (codes "MG", 8)
    ∷ (codes "MR", 9) ∷ (codes "PTR", 12) ∷ (codes "HINFO", 13) ∷ (codes "MINFO", 14)
    ∷ (codes "MX", 15) ∷ (codes "TXT", 16) ∷ (codes "RP", 17) ∷ (codes "AFSDB", 18)
    ∷ (codes "RT", 21) ∷ (codes "SIG", 24) ∷ (codes "PX", 26) ∷ (codes "AAAA", 28)
    ∷ (codes "NXT", 30) ∷ (codes "SRV", 33) ∷ (codes "NAPTR", 35) ∷ (codes "KX", 36)
    ∷ (codes "DNAME", 39) ∷ (codes "OPT", 41) ∷ (codes "DS", 43) ∷ (codes "SSHFP", 44)
    ∷ (codes "RRSIG", 46) ∷ (codes "NSEC", 47) ∷ (codes "DNSKEY", 48) ∷ (codes "NSEC3", 50)
    ∷ (codes "TLSA", 52) ∷ (codes "SVCB", 64) ∷ (codes "HTTPS", 65) ∷ (codes "SPF", 99)
    ∷ (codes "IXFR", 251) ∷ (codes "AXFR", 252) ∷ (codes "ANY", 255) ∷ (codes "CAA", 257) ∷ []

abbrev pub type_display : RecordType → List ℕ
type_display t = name_or (codes "TYPE") (name_in type_names (type_number t)) (type_number t)

-- Kinds of query by their numbers (RFC 1035 section 4.1.1, RFC 1996, RFC 2136, RFC 8490), so that 1 is IQUERY and 2 is
-- STATUS, whatever the case is called.
abbrev pub opcode_names : List (List ℕ × ℕ)
opcode_names =
    (codes "QUERY", 0) ∷ (codes "IQUERY", 1) ∷ (codes "STATUS", 2) ∷ (codes "NOTIFY", 4) ∷ (codes "UPDATE", 5)
    ∷ (codes "DSO", 6) ∷ []

abbrev pub opcode_display : Opcode → List ℕ
opcode_display opcode = named (codes "OPCODE") opcode_names (opcode_number opcode)

-- outcomes (RFC 1035 section 4.1.1, RFC 2136 section 2.2)
abbrev pub rcode_names : List (List ℕ × ℕ)
rcode_names =
    (codes "NOERROR", 0) ∷ (codes "FORMERR", 1) ∷ (codes "SERVFAIL", 2) ∷ (codes "NXDOMAIN", 3)
    ∷ (codes "NOTIMP", 4) ∷ (codes "REFUSED", 5) ∷ (codes "YXDOMAIN", 6) ∷ (codes "YXRRSET", 7)
    ∷ (codes "NXRRSET", 8) ∷ (codes "NOTAUTH", 9) ∷ (codes "NOTZONE", 10) ∷ []

abbrev pub rcode_display : Rcode → List ℕ
rcode_display rcode = named (codes "RCODE") rcode_names (rcode_number rcode)

-- ---- flags

-- each flag's short name and bit (RFC 1035 section 4.1.1, RFC 4035 section 3.2)
abbrev pub flag_names : List (List ℕ × ℕ)
flag_names =
    (codes "qr", 0x8000) ∷ (codes "aa", 0x0400) ∷ (codes "tc", 0x0200) ∷ (codes "rd", 0x0100)
    ∷ (codes "ra", 0x0080) ∷ (codes "ad", 0x0020) ∷ (codes "cd", 0x0010) ∷ []

-- The names of the flags that are set, with commas between them: the given text comes before the first, and is all that
-- is printed where none is set.
abbrev pub names_set : List ℕ → List ℕ → List (List ℕ × ℕ) → ℕ → List ℕ
names_set front none [] bits = none
names_set front none (row ∷ rest) bits =
    if bit_and bits row.1 == 0 then names_set front none rest bits
    else front ++ row.0 ++ names_set (codes ",") [] rest bits

-- a set with none of the flags is `-`
abbrev pub flags_display : ℕ → List ℕ
flags_display bits = names_set [] (codes "-") flag_names bits

-- ---- messages; a name is printed as the number of bytes that it takes in the message, and data as its length

abbrev pub question_fields_display : QuestionValue → List ℕ
question_fields_display question =
    pieces (codes "name_len=" ∷ decimal (length question.name) ∷ codes " type=" ∷ type_display question.kind ∷ [])

abbrev pub question_display : QuestionValue → List ℕ
question_display question = codes "DNS question " ++ question_fields_display question

abbrev pub data_display : DataValue → List ℕ
data_display (address4 address) = codes "A addr=" ++ ipv4.address_text address
data_display (address6 address) = codes "AAAA addr=" ++ ipv6.address_text address
data_display (canonical_name name) = codes "CNAME name_len=" ++ decimal (length name)
data_display (other t bytes) = pieces (type_display t ∷ codes " len=" ∷ decimal (length bytes) ∷ [])

abbrev pub record_display : RecordValue → List ℕ
record_display r =
    pieces (codes "DNS record name_len=" ∷ decimal (length r.name)
    ∷ codes " ttl=" ∷ decimal r.ttl
    ∷ codes " " ∷ data_display r.holds ∷ [])

abbrev pub query_display : QueryValue → List ℕ
query_display query =
    pieces (codes "DNS query id=" ∷ decimal query.transaction_id
    ∷ codes " opcode=" ∷ opcode_display query.kind
    ∷ codes " flags=" ∷ flags_display query.flags
    ∷ codes " " ∷ question_fields_display query.asks ∷ [])

-- ---- headers

-- the numbers of questions and records in a header
pub record CountsValue : Type 0 where
  pub questions : ℕ
  pub answers : ℕ
  pub authorities : ℕ
  pub additionals : ℕ

-- a header by its content; the flags are their bits
pub record HeaderValue : Type 0 where
  pub id : ℕ
  pub kind : Opcode
  pub flags : ℕ
  pub outcome : Rcode
  pub counts : CountsValue

-- the header that the octets of a message begin with
abbrev pub counts_in : List ℕ → CountsValue
counts_in bytes = record {
  questions = number_of question_count_field bytes;
  answers = number_of answer_count_field bytes;
  authorities = number_of authority_count_field bytes;
  additionals = number_of additional_count_field bytes;
}

abbrev pub header_in : List ℕ → HeaderValue
header_in bytes = record {
  id = number_of id_field bytes;
  kind = opcode_of (opcode_in (number_of flags_field bytes));
  flags = flags_in (number_of flags_field bytes);
  outcome = rcode_of (rcode_in (number_of flags_field bytes));
  counts = counts_in bytes;
}

abbrev pub counts_display : CountsValue → List ℕ
counts_display counts =
    pieces (codes "questions=" ∷ decimal counts.questions
    ∷ codes " answers=" ∷ decimal counts.answers
    ∷ codes " authorities=" ∷ decimal counts.authorities
    ∷ codes " additionals=" ∷ decimal counts.additionals ∷ [])

abbrev pub header_display : HeaderValue → List ℕ
header_display header =
    pieces (codes "DNS id=" ∷ decimal header.id
    ∷ codes " opcode=" ∷ opcode_display header.kind
    ∷ codes " flags=" ∷ flags_display header.flags
    ∷ codes " rcode=" ∷ rcode_display header.outcome
    ∷ codes " " ∷ counts_display header.counts ∷ [])

-- the printed text of a view: the header, or that there are too few octets for one
abbrev pub view_display : List ℕ → List ℕ
view_display bytes = if nat_lt (length bytes) 12 then codes "DNS (wire::Error)" else header_display (header_in bytes)
