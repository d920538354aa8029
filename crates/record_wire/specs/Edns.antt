-- An OPT record (RFC 6891 sections 6.1.2 and 6.1.3): the size of its sender's UDP payloads is in the place of a class,
-- and in the place of a time to live
--
-- +-------------------------------+-------------------------------+
-- |  upper bits of response code  |            version            |
-- +---+---------------------------+-------------------------------+
-- |DO |                          reserved                         |
-- +---+-----------------------------------------------------------+
--
-- Its data is options, each of them
--
-- +-------------------------------+-------------------------------+
-- |        code of option         |        length of data         | data
-- +-------------------------------+-------------------------------+- - - -
use Rattle.std.specs.Prelude.{◌≡◌, ◌+◌, ◌*◌, ◌/◌, ◌%◌, ◌<◌, ◌≤◌, ◌&&◌, [], ◌∷◌, Bool, Err, List, None, Ok, Option}
use Rattle.std.specs.Prelude.{Result, Some, ℕ, drop, if◌then◌else◌, length, nat_le, take}
use Rattle.record_wire.specs.Words.{Field, OptionRefusal, Reaches, field, number_of}
use Rattle.record_wire.specs.Ahead.{ahead}
use Rattle.record_wire.specs.Record.{RecordValue}
use Rattle.record_wire.specs.declared.edns.Edns.{Edns}
use Rattle.record_wire.specs.declared.edns.EdnsOption.{EdnsOption}

-- ---- the fields of the record

-- the fields by content
pub record EdnsValue : Type 0 where
  pub payload_size : ℕ
  pub extended_rcode : ℕ
  pub version : ℕ
  pub dnssec_ok : Bool
  pub flags : ℕ
  pub options : List ℕ

abbrev pub edns_of : Edns → EdnsValue
edns_of edns = record {
  payload_size = edns.payload_size;
  extended_rcode = edns.extended_rcode;
  version = edns.version;
  dnssec_ok = edns.dnssec_ok;
  flags = edns.flags;
  options = edns.options.now;
}

-- these are the fields of the record
pub record IsEdns (r : RecordValue) (edns : EdnsValue) : Type 0 where
  pub payload_size : edns.payload_size ≡ r.class
  pub extended_rcode : edns.extended_rcode ≡ r.ttl / 0x1000000
  pub version : edns.version ≡ r.ttl / 0x10000 % 0x100
  pub flags_are : edns.flags ≡ r.ttl % 0x10000
  pub dnssec_ok : edns.dnssec_ok ≡ nat_le 0x8000 edns.flags
  pub options : edns.options ≡ r.«data»

-- the response code, of which the header has the lower four bits
abbrev pub rcode_with : ℕ → ℕ → ℕ
rcode_with upper header = 16 * upper + header % 16

-- ---- options

abbrev pub code_field : Field
code_field = field 0 2

abbrev pub option_length_field : Field
option_length_field = field 2 4

-- an option by its content
pub record OptionValue : Type 0 where
  pub code : ℕ
  pub «data» : List ℕ

abbrev pub option_of : EdnsOption → OptionValue
option_of option = record { code = option.code; «data» = option.«data».now }

abbrev pub option_len : List ℕ → ℕ
option_len bytes = number_of option_length_field bytes

-- these bytes are an option, followed by a rest
pub record IsOption (bytes : List ℕ) (option : OptionValue) (rest : List ℕ) : Type 0 where
  pub reaches : Reaches option_length_field bytes
  pub code_is : option.code ≡ number_of code_field bytes
  pub fits : option_len bytes ≤ length (drop 4 bytes)
  pub data_is : option.«data» ≡ take (option_len bytes) (drop 4 bytes)
  pub rest_is : rest ≡ drop (option_len bytes) (drop 4 bytes)

-- the bytes begin with an option
abbrev pub HasOption : List ℕ → Type 0
HasOption bytes = (option : OptionValue) × (rest : List ℕ) × IsOption bytes option rest

-- they are too short for a code and a length, or what is after these is shorter than the length
abbrev pub RefusesOption : List ℕ → OptionRefusal → Type 0
RefusesOption bytes OptionRefusal.Fields = length bytes < 4
RefusesOption bytes OptionRefusal.Data = Reaches option_length_field bytes × (length (drop 4 bytes) < option_len bytes)

-- what a call returns: an option, or why there is none
abbrev pub Answer : Type 0
Answer = Result OptionValue OptionRefusal

-- Options one after another up to the end of the bytes, or up to a place where no option begins, which ends them with
-- the reason.
abbrev pub Tile : List ℕ → List Answer → Type 0
Tile bytes [] = bytes ≡ []
Tile bytes (Ok option ∷ answers) = (rest : List ℕ) × IsOption bytes option rest × Tile rest answers
Tile bytes (Err why ∷ answers) = (1 ≤ length bytes) × (HasOption bytes → ⊥) × RefusesOption bytes why × (answers ≡ [])

-- ---- as they are computed

abbrev pub option_at : List ℕ → Option (OptionValue × List ℕ)
option_at bytes =
    if nat_le 4 (length bytes) && nat_le (option_len bytes) (length (drop 4 bytes))
    then Some (
      record { code = number_of code_field bytes; «data» = take (option_len bytes) (drop 4 bytes) },
      drop (option_len bytes) (drop 4 bytes),
    )
    else None

-- why none begins in bytes in which none begins
abbrev pub why_none : List ℕ → OptionRefusal
why_none bytes = if nat_le 4 (length bytes) then OptionRefusal.Data else OptionRefusal.Fields

abbrev pub answer_by : List ℕ → Option (OptionValue × List ℕ) → Option (Answer × List ℕ)
answer_by bytes None = Some (Err (why_none bytes), [])
answer_by bytes (Some (option, rest)) = Some (Ok option, rest)

abbrev pub answer_at : List ℕ → Option (Answer × List ℕ)
answer_at [] = None
answer_at (x ∷ xs) = answer_by (x ∷ xs) (option_at (x ∷ xs))

abbrev pub answers_in : List ℕ → List Answer
answers_in bytes = ahead answer_at bytes
