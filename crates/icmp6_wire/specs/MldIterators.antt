-- The records of a report in turn, each with its sources and its auxiliary data (RFC 3810 section 5.2), and the sources
-- of a record in turn.
use Rattle.std.specs.Prelude.{◌≡◌, ℕ, suc, ◌*◌, ◌/◌, min, List, [], ◌∷◌, ◌++◌, length, map, take, drop, Option, None}
use Rattle.std.specs.Prelude.{Some, Result, Ok, Err}
use Rattle.std.specs.List.{AllByRecursion, concat}
use Rattle.icmp6_wire.specs.Words.{octets_of, Ipv6Address, AddressRecordRepr, RecordRefusal}
use Rattle.icmp6_wire.specs.Mld.{MldValue, records}
use Rattle.icmp6_wire.specs.MldRecord.{RecordValue, address_record, record_len_in, value_of, IsRecord}
use Rattle.icmp6_wire.specs.MldRecord.{text as record_text}
use Rattle.icmp6_wire.specs.MldRefusal.{RefusesRecord}

-- ---- records

-- an answer: all the bytes of a record, or why no record follows
abbrev pub Answer : Type 0
Answer = Result (List ℕ) RecordRefusal

-- A given number of records one after another, whatever follows them; or the records before a place where the bytes end
-- before a record does, and then one refusal with the first check that fails.
pub data AreRecords : ℕ → List ℕ → List Answer → Type 0 where
  ends : {bytes : List ℕ} → AreRecords 0 bytes []
  goes_on : {n : ℕ} {bytes : List ℕ} {answers : List Answer} (front rest : List ℕ)
      → length front ≡ record_len_in front → AreRecords n rest answers → bytes ≡ front ++ rest
      → AreRecords (suc n) bytes (Ok front ∷ answers)
  breaks : {n : ℕ} {bytes : List ℕ} (refusal : RecordRefusal) → RefusesRecord bytes refusal
      → AreRecords (suc n) bytes (Err refusal ∷ [])

-- A call of `next` gives what is read in the bytes of the first answer, and takes that off; where none is left it gives
-- None, and none is left afterwards.
abbrev pub GivesRecord : List Answer → Option (Result AddressRecordRepr RecordRefusal) → List Answer → Type 0
GivesRecord old None new = (old ≡ []) × (new ≡ [])
GivesRecord old (Some (Ok one)) new =
    (bytes : List ℕ) × IsRecord bytes (value_of one) × (old ≡ Ok bytes ∷ new)
GivesRecord old (Some (Err refusal)) new = old ≡ Err refusal ∷ new

-- a record that counts neither sources nor auxiliary data, so that its fields are all of it
abbrev pub IsBare : RecordValue → Type 0
IsBare (address_record kind words sources group rest) = (words ≡ 0) × (sources ≡ 0)

-- A list of such records is written as exactly these records. A record that counts bytes after its fields is written
-- without them, so that a reader takes the record after it for these bytes, or finds the record cut.
abbrev pub AreGiven : MldValue → List ℕ → Type 0
AreGiven (records rs) bytes =
    AllByRecursion IsBare rs → AreRecords (length rs) (drop 8 bytes) (map (λ r. Ok (record_text r)) rs)
AreGiven v bytes = Unit {0}

-- ---- sources

-- The first addresses of 16 bytes, of a record or of a query: a given number of them, or as many as the bytes hold
-- whole.
pub record AreSources (count : ℕ) (bytes : List ℕ) (sources : List (List ℕ)) : Type 0 where
  pub number : length sources ≡ min count (length bytes / 16)
  pub each : AllByRecursion (λ source. length source ≡ 16) sources
  pub whole : concat sources ≡ take (16 * length sources) bytes

-- a call of `next` gives the first address and takes it off; where none is left it gives None, and none is left
-- afterwards
abbrev pub GivesSource : List (List ℕ) → Option Ipv6Address → List (List ℕ) → Type 0
GivesSource old None new = (old ≡ []) × (new ≡ [])
GivesSource old (Some address) new = old ≡ octets_of address ∷ new
