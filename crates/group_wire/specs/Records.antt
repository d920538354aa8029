-- The records of a report in turn (RFC 3376 section 4.2.4, RFC 3810 section 5.2.4).
use Rattle.std.specs.Prelude.{◌≡◌, ℕ, zero, suc, ◌+◌, ◌<◌, ◌≤◌, nat_le, Bool, true, false, List, [], ◌∷◌, ◌++◌}
use Rattle.std.specs.Prelude.{length, take, drop, Option, None, Some}
use Rattle.std.specs.List.{AllByRecursion, concat}
use Rattle.group_wire.specs.declared.record.Record.{Record}
use Rattle.group_wire.specs.declared.records.Records.{Records}
use Rattle.group_wire.specs.Record.{record_len_in, value_of, IsRecord}

-- how many records a report counts, and the octets of all of them
abbrev pub count_in : {A : Type 0} → Records A → ℕ
count_in records = records.count

abbrev pub octets_in : {A : Type 0} → Records A → List ℕ
octets_in records = records.octets.now

-- the bytes of a given number of records at the front of some bytes, each by its own counts
unfoldable pub records_len_in : ℕ → ℕ → List ℕ → ℕ
records_len_in w zero bytes = 0
records_len_in w (suc n) bytes = record_len_in w bytes + records_len_in w n (drop (record_len_in w bytes) bytes)

-- The records of a report: the first ones in some bytes, one after another, each with as many bytes as it counts; and
-- where they are fewer than the report counts, the bytes end before the next one does.
pub record AreRecords (w count : ℕ) (bytes : List ℕ) (records : List (List ℕ)) : Type 0 where
  pub each : AllByRecursion (λ one. length one ≡ record_len_in w one) records
  pub rest : List ℕ
  pub whole : bytes ≡ concat records ++ rest
  pub most : length records ≤ count
  pub ends : length records < count → length rest < record_len_in w rest

-- the same records as they are computed
abbrev pub after_record : Bool → ℕ → List ℕ → (List ℕ → List (List ℕ)) → List (List ℕ)
after_record true len bytes go = take len bytes ∷ go (drop len bytes)
after_record false len bytes go = []

unfoldable pub records_ahead : ℕ → ℕ → List ℕ → List (List ℕ)
records_ahead w zero bytes = []
records_ahead w (suc n) bytes =
    after_record (nat_le (record_len_in w bytes) (length bytes)) (record_len_in w bytes) bytes (records_ahead w n)

-- a call of `next` gives what is read in the bytes of the first record, and takes that off; where none is left it gives
-- None, and none is left afterwards
abbrev pub GivesRecord : {A : Type 0} → ℕ → (A → List ℕ) → List (List ℕ) → Option (Record A) → List (List ℕ) → Type 0
GivesRecord w bytes old None new = (old ≡ []) × (new ≡ [])
GivesRecord w bytes old (Some one) new =
    (front : List ℕ) × IsRecord w front (value_of bytes one) × (old ≡ front ∷ new)
