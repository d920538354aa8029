-- The records of a report in turn, each with its sources and its auxiliary data (RFC 3810 section 5.2), and the sources
use Rattle.std.specs.Prelude.{ℕ, zero, suc, ◌/◌, nat_le, Bool, true, false, List, [], ◌∷◌, length, take, drop, Ok, Err}
use Rattle.icmp6_wire.specs.Words.{RecordRefusal}
use Rattle.icmp6_wire.specs.MldRecord.{record_len_in}
use Rattle.icmp6_wire.specs.MldIterators.{Answer}

-- the answers as they are computed, which the iterator's model needs; the reason depends on whether there are 20 bytes
abbrev pub first_refusal : Bool → RecordRefusal
first_refusal true = RecordRefusal.Cut
first_refusal false = RecordRefusal.Short

abbrev pub after_record : Bool → ℕ → List ℕ → (List ℕ → List Answer) → List Answer
after_record true len bytes go = Ok (take len bytes) ∷ go (drop len bytes)
after_record false len bytes go = Err (first_refusal (nat_le 20 (length bytes))) ∷ []

unfoldable pub records_ahead : ℕ → List ℕ → List Answer
records_ahead zero bytes = []
records_ahead (suc n) bytes =
    after_record (nat_le (record_len_in bytes) (length bytes)) (record_len_in bytes) bytes (records_ahead n)

-- the addresses as they are computed: a given number, of 16 bytes each
unfoldable pub sources_ahead : ℕ → List ℕ → List (List ℕ)
sources_ahead zero bytes = []
sources_ahead (suc n) bytes = take 16 bytes ∷ sources_ahead n (drop 16 bytes)

-- those that the bytes hold whole
abbrev pub sources_in : List ℕ → List (List ℕ)
sources_in bytes = sources_ahead (length bytes / 16) bytes
