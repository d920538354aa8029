-- A list of records that count nothing after their fields is written as exactly these records.
use Rattle.std.proofs.Common.{◌≡◌, ◌≤◌, List, ℕ, [], ◌∷◌, ◌++◌, length, map, Ok, refl, sym, ◌∙◌, arith}
use Rattle.std.proofs.lemmas.List.{append_assoc}
use Rattle.std.specs.List.{AllByRecursion}
use Rattle.wirebase.specs.Bytes.{part, over}
use Rattle.wirebase.specs.ByteWriter.{fields}
use Rattle.wirebase.specs.Ipv6Address.{octets_of}
use Rattle.wirebase.specs.declared.ipv6.address.Ipv6Address.{Ipv6Address}
use Rattle.icmp6_wire.specs.Mld.{MldValue, query, report, records, record_texts, text, CanEmit}
use Rattle.icmp6_wire.specs.MldIterators.{AreRecords, ends, goes_on, IsBare, AreGiven}
use Rattle.icmp6_wire.specs.MldRecord.{RecordValue, address_record, record_len_in, text as text_of}
use Rattle.icmp6_wire.specs.MldTables.{record_type_number}
use Rattle.icmp6_wire.specs.declared.mld.tables.RecordType.{RecordType}
use Rattle.icmp6_wire.proofs.MldRecords.{record_text, length-text as length-record}
use Rattle.icmp6_wire.proofs.MldTexts.{report_text, length-text}
use Rattle.wirebase.proofs.Pieces.{over-fits}

len_of_fields : (number : ℕ) (octets : List ℕ) → record_len_in (number ∷ 0 ∷ 0 ∷ 0 ∷ octets) ≡ 20
unfolding part
len_of_fields number octets = refl

len_in-bare : (kind : RecordType) (group : Ipv6Address) (rest : List ℕ)
    → record_len_in (text_of (address_record kind 0 0 group rest)) ≡ 20
len_in-bare kind group rest =
    rw (record_text kind 0 0 group rest) (len_of_fields (record_type_number kind) (octets_of group))

len-bare : (r : RecordValue) → IsBare r → length (text_of r) ≡ record_len_in (text_of r)
len-bare (address_record kind words sources group rest) bare =
    rw (bare.0, bare.1)
    (length-record (address_record kind 0 0 group rest) ∙ sym (len_in-bare kind group rest))

records_given : (rs : List RecordValue) (behind : List ℕ) → AllByRecursion IsBare rs
    → AreRecords (length rs) (fields (record_texts rs) ++ behind) (map (λ r. Ok (text_of r)) rs)
unfolding fields
records_given [] behind all = ends
records_given (r ∷ rs) behind all =
    goes_on (text_of r) (fields (record_texts rs) ++ behind) (len-bare r all.0) (records_given rs behind all.1)
    (append_assoc (text_of r) (fields (record_texts rs)) behind)

pub given : (v : MldValue) (old : List ℕ) → CanEmit v old → AreGiven v (over old (text v))
given (records rs) old can =
    let fits : length (text (records rs)) ≤ length old = omega (arith, can.0, length-text (records rs)) in
    λ all. rw (over-fits old (text (records rs)) fits, report_text (length rs) (record_texts rs))
    (records_given rs _ all)
given (query _ _ _ _ _ _ _) old can = tt
given (report _ _) old can = tt
