-- The texts of records: their lengths, and that a record behind others is read behind them.
use Rattle.std.proofs.Common.{◌≡◌, ℕ, zero, suc, ◌+◌, ◌*◌, ◌/◌, ◌-◌, ◌≤◌}
use Rattle.std.proofs.Common.{List, [], ◌∷◌, ◌++◌, length, take, drop, refl, sym, ap}
use Rattle.std.proofs.Common.{◌∙◌, arith, length-append}
use Rattle.std.specs.Prelude.{map}
use Rattle.std.specs.List.{concat}
use Rattle.std.proofs.Math.Nat.{mul-suc, mul-zero}
use Rattle.std.proofs.lemmas.List.{append-nil, drop-append-le, drop-drop, drop_at, length-drop, length-take-le}
use Rattle.std.proofs.lemmas.List.{nil_from_length, take-append-le, take_all, take_at}
use Rattle.std.proofs.lemmas.Slice.{take-put_mid}
use borrow.Rule.Slice.PartMut.{put_mid}
use Rattle.byteorder.specs.Endian.{big_bytes, big_number}
use Rattle.byteorder.specs.Numbers.{big_number-reads_back}
use Rattle.wirebase.specs.Bytes.{part, over}
use Rattle.wirebase.proofs.Pieces.{over-exact}
use Rattle.wirebase.specs.ByteWriter.{be8, be16, fields}
use Rattle.wirebase.specs.Numbered.{IsProper}
use Rattle.icmp6_wire.specs.MldTables.{record_type_number, record_type_rows}
use Rattle.icmp6_wire.specs.declared.mld.tables.RecordType.{RecordType}
use Rattle.icmp6_wire.proofs.MldRecords.{record_type_of-number}
use Rattle.group_wire.specs.declared.family.Family.{Family}
use Rattle.group_wire.specs.Family.{width}
use Rattle.group_wire.specs.Record.{group_record, text, sources_at, auxiliary_at, record_len_in, IsRecord}
use Rattle.group_wire.specs.Records.{records_len_in, records_ahead}
use Rattle.group_wire.specs.Sources.{AreAddresses}
use Rattle.group_wire.proofs.Families.{div_times}
use Rattle.group_wire.proofs.RecordsAhead.{len_at, len-none, len-suc, none_ahead, ahead_more, record_of}

-- the bytes of addresses
pub length-addresses : {A : Type 0} (bytes : A → List ℕ) (w : ℕ) → ((a : A) → length (bytes a) ≡ w) → (xs : List A)
    → length (concat (map bytes xs)) ≡ w * length xs
length-addresses bytes w whole [] = sym (mul-zero w)
length-addresses bytes w whole (x ∷ xs) =
    omega (
      arith,
      length-append (bytes x) (concat (map bytes xs)),
      whole x,
      length-addresses bytes w whole xs,
      mul-suc w (length xs),
    )

fields-concat : (fs : List (List ℕ)) → fields fs ≡ concat fs
unfolding fields
fields-concat [] = refl
fields-concat (f ∷ fs) = ap (λ (l : List ℕ). f ++ l) (fields-concat fs)

-- addresses that are written into as many bytes
pub written_addresses : {A : Type 0} (bytes : A → List ℕ) (w : ℕ) → ((a : A) → length (bytes a) ≡ w) → (xs : List A)
    (old : List ℕ) → length old ≡ w * length xs → over old (fields (map bytes xs)) ≡ concat (map bytes xs)
written_addresses bytes w whole xs old long =
    let same = fields-concat (map bytes xs) in
    over-exact old (fields (map bytes xs))
    (long ∙ sym (length-addresses bytes w whole xs) ∙ ap (λ (l : List ℕ). length l) (sym same))
    ∙ same

-- their bytes, where they can be counted
pub counted_addresses : {A : Type 0} (bytes : A → List ℕ) (f : Family) → ((a : A) → length (bytes a) ≡ width f)
    → (xs : List A) (all : List ℕ) → all ≡ concat (map bytes xs) → length xs ≤ 65535 → AreAddresses (width f) all
counted_addresses bytes f whole xs all same few = (
  length xs,
  ap (λ (l : List ℕ). length l) same ∙ length-addresses bytes (width f) whole xs,
  omega (arith, few),
)

-- the text of a record with these sources and without auxiliary data
pub written_text : {A : Type 0} (bytes : A → List ℕ) (f : Family) → ((a : A) → length (bytes a) ≡ width f)
    → (kind : RecordType) (group : List ℕ) (sources : List A)
    → fields (be8 (record_type_number kind) ∷ be8 0 ∷ be16 (length sources) ∷ group ∷ map bytes sources)
    ≡ text (width f) (group_record kind group (concat (map bytes sources)) [])
unfolding fields
written_text bytes f whole kind group sources =
    let all : List ℕ = concat (map bytes sources) in
    let count : length all / width f ≡ length sources =
    ap (λ (n : ℕ). n / width f) (length-addresses bytes (width f) whole sources)
    ∙ div_times f (length sources) in
    ap (λ (l : List ℕ). be8 (record_type_number kind) ++ (be8 0 ++ (be16 (length sources) ++ (group ++ l))))
    (fields-concat (map bytes sources) ∙ sym (append-nil all))
    ∙ ap (λ (n : ℕ). be8 (record_type_number kind) ++ (be8 0 ++ (be16 n ++ (group ++ (all ++ []))))) (sym count)

-- ---- a record behind others

-- the text of a record that is written has as many bytes as it counts
pub length-record : (f : Family) (kind : RecordType) (group sources : List ℕ) → length group ≡ width f
    → (n : ℕ) → length sources ≡ width f * n → n ≤ 65535
    → (length (text (width f) (group_record kind group sources [])) ≡ sources_at (width f) + width f * n)
    × (record_len_in (width f) (text (width f) (group_record kind group sources []))
    ≡ sources_at (width f) + width f * n)
unfolding fields be8 be16 part
length-record f kind group sources whole n long few =
    let count : length sources / width f ≡ n = ap (λ (k : ℕ). k / width f) long ∙ div_times f n in
    let number : big_number 2 (big_bytes 2 (length sources / width f) ++ []) ≡ n =
    big_number-reads_back 2 (length sources / width f) [] (omega (arith, count, few)) ∙ count in (
      omega (
        arith,
        length-append group (sources ++ ([] ++ [])),
        length-append sources ([] ++ []),
        whole,
        long,
      ),
      ap (λ (k : ℕ). 4 + width f + width f * k + 0) number ∙ omega arith,
    )

-- one more record behind others
pub len-behind : (w n : ℕ) (bytes one : List ℕ) → records_len_in w n bytes ≡ length bytes
    → record_len_in w one ≡ length one → records_len_in w (suc n) (bytes ++ one) ≡ length bytes + length one
len-behind w zero bytes one all whole =
    let none : bytes ≡ [] = nil_from_length bytes (omega (arith, all, len-none w 0 bytes refl)) in
    rw none (len-suc w 0 one ∙ omega (arith, whole, len-none w 0 (drop (record_len_in w one) one) refl))
len-behind w (suc n) bytes one all whole =
    let len : ℕ = record_len_in w bytes in
    let rest : List ℕ = drop len bytes in
    let parts : records_len_in w (suc n) bytes ≡ len + records_len_in w n rest = len-suc w n bytes in
    let fits : len ≤ length bytes = omega (arith, parts, all) in
    let same : record_len_in w (bytes ++ one) ≡ len = len_at w bytes one (omega (arith, fits)) in
    let shorter : length rest ≡ length bytes - len = length-drop len bytes in
    let behind : drop len (bytes ++ one) ≡ rest ++ one = drop-append-le len bytes one fits in
    len-suc w (suc n) (bytes ++ one)
    ∙ ap (λ (k : ℕ). k + records_len_in w (suc n) (drop k (bytes ++ one))) same
    ∙ ap (λ (l : List ℕ). len + records_len_in w (suc n) l) behind
    ∙ omega (
      arith,
      len-behind w n rest one (omega (arith, parts, all, shorter)) whole,
      shorter,
      fits,
    )

pub ahead-behind : (w n : ℕ) (bytes one : List ℕ) → records_len_in w n bytes ≡ length bytes
    → record_len_in w one ≡ length one → records_ahead w (suc n) (bytes ++ one) ≡ records_ahead w n bytes ++ one ∷ []
ahead-behind w zero bytes one all whole =
    let none : bytes ≡ [] = nil_from_length bytes (omega (arith, all, len-none w 0 bytes refl)) in
    let len : ℕ = record_len_in w one in
    rw none
    (ahead_more w 0 one len refl (omega (arith, whole))
    ∙ ap (λ (l : List (List ℕ)). take len one ∷ l) (none_ahead w 0 (drop len one) refl)
    ∙ ap (λ (l : List ℕ). l ∷ []) (take_all len one (omega (arith, whole)))
    ∙ ap (λ (l : List (List ℕ)). l ++ one ∷ []) (sym (none_ahead w 0 [] refl)))
ahead-behind w (suc n) bytes one all whole =
    let len : ℕ = record_len_in w bytes in
    let rest : List ℕ = drop len bytes in
    let parts : records_len_in w (suc n) bytes ≡ len + records_len_in w n rest = len-suc w n bytes in
    let fits : len ≤ length bytes = omega (arith, parts, all) in
    let same : len ≡ record_len_in w (bytes ++ one) = sym (len_at w bytes one (omega (arith, fits))) in
    let shorter : length rest ≡ length bytes - len = length-drop len bytes in
    let room : len ≤ length (bytes ++ one) = omega (arith, fits, length-append bytes one) in
    let first : List ℕ = take len bytes in
    ahead_more w (suc n) (bytes ++ one) len same room
    ∙ ap (λ (l : List ℕ). l ∷ records_ahead w (suc n) (drop len (bytes ++ one))) (take-append-le len bytes one fits)
    ∙ ap (λ (l : List ℕ). first ∷ records_ahead w (suc n) l) (drop-append-le len bytes one fits)
    ∙ ap (λ (l : List (List ℕ)). first ∷ l)
    (ahead-behind w n rest one (omega (arith, parts, all, shorter)) whole)
    ∙ ap (λ (l : List (List ℕ)). l ++ one ∷ []) (sym (ahead_more w n bytes len refl fits))

-- ---- the text of a record is read as that record

pub record_read : (f : Family) (kind : RecordType) (group sources : List ℕ) → length group ≡ width f → (n : ℕ)
    → length sources ≡ width f * n → n ≤ 65535 → IsProper RecordType.Unknown record_type_rows kind
    → IsRecord (width f) (text (width f) (group_record kind group sources [])) (group_record kind group sources [])
unfolding fields be8 be16 part
record_read f kind group sources whole n long few proper =
    let w : ℕ = width f in
    let bytes : List ℕ = text w (group_record kind group sources []) in
    let lengths = length-record f kind group sources whole n long few in
    let count : length sources / w ≡ n = ap (λ (k : ℕ). k / w) long ∙ div_times f n in
    let number : big_number 2 (big_bytes 2 (length sources / w) ++ []) ≡ n =
    big_number-reads_back 2 (length sources / w) [] (omega (arith, count, few)) ∙ count in
    let at : auxiliary_at w bytes ≡ 4 + w + w * n = ap (λ (k : ℕ). 4 + w + w * k) number in
    let behind : drop (4 + w) bytes ≡ sources ++ [] =
    sym (drop-drop w 4 bytes) ∙ drop_at group (sources ++ []) w whole in
    let one = record_type_of-number kind proper in
    let two : group ≡ part bytes 4 (4 + w) =
    sym (ap (λ (k : ℕ). take k (group ++ (sources ++ []))) (omega arith) ∙ take_at group (sources ++ []) w whole) in
    let three : sources ≡ part bytes (4 + w) (auxiliary_at w bytes) =
    sym (ap (λ (k : ℕ). take (k - (4 + w)) (drop (4 + w) bytes)) at
    ∙ ap (λ (k : ℕ). take k (drop (4 + w) bytes)) (omega arith)
    ∙ ap (λ (l : List ℕ). take (w * n) l) behind
    ∙ take_at sources [] (w * n) long) in
    let four : [] ≡ drop (auxiliary_at w bytes) bytes =
    sym (ap (λ (k : ℕ). drop k bytes) at ∙ sym (drop-drop (w * n) (4 + w) bytes)
    ∙ ap (λ (l : List ℕ). drop (w * n) l) behind ∙ drop_at sources [] (w * n) long) in
    record_of w bytes kind group sources [] (lengths.0 ∙ sym lengths.1) one two three four

-- the bytes of a writer after a write of so many behind its position
abbrev after : ℕ → ℕ → List ℕ → List ℕ → List ℕ
after position len buffer octets = take (position + len) (put_mid position (position + len - position) buffer octets)

-- what a writer has written after one more record
pub pushed : (f : Family) (kind : RecordType) (group sources : List ℕ) (n count position len : ℕ)
    (buffer octets : List ℕ) → length group ≡ width f → length sources ≡ width f * n → n ≤ 65535
    → position ≤ length buffer → records_len_in (width f) count (take position buffer) ≡ position
    → len ≡ sources_at (width f) + width f * n → len ≤ length buffer - position
    → octets
    ≡ over (take (position + len - position) (drop position buffer))
    (text (width f) (group_record kind group sources []))
    → (after position len buffer octets
    ≡ take position buffer ++ text (width f) (group_record kind group sources []))
    × (records_len_in (width f) (count + 1) (after position len buffer octets) ≡ position + len)
    × (records_ahead (width f) (count + 1) (after position len buffer octets)
    ≡ records_ahead (width f) count (take position buffer) ++ text (width f) (group_record kind group sources []) ∷ [])
pushed f kind group sources n count position len buffer octets whole long few within all is room wrote =
    let one : List ℕ = text (width f) (group_record kind group sources []) in
    let lengths = length-record f kind group sources whole n long few in
    let old : List ℕ = take (position + len - position) (drop position buffer) in
    let old_len : length old ≡ len =
    length-take-le (position + len - position) (drop position buffer)
    (omega (arith, within, room, length-drop position buffer)) ∙ omega arith in
    let same : octets ≡ one = wrote ∙ over-exact old one (omega (arith, old_len, lengths.0, is)) in
    let written : after position len buffer octets ≡ take position buffer ++ one =
    take-put_mid position (position + len - position) buffer octets (position + len)
    (omega (arith, ap (λ (l : List ℕ). length l) same, lengths.0, is)) within
    ∙ ap (λ (l : List ℕ). take position buffer ++ l) same in
    let front : length (take position buffer) ≡ position = length-take-le position buffer within in
    let next : count + 1 ≡ suc count = omega arith in (
      written,
      ap (λ (l : List ℕ). records_len_in (width f) (count + 1) l) written
          ∙ ap (λ (k : ℕ). records_len_in (width f) k (take position buffer ++ one)) next
          ∙ len-behind (width f) count (take position buffer) one (all ∙ sym front) (lengths.1 ∙ sym lengths.0)
          ∙ omega (arith, front, lengths.0, is),
      ap (λ (l : List ℕ). records_ahead (width f) (count + 1) l) written
          ∙ ap (λ (k : ℕ). records_ahead (width f) k (take position buffer ++ one)) next
          ∙ ahead-behind (width f) count (take position buffer) one (all ∙ sym front) (lengths.1 ∙ sym lengths.0),
    )
