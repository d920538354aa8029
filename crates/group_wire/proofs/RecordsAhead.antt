-- The records of a report in turn: they are what is computed, and that alone; and the bytes that they take.
use Rattle.std.proofs.Common.{◌≡◌, ℕ, zero, suc, ◌+◌, ◌*◌, ◌-◌, ◌≤◌, ◌<◌, Bool, true, false, List, [], ◌∷◌, ◌++◌}
use Rattle.std.proofs.Common.{length, take, drop, refl, sym, ap, ◌∙◌, arith}
use Rattle.std.specs.Prelude.{nat_le}
use Rattle.std.specs.List.{concat}
use Rattle.std.proofs.Math.ListN.{get_or-append}
use Rattle.std.proofs.lemmas.Bool.{leb-true, leb-false, le-leb}
use Rattle.std.proofs.lemmas.List.{append_assoc, take-append-drop, take-append-le, drop-append-le, length-take-le}
use Rattle.std.proofs.Math.Seq.{take-add}
use Rattle.std.proofs.lemmas.List.{drop_at, length-drop}
use Rattle.byteorder.specs.Endian.{big_number}
use Rattle.wirebase.specs.Bytes.{part, byte_of, number_of}
use Rattle.icmp6_wire.specs.MldTables.{record_type_of}
use Rattle.icmp6_wire.specs.declared.mld.tables.RecordType.{RecordType}
use Rattle.group_wire.specs.Record.{group_record, record_type_field, words_field, count_field, sources_at}
use Rattle.group_wire.specs.Record.{auxiliary_at, record_len_in, IsRecord}
use Rattle.group_wire.specs.Records.{records_len_in, AreRecords}
use Rattle.group_wire.specs.Records.{after_record, records_ahead}

-- a front with the fields of a record before its group tells how many bytes the record has
part_at : (front rest : List ℕ) → 4 ≤ length front → part (front ++ rest) 2 4 ≡ part front 2 4
unfolding part
part_at front rest four =
    ap (λ (l : List ℕ). take 2 l) (drop-append-le 2 front rest (omega (arith, four)))
    ∙ take-append-le 2 (drop 2 front) rest (omega (arith, four, length-drop 2 front))

pub len_at : (w : ℕ) (front rest : List ℕ) → 4 ≤ length front → record_len_in w (front ++ rest) ≡ record_len_in w front
len_at w front rest fixed =
    let sources : number_of count_field (front ++ rest) ≡ number_of count_field front =
    ap (λ (l : List ℕ). big_number 2 l) (part_at front rest fixed) in
    let words : byte_of words_field (front ++ rest) ≡ byte_of words_field front =
    get_or-append front rest 0 1 (omega (arith, fixed)) in
    ap (λ (n : ℕ). 4 + w + w * n + 4 * byte_of words_field (front ++ rest)) sources
    ∙ ap (λ (n : ℕ). 4 + w + w * number_of count_field front + 4 * n) words

-- the bytes of a record at the front of others
pub front_len : (w : ℕ) (bytes : List ℕ) → record_len_in w bytes ≤ length bytes
    → length (take (record_len_in w bytes) bytes) ≡ record_len_in w (take (record_len_in w bytes) bytes)
front_len w bytes fits =
    let n : ℕ = record_len_in w bytes in
    let long : length (take n bytes) ≡ n = length-take-le n bytes fits in
    let same : record_len_in w (take n bytes ++ drop n bytes) ≡ n =
    ap (λ (l : List ℕ). record_len_in w l) (take-append-drop n bytes) in
    long ∙ sym same ∙ len_at w (take n bytes) (drop n bytes) (omega (arith, long))

pub front_whole : (w len : ℕ) (bytes front : List ℕ) → len ≡ record_len_in w bytes → len ≤ length bytes
    → front ≡ take len bytes → length front ≡ record_len_in w front
front_whole w len bytes front is fits e =
    let same : front ≡ take (record_len_in w bytes) bytes = e ∙ ap (λ (n : ℕ). take n bytes) is in
    ap (λ (l : List ℕ). length l) same ∙ front_len w bytes (omega (arith, is, fits))
    ∙ ap (λ (l : List ℕ). record_len_in w l) (sym same)

-- what the parts of a record say
pub record_of : (w : ℕ) (bytes : List ℕ) (kind : RecordType) (group sources auxiliary : List ℕ)
    → length bytes ≡ record_len_in w bytes → kind ≡ record_type_of (byte_of record_type_field bytes)
    → group ≡ part bytes 4 (sources_at w) → sources ≡ part bytes (sources_at w) (auxiliary_at w bytes)
    → auxiliary ≡ drop (auxiliary_at w bytes) bytes → IsRecord w bytes (group_record kind group sources auxiliary)
record_of w bytes kind group sources auxiliary whole one two three four = record { whole = whole; says = cc }

-- ---- in turn

records_step : (w n : ℕ) (bytes : List ℕ) → ((rest : List ℕ) → AreRecords w n rest (records_ahead w n rest))
    → (fits : Bool) → nat_le (record_len_in w bytes) (length bytes) ≡ fits
    → AreRecords w (suc n) bytes (after_record fits (record_len_in w bytes) bytes (records_ahead w n))
records_step w n bytes go true e =
    let len : ℕ = record_len_in w bytes in
    let more = go (drop len bytes) in
    let ahead : List (List ℕ) = records_ahead w n (drop len bytes) in
    record {
      each = (front_len w bytes (leb-true len (length bytes) e), more.each);
      rest = more.rest;
      whole =
          sym (take-append-drop len bytes) ∙ ap (λ (l : List ℕ). take len bytes ++ l) more.whole
          ∙ sym (append_assoc (take len bytes) (concat ahead) more.rest);
      most = omega (arith, more.most);
      ends = λ fewer. more.ends (omega (arith, fewer));
    }
records_step w n bytes go false e =
    record {
      each = tt;
      rest = bytes;
      whole = refl;
      most = omega arith;
      ends = λ fewer. leb-false (record_len_in w bytes) (length bytes) e;
    }

pub records_of : (w n : ℕ) (bytes : List ℕ) → AreRecords w n bytes (records_ahead w n bytes)
unfolding records_ahead
records_of w zero bytes =
    record { each = tt; rest = bytes; whole = refl; most = omega arith; ends = λ fewer. absurd (omega (arith, fewer)) }
records_of w (suc n) bytes =
    records_step w n bytes (λ rest. records_of w n rest) (nat_le (record_len_in w bytes) (length bytes)) refl

-- what a call of `next` gives
one_less : (n : ℕ) → (n ≡ 0 → ⊥) → n ≡ suc (n - 1)
one_less zero some = absurd (some refl)
one_less (suc n) some = omega arith

pub none_ahead : (w n : ℕ) (bytes : List ℕ) → n ≡ 0 → records_ahead w n bytes ≡ []
unfolding records_ahead
none_ahead w zero bytes e = refl
none_ahead w (suc n) bytes e = absurd (omega (arith, e))

pub ahead_more : (w n : ℕ) (bytes : List ℕ) (len : ℕ) → len ≡ record_len_in w bytes → len ≤ length bytes
    → records_ahead w (suc n) bytes ≡ take len bytes ∷ records_ahead w n (drop len bytes)
unfolding records_ahead
ahead_more w n bytes len is fits =
    let whole : ℕ = record_len_in w bytes in
    ap (λ (b : Bool). after_record b whole bytes (records_ahead w n))
    (le-leb whole (length bytes) (omega (arith, is, fits)))
    ∙ ap (λ (k : ℕ). take k bytes ∷ records_ahead w n (drop k bytes)) (sym is)

pub record_ahead : (w n : ℕ) (bytes rest : List ℕ) (len : ℕ) → (n ≡ 0 → ⊥) → len ≡ record_len_in w bytes
    → len ≤ length bytes → rest ≡ drop len bytes
    → records_ahead w n bytes ≡ take len bytes ∷ records_ahead w (n - 1) rest
record_ahead w n bytes rest len some is fits e =
    ap (λ (k : ℕ). records_ahead w k bytes) (one_less n some) ∙ ahead_more w (n - 1) bytes len is fits
    ∙ ap (λ (l : List ℕ). take len bytes ∷ records_ahead w (n - 1) l) (sym e)

cut_by : (len : ℕ) (bytes : List ℕ) (go : List ℕ → List (List ℕ)) (fits : Bool) → nat_le len (length bytes) ≡ fits
    → length bytes < len → after_record fits len bytes go ≡ []
cut_by len bytes go true e less = absurd (omega (arith, leb-true len (length bytes) e, less))
cut_by len bytes go false e less = refl

pub cut_ahead : (w n : ℕ) (bytes : List ℕ) → length bytes < record_len_in w bytes → records_ahead w n bytes ≡ []
unfolding records_ahead
cut_ahead w zero bytes less = refl
cut_ahead w (suc n) bytes less =
    cut_by (record_len_in w bytes) bytes (records_ahead w n) (nat_le (record_len_in w bytes) (length bytes)) refl less

-- ---- the bytes of all

pub len-none : (w n : ℕ) (bytes : List ℕ) → n ≡ 0 → records_len_in w n bytes ≡ 0
unfolding records_len_in
len-none w zero bytes e = refl
len-none w (suc n) bytes e = absurd (omega (arith, e))

pub len-suc : (w n : ℕ) (bytes : List ℕ)
    → records_len_in w (suc n) bytes
    ≡ record_len_in w bytes + records_len_in w n (drop (record_len_in w bytes) bytes)
unfolding records_len_in
len-suc w n bytes = refl

-- those of one and of the others
pub len-more : (w n : ℕ) (bytes rest : List ℕ) (len : ℕ) → (n ≡ 0 → ⊥) → len ≡ record_len_in w bytes
    → rest ≡ drop len bytes → records_len_in w n bytes ≡ len + records_len_in w (n - 1) rest
len-more w n bytes rest len some is e =
    ap (λ (k : ℕ). records_len_in w k bytes) (one_less n some) ∙ len-suc w (n - 1) bytes
    ∙ ap (λ (k : ℕ). k + records_len_in w (n - 1) (drop k bytes)) (sym is)
    ∙ ap (λ (l : List ℕ). len + records_len_in w (n - 1) l) (sym e)

pub len-cut : (w n : ℕ) (bytes : List ℕ) → (n ≡ 0 → ⊥) → length bytes < record_len_in w bytes
    → length bytes < records_len_in w n bytes
len-cut w n bytes some less = omega (arith, less, len-more w n bytes _ _ some refl refl)

-- one more that was passed
pub len_step : (w n whole len : ℕ) (octets rest behind : List ℕ) → (n ≡ 0 → ⊥) → len ≡ record_len_in w rest
    → len ≤ length rest → behind ≡ drop len rest
    → (length rest ≤ length octets) × (whole ≡ (length octets - length rest) + records_len_in w n rest)
    → (length behind ≤ length octets) × (whole ≡ (length octets - length behind) + records_len_in w (n - 1) behind)
len_step w n whole len octets rest behind some is fits e before =
    let shorter : length behind ≡ length rest - len =
    ap (λ (l : List ℕ). length l) e ∙ length-drop len rest in (
      omega (arith, shorter, before.0),
      omega (arith, shorter, before.0, before.1, fits, len-more w n rest behind len some is e),
    )

-- ---- all of them at the front of others

-- the records at the front of some bytes, and nothing else, have as many bytes
pub front_records : (w n : ℕ) (bytes : List ℕ) → records_len_in w n bytes ≤ length bytes
    → records_len_in w n (take (records_len_in w n bytes) bytes) ≡ records_len_in w n bytes
front_records w zero bytes fits = len-none w 0 _ refl ∙ sym (len-none w 0 bytes refl)
front_records w (suc n) bytes fits =
    let len : ℕ = record_len_in w bytes in
    let more : ℕ = records_len_in w n (drop len bytes) in
    let all : records_len_in w (suc n) bytes ≡ len + more = len-suc w n bytes in
    let front : List ℕ = take (records_len_in w (suc n) bytes) bytes in
    let parts : front ≡ take len bytes ++ take more (drop len bytes) =
    ap (λ (k : ℕ). take k bytes) all ∙ take-add len more bytes in
    let long : length (take len bytes) ≡ len = length-take-le len bytes (omega (arith, fits, all)) in
    let same : record_len_in w front ≡ len =
    ap (λ (l : List ℕ). record_len_in w l) parts
    ∙ len_at w (take len bytes) (take more (drop len bytes)) (omega (arith, long))
    ∙ sym (len_at w (take len bytes) (drop len bytes) (omega (arith, long)))
    ∙ ap (λ (l : List ℕ). record_len_in w l) (take-append-drop len bytes) in
    let behind : drop len front ≡ take more (drop len bytes) =
    ap (λ (l : List ℕ). drop len l) parts ∙ drop_at (take len bytes) (take more (drop len bytes)) len long in
    len-suc w n front
    ∙ ap (λ (k : ℕ). k + records_len_in w n (drop k front)) same
    ∙ ap (λ (l : List ℕ). len + records_len_in w n l) behind
    ∙ ap (λ (k : ℕ). len + k)
    (front_records w n (drop len bytes) (omega (arith, fits, all, length-drop len bytes)))
    ∙ sym all
