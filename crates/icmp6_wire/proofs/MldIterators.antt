-- The records of a report in turn, and the sources of a record: they are what is computed, and that alone.
use Rattle.std.proofs.Common.{◌≡◌, inl, inr, ℕ, zero, suc, ◌+◌, ◌*◌, ◌/◌, ◌-◌, ◌≤◌, ◌<◌, min, Bool, true, false}
use Rattle.std.specs.Prelude.{nat_le}
use Rattle.std.proofs.Common.{List, [], ◌∷◌, ◌++◌, length, take, drop, Ok, Err, refl, sym, ap, subst, ◌∙◌, arith}
use Rattle.std.proofs.Common.{length-append}
use Rattle.std.specs.List.{AllByRecursion, concat}
use Rattle.std.proofs.Math.ListN.{get_or-append}
use Rattle.std.proofs.Math.Seq.{take-add, take-length}
use Rattle.std.proofs.lemmas.Bool.{leb-true, leb-false, le-leb}
use Rattle.std.proofs.lemmas.List.{take-append-drop, take-append-le, drop-append-le, length-take-le, length-drop}
use Rattle.std.proofs.lemmas.List.{take_at, drop_at}
use Rattle.byteorder.specs.Endian.{big_number}
use Rattle.icmp6_wire.specs.Words.{part, byte_of, number_of, RecordRefusal}
use Rattle.wirebase.proofs.Checks.{fails_one}
use Rattle.icmp6_wire.specs.MldRecord.{aux_data_len_field, num_srcs_field, record_len_in, record_checks}
use Rattle.icmp6_wire.specs.MldRefusal.{RefusesRecord}
use Rattle.icmp6_wire.specs.MldIterators.{Answer, AreRecords, ends, goes_on, breaks, AreSources}
use Rattle.icmp6_wire.specs.private.MldIterators.{first_refusal, after_record, records_ahead, sources_ahead, sources_in}

-- ---- records

-- a front with all fields of a record tells how many bytes it has
part_at : (front rest : List ℕ) → 4 ≤ length front → part (front ++ rest) 2 4 ≡ part front 2 4
unfolding part
part_at front rest four =
    ap (λ (l : List ℕ). take 2 l) (drop-append-le 2 front rest (omega (arith, four)))
    ∙ take-append-le 2 (drop 2 front) rest (omega (arith, four, length-drop 2 front))

pub len_at : (front rest : List ℕ) → 20 ≤ length front → record_len_in (front ++ rest) ≡ record_len_in front
len_at front rest fixed =
    let sources : number_of num_srcs_field (front ++ rest) ≡ number_of num_srcs_field front =
    ap (λ (l : List ℕ). big_number 2 l) (part_at front rest (omega (arith, fixed))) in
    let words : byte_of aux_data_len_field (front ++ rest) ≡ byte_of aux_data_len_field front =
    get_or-append front rest 0 1 (omega (arith, fixed)) in
    omega (arith, sources, words)

-- the bytes of a record at the front of others
front_len : (bytes : List ℕ) → record_len_in bytes ≤ length bytes
    → length (take (record_len_in bytes) bytes) ≡ record_len_in (take (record_len_in bytes) bytes)
front_len bytes fits =
    let n : ℕ = record_len_in bytes in
    let long : length (take n bytes) ≡ n = length-take-le n bytes fits in
    let same : record_len_in (take n bytes ++ drop n bytes) ≡ n =
    ap (λ (l : List ℕ). record_len_in l) (take-append-drop n bytes) in
    let whole = len_at (take n bytes) (drop n bytes) (omega (arith, long)) in
    long ∙ sym same ∙ whole

-- where a reason holds, the bytes end before a record does
refused_len : (bytes : List ℕ) (refusal : RecordRefusal) → RefusesRecord bytes refusal
    → length bytes < record_len_in bytes
refused_len bytes refusal (inl short) = grind (arith, short.0)
refused_len bytes refusal (inr (fixed, inl cut)) = grind (arith, cut.0)
refused_len bytes refusal (inr (fixed, inr none)) = absurd none.1

-- and where they do, the reason that is computed holds
refused_as : (bytes : List ℕ) (fields : Bool) → nat_le 20 (length bytes) ≡ fields → length bytes < record_len_in bytes
    → RefusesRecord bytes (first_refusal fields)
refused_as bytes true e less = inr (leb-true 20 (length bytes) e, inl (λ fits. omega (arith, fits, less), refl))
refused_as bytes false e less = inl (λ fixed. omega (arith, fixed, leb-false 20 (length bytes) e), refl)

first_refused : (bytes : List ℕ) → length bytes < record_len_in bytes
    → RefusesRecord bytes (first_refusal (nat_le 20 (length bytes)))
first_refused bytes less = refused_as bytes (nat_le 20 (length bytes)) refl less

-- the records that are computed are records
records_step : (n : ℕ) (bytes : List ℕ) → ((rest : List ℕ) → AreRecords n rest (records_ahead n rest)) → (fits : Bool)
    → nat_le (record_len_in bytes) (length bytes) ≡ fits
    → AreRecords (suc n) bytes (after_record fits (record_len_in bytes) bytes (records_ahead n))
records_step n bytes go true e =
    let len : ℕ = record_len_in bytes in
    goes_on (take len bytes) (drop len bytes) (front_len bytes (leb-true len (length bytes) e)) (go (drop len bytes))
    (sym (take-append-drop len bytes))
records_step n bytes go false e =
    let less = leb-false (record_len_in bytes) (length bytes) e in
    breaks (first_refusal (nat_le 20 (length bytes))) (first_refused bytes less)

pub records_of : (n : ℕ) (bytes : List ℕ) → AreRecords n bytes (records_ahead n bytes)
unfolding records_ahead
records_of zero bytes = ends
records_of (suc n) bytes =
    records_step n bytes (λ rest. records_of n rest) (nat_le (record_len_in bytes) (length bytes)) refl

-- a record at the front of the bytes has as many bytes as are counted there
whole_front : (bytes front rest : List ℕ) → length front ≡ record_len_in front → bytes ≡ front ++ rest
    → length front ≡ record_len_in bytes
whole_front bytes front rest l e =
    l ∙ sym (len_at front rest (omega (arith, l))) ∙ sym (ap (λ (b : List ℕ). record_len_in b) e)

-- so bytes that end before it have none
no_front : (bytes front rest : List ℕ) (refusal : RecordRefusal) → length front ≡ record_len_in front
    → bytes ≡ front ++ rest → RefusesRecord bytes refusal → ⊥
no_front bytes front rest refusal l e why =
    let long : length bytes ≡ length front + length rest = ap (λ (b : List ℕ). length b) e ∙ length-append front rest in
    omega (arith, refused_len bytes refusal why, long, whole_front bytes front rest l e)

-- and there are no others
pub records-unique : (n : ℕ) (bytes : List ℕ) (answers others : List Answer) → AreRecords n bytes answers
    → AreRecords n bytes others → answers ≡ others
records-unique n bytes answers others ends ends = refl
records-unique n bytes answers others (goes_on {n = m} {answers = a} f r l t e) (goes_on {answers = b} g s k u i) =
    let len : ℕ = record_len_in bytes in
    let one = whole_front bytes f r l e in
    let two = whole_front bytes g s k i in
    let fronts : f ≡ g =
    sym (take_at f r len one) ∙ ap (λ (b : List ℕ). take len b) (sym e ∙ i) ∙ take_at g s len two in
    let rests : r ≡ s = sym (drop_at f r len one) ∙ ap (λ (b : List ℕ). drop len b) (sym e ∙ i) ∙ drop_at g s len two in
    let more : a ≡ b = records-unique m r a b t (subst (λ (x : List ℕ). AreRecords m x b) (sym rests) u) in
    ap (λ (x : List ℕ). Ok x ∷ a) fronts ∙ ap (λ (x : List Answer). Ok g ∷ x) more
records-unique n bytes answers others (goes_on f r l t e) (breaks x why) = absurd (no_front bytes f r x l e why)
records-unique n bytes answers others (breaks x why) (goes_on g s k u i) = absurd (no_front bytes g s x k i why)
records-unique n bytes answers others (breaks x why) (breaks y also) =
    ap (λ (refusal : RecordRefusal). Err refusal ∷ []) (fails_one (record_checks bytes) x y why also)

-- what a call of `next` gives
pub one_less : (n : ℕ) → (n ≡ 0 → ⊥) → n ≡ suc (n - 1)
one_less zero some = absurd (some refl)
one_less (suc n) some = omega arith

pub none_ahead : (n : ℕ) (bytes : List ℕ) → n ≡ 0 → records_ahead n bytes ≡ []
unfolding records_ahead
none_ahead zero bytes e = refl
none_ahead (suc n) bytes e = absurd (omega (arith, e))

pub record_ahead : (n m : ℕ) (bytes rest : List ℕ) → n ≡ suc m → record_len_in bytes ≤ length bytes
    → rest ≡ drop (record_len_in bytes) bytes
    → records_ahead n bytes ≡ Ok (take (record_len_in bytes) bytes) ∷ records_ahead m rest
unfolding records_ahead
record_ahead zero m bytes rest e fits r = absurd (omega (arith, e))
record_ahead (suc n) m bytes rest e fits r =
    let len : ℕ = record_len_in bytes in
    let same : n ≡ m = omega (arith, e) in
    ap (λ (b : Bool). after_record b len bytes (records_ahead n)) (le-leb len (length bytes) fits)
    ∙ ap (λ (k : ℕ). Ok (take len bytes) ∷ records_ahead k (drop len bytes)) same
    ∙ ap (λ (b : List ℕ). Ok (take len bytes) ∷ records_ahead m b) (sym r)

refused_by : (len : ℕ) (bytes : List ℕ) (go : List ℕ → List Answer) (fits : Bool) → nat_le len (length bytes) ≡ fits
    → length bytes < len → after_record fits len bytes go ≡ Err (first_refusal (nat_le 20 (length bytes))) ∷ []
refused_by len bytes go true e less = absurd (omega (arith, leb-true len (length bytes) e, less))
refused_by len bytes go false e less = refl

pub refusal_ahead : (n m : ℕ) (bytes : List ℕ) (refusal : RecordRefusal) → (n ≡ 0 → ⊥) → RefusesRecord bytes refusal
    → m ≡ 0 → records_ahead n bytes ≡ Err refusal ∷ records_ahead m bytes
unfolding records_ahead
refusal_ahead zero m bytes refusal some why e = absurd (some refl)
refusal_ahead (suc n) m bytes refusal some why e =
    let less = refused_len bytes refusal why in
    let told = fails_one (record_checks bytes) _ refusal (first_refused bytes less) why in
    refused_by (record_len_in bytes) bytes (records_ahead n) (nat_le (record_len_in bytes) (length bytes)) refl less
    ∙ ap (λ (r : RecordRefusal). Err r ∷ []) told
    ∙ ap (λ (l : List Answer). Err refusal ∷ l) (sym (none_ahead m bytes e))

-- ---- sources

length-sources : (n : ℕ) (bytes : List ℕ) → length (sources_ahead n bytes) ≡ n
unfolding sources_ahead
length-sources zero bytes = refl
length-sources (suc n) bytes = ap (λ (k : ℕ). suc k) (length-sources n (drop 16 bytes))

each_source : (n : ℕ) (bytes : List ℕ) → 16 * n ≤ length bytes
    → AllByRecursion (λ (source : List ℕ). length source ≡ 16) (sources_ahead n bytes)
unfolding sources_ahead
each_source zero bytes room = tt
each_source (suc n) bytes room = (
  length-take-le 16 bytes (omega (arith, room)),
  each_source n (drop 16 bytes) (omega (arith, room, length-drop 16 bytes)),
)

whole_sources : (n : ℕ) (bytes : List ℕ) → concat (sources_ahead n bytes) ≡ take (16 * n) bytes
unfolding sources_ahead
whole_sources zero bytes = refl
whole_sources (suc n) bytes =
    let more = ap (λ (l : List ℕ). take 16 bytes ++ l) (whole_sources n (drop 16 bytes)) in
    let count : 16 + 16 * n ≡ 16 * suc n = omega arith in
    more ∙ sym (take-add 16 (16 * n) bytes) ∙ ap (λ (k : ℕ). take k bytes) count

-- those of a given number of whole addresses at the front of some bytes
pub sources_of : (count n : ℕ) (bytes cut : List ℕ) → n ≡ min count (length bytes / 16) → cut ≡ take (16 * n) bytes
    → AreSources count bytes (sources_in cut)
sources_of count n bytes cut e c =
    let room : 16 * n ≤ length bytes = omega (arith, e) in
    let long : length cut ≡ 16 * n = ap (λ (l : List ℕ). length l) c ∙ length-take-le (16 * n) bytes room in
    let number : length cut / 16 ≡ n = omega (arith, long) in
    let sources : sources_in cut ≡ sources_ahead n cut = ap (λ (k : ℕ). sources_ahead k cut) number in
    let all : take (16 * n) cut ≡ cut = ap (λ (k : ℕ). take k cut) (sym long) ∙ take-length cut in
    rw sources (record {
      number = length-sources n cut ∙ e;
      each = each_source n cut (omega (arith, long));
      whole = whole_sources n cut ∙ all ∙ c ∙ ap (λ (k : ℕ). take (16 * k) bytes) (sym (length-sources n cut));
    })

-- what a call of `next` gives
pub source_ahead : (bytes rest : List ℕ) → 16 ≤ length bytes → rest ≡ drop 16 bytes
    → sources_in bytes ≡ take 16 bytes ∷ sources_in rest
unfolding sources_ahead
source_ahead bytes rest room e =
    let number : length bytes / 16 ≡ suc (length rest / 16) =
    omega (arith, room, ap (λ (l : List ℕ). length l) e, length-drop 16 bytes) in
    ap (λ (k : ℕ). sources_ahead k bytes) number
    ∙ ap (λ (l : List ℕ). take 16 bytes ∷ sources_ahead (length rest / 16) l) (sym e)

pub no_source_ahead : (bytes : List ℕ) → length bytes < 16 → sources_in bytes ≡ []
unfolding sources_ahead
no_source_ahead bytes few =
    let number : length bytes / 16 ≡ 0 = omega (arith, few) in
    ap (λ (k : ℕ). sources_ahead k bytes) number
