-- The entries of a stack of labels: what is read in their texts, and in turn.
use Rattle.std.proofs.Common.{◌≡◌, ◌↔◌, ℕ, zero, suc, ◌+◌, ◌*◌, ◌/◌, ◌%◌, ◌-◌, ◌≤◌, ◌<◌, ◌^◌, ◌==◌, Bool, true, false}
use Rattle.std.proofs.Common.{IsTrue, List, [], ◌∷◌, length, take, drop, refl, sym, ap, subst, ◌∙◌, arith}
use Rattle.std.proofs.Common.{Some, ◌++◌, length-append}
use Rattle.std.specs.List.{AllByRecursion}
use Rattle.std.specs.Prelude.{if◌then◌else◌}
use Rattle.std.specs.Iterator.{MakesProgress, at_most}
use Rattle.std.proofs.lemmas.Bool.{eqb-true, eqb-false}
use Rattle.std.proofs.lemmas.List.{length-drop, length-take-le, take-append-drop, take_at, drop_at}
use Rattle.byteorder.specs.Endian.{big_number}
use Rattle.byteorder.specs.Numbers.{big_number-reads_back}
use Rattle.wirebase.specs.Bytes.{IsBytes, part, over}
use Rattle.wirebase.specs.ByteWriter.{be32, fields}
use Rattle.wirebase.proofs.Format.{IsFormat, round_trips}
use Rattle.wirebase.proofs.Pieces.{part-whole, over-exact}
use Rattle.wirebase.proofs.ByteParts.{IsBytes-drop, IsBytes-front}
use Rattle.wirebase.proofs.WideParts.{number_of-small4}
use Rattle.wirebase.proofs.Parses.{same_flag}
use Rattle.extension_wire.specs.declared.mpls.LabelEntry.{LabelEntry}
use Rattle.extension_wire.specs.Mpls.{IsCanonical, stack_text, EmitsAll, entry_number, text, IsEntry, Fits, format}
use Rattle.extension_wire.specs.Mpls.{Emits, AreEntries}
use Rattle.extension_wire.specs.private.Mpls.{entry_of, entries_ahead, entries_in}

-- ---- one entry

entry_with : ℕ → ℕ → Bool → ℕ → LabelEntry
entry_with label class bottom ttl = record { label = label; traffic_class = class; bottom = bottom; ttl = ttl }

pub entry_one : (bytes : List ℕ) (e d : LabelEntry) → IsEntry bytes e → IsEntry bytes d → e ≡ d
unfolding entry_with
entry_one bytes e d a b =
    ap (λ (n : ℕ). entry_with n e.traffic_class e.bottom e.ttl) (a.label_is ∙ sym b.label_is)
    ∙ ap (λ (n : ℕ). entry_with d.label n e.bottom e.ttl) (a.traffic_class_is ∙ sym b.traffic_class_is)
    ∙ ap (λ (f : Bool). entry_with d.label d.traffic_class f e.ttl)
    (same_flag e.bottom d.bottom _ a.bottom_is b.bottom_is)
    ∙ ap (λ (n : ℕ). entry_with d.label d.traffic_class d.bottom n) (a.ttl_is ∙ sym b.ttl_is)

flag_of : (n : ℕ) (b : Bool) → (n == 1) ≡ b → IsTrue b ↔ (n ≡ 1)
flag_of n true e = (λ yes. eqb-true n 1 e, λ one. refl)
flag_of n false e = (λ no. cc, λ one. absurd (eqb-false n 1 e one))

pub entry_is : (bytes : List ℕ) → length bytes ≡ 4 → IsEntry bytes (entry_of (big_number 4 bytes))
entry_is bytes whole = record {
  whole = whole;
  label_is = refl;
  traffic_class_is = refl;
  bottom_is = flag_of (big_number 4 bytes / 0x100 % 2) _ refl;
  ttl_is = refl;
}

-- an entry that was written
bits_read : (label class ttl : ℕ) (bottom : Bool) → class < 8 → ttl < 256
    → let n : ℕ = label * 0x1000 + class * 0x200 + (if bottom then 0x100 else 0) + ttl in
    (label ≡ n / 0x1000) × (class ≡ n / 0x200 % 8) × (IsTrue bottom ↔ (n / 0x100 % 2 ≡ 1)) × (ttl ≡ n % 0x100)
bits_read label class ttl true few small =
    (omega arith, omega arith, (λ yes. omega arith, λ one. refl), omega arith)
bits_read label class ttl false few small =
    (omega arith, omega arith, (λ no. cc, λ one. absurd (omega arith)), omega arith)

number_small : (label class ttl : ℕ) (bottom : Bool) → label < 2 ^ 20 → class < 8 → ttl < 256
    → label * 0x1000 + class * 0x200 + (if bottom then 0x100 else 0) + ttl < 2 ^ 32
number_small label class ttl true l c t = omega arith
number_small label class ttl false l c t = omega arith

pub entry_read : (e : LabelEntry) → Fits e → e.ttl < 256 → IsEntry (text e) e
unfolding be32 fields
entry_read e fits small =
    let n : ℕ = entry_number e in
    let fits32 = number_small e.label e.traffic_class e.ttl e.bottom fits.label fits.traffic_class small in
    let number : big_number 4 (text e) ≡ n = big_number-reads_back 4 n [] (omega (arith, fits32)) in
    let bits = bits_read e.label e.traffic_class e.ttl e.bottom fits.traffic_class small in
    record {
      whole = refl;
      label_is = bits.0 ∙ ap (λ (k : ℕ). k / 0x1000) (sym number);
      traffic_class_is = bits.1 ∙ ap (λ (k : ℕ). k / 0x200 % 8) (sym number);
      bottom_is = subst (λ (k : ℕ). IsTrue e.bottom ↔ (k / 0x100 % 2 ≡ 1)) (sym number) bits.2;
      ttl_is = bits.3 ∙ ap (λ (k : ℕ). k % 0x100) (sym number);
    }

entry_small : (bytes : List ℕ) → length bytes ≡ 4 → IsBytes bytes → big_number 4 bytes < 2 ^ 32
entry_small bytes whole are =
    subst (λ (l : List ℕ). big_number 4 l < 2 ^ 32) (part-whole bytes 4 (sym whole))
    (number_of-small4 0 4 bytes refl are)

entry_canonical : (bytes : List ℕ) (e : LabelEntry) → IsBytes bytes → IsEntry bytes e → IsCanonical e
entry_canonical bytes e are m = (
  record {
    label = omega (arith, m.label_is, entry_small bytes m.whole are);
    traffic_class = omega (arith, m.traffic_class_is);
  },
  omega (arith, m.ttl_is),
)

pub entry_format : IsFormat format
entry_format = record {
  one_value = entry_one;
  reads_back = λ e fills c. entry_read e c.0 c.1;
  norm_canonical = λ e c. c;
  norm_norm = λ e. refl;
  norm_text = λ e c regular. refl;
  accepted = λ bytes e are few m. entry_canonical bytes e are m;
  regular = λ bytes e m x. x;
  kept = λ bytes e are c m uncut. refl;
}

pub length-text : (e : LabelEntry) → length (text e) ≡ 4
unfolding be32 fields
length-text e = refl

-- what is left where an entry was written
pub entry_emits : (e : LabelEntry) (old new : List ℕ) → new ≡ over old (text e) → Emits e old new
entry_emits e old new written =
    record {
      written = written;
      exact = λ long. written ∙ over-exact old (text e) (long ∙ sym (length-text e));
      round_trips = round_trips format entry_format e;
    }

-- an entry by its number
pub entry_by : (bytes : List ℕ) (n : ℕ) → length bytes ≡ 4 → n ≡ big_number 4 (part bytes 0 4)
    → IsEntry bytes (entry_of n)
entry_by bytes n whole is =
    let number : n ≡ big_number 4 bytes =
    is ∙ ap (λ (l : List ℕ). big_number 4 l) (part-whole bytes 4 (sym whole)) in
    subst (λ (k : ℕ). IsEntry bytes (entry_of k)) (sym number) (entry_is bytes whole)

-- ---- in turn

pub entries_of : (n : ℕ) (bytes : List ℕ) → length bytes / 4 ≡ n → AreEntries bytes (entries_ahead n bytes)
unfolding entries_ahead
entries_of zero bytes e = omega (arith, e)
entries_of (suc n) bytes e = (
  entry_is (take 4 bytes) (length-take-le 4 bytes (omega (arith, e))),
  entries_of n (drop 4 bytes) (omega (arith, e, length-drop 4 bytes)),
)

pub no_entry_ahead : (bytes : List ℕ) → length bytes < 4 → entries_in bytes ≡ []
unfolding entries_ahead
no_entry_ahead bytes few =
    let none : length bytes / 4 ≡ 0 = omega (arith, few) in
    ap (λ (n : ℕ). entries_ahead n bytes) none

pub entry_ahead : (bytes rest : List ℕ) (e : LabelEntry) → 4 ≤ length bytes → rest ≡ drop 4 bytes
    → IsEntry (take 4 bytes) e → entries_in bytes ≡ e ∷ entries_in rest
unfolding entries_ahead
entry_ahead bytes rest e room is_rest is =
    let shorter : length rest ≡ length bytes - 4 = ap (λ (l : List ℕ). length l) is_rest ∙ length-drop 4 bytes in
    let number : length bytes / 4 ≡ suc (length rest / 4) = omega (arith, shorter, room) in
    let same = entry_one (take 4 bytes) _ e (entry_is (take 4 bytes) (length-take-le 4 bytes room)) is in
    ap (λ (n : ℕ). entries_ahead n bytes) number
    ∙ ap (λ (d : LabelEntry). d ∷ entries_ahead (length rest / 4) (drop 4 bytes)) same
    ∙ ap (λ (l : List ℕ). e ∷ entries_ahead (length rest / 4) l) (sym is_rest)

-- an entry that is taken off leaves fewer
pub entry_progress : (old new : List LabelEntry) (e : LabelEntry) → old ≡ e ∷ new
    → MakesProgress {S = List LabelEntry} {A = LabelEntry} (λ _. Unit {0}) (λ entries. at_most (length entries)) old
    (Some e) new
entry_progress old new e is =
    let fewer : length new < length old = omega (arith, ap length is) in
    record { on = λ _. (tt, tt, fewer); keeps = tt; rests = λ _. tt }

-- what was read can be written
pub entries_fit : (bytes : List ℕ) (entries : List LabelEntry) → IsBytes bytes → AreEntries bytes entries
    → AllByRecursion IsCanonical entries
entries_fit bytes [] are m = tt
entries_fit bytes (e ∷ entries) are m =
    let front : IsBytes (take 4 bytes) =
    IsBytes-front (take 4 bytes) (drop 4 bytes) (subst IsBytes (sym (take-append-drop 4 bytes)) are) in
    (entry_canonical (take 4 bytes) e front m.0, entries_fit (drop 4 bytes) entries (IsBytes-drop 4 bytes are) m.1)

-- ---- a stack that was written

text-shape : (e : LabelEntry) (rest : List ℕ) → (take 4 (text e ++ rest) ≡ text e) × (drop 4 (text e ++ rest) ≡ rest)
text-shape e rest = (take_at (text e) rest 4 (length-text e), drop_at (text e) rest 4 (length-text e))

pub stack_read : (entries : List LabelEntry) → AllByRecursion IsCanonical entries
    → AreEntries (stack_text entries) entries
unfolding fields
stack_read [] all = omega arith
stack_read (e ∷ entries) all =
    let shape = text-shape e (stack_text entries) in (
      subst (λ (l : List ℕ). IsEntry l e) (sym shape.0) (entry_read e all.0.0 all.0.1),
      subst (λ (l : List ℕ). AreEntries l entries) (sym shape.1) (stack_read entries all.1),
    )

length-stack : (entries : List LabelEntry) → length (stack_text entries) ≡ 4 * length entries
unfolding fields
length-stack [] = refl
length-stack (e ∷ entries) =
    omega (arith, length-append (text e) (stack_text entries), length-text e, length-stack entries)

pub stack_emits : (entries : List LabelEntry) (old new : List ℕ) → new ≡ over old (stack_text entries)
    → EmitsAll entries old new
stack_emits entries old new written =
    record {
      written = written;
      exact = λ long. written ∙ over-exact old (stack_text entries) (long ∙ sym (length-stack entries));
      reads_back = stack_read entries;
    }
