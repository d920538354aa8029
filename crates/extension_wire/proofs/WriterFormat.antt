-- What an error with extensions has behind its header: what is read in its text.
use Rattle.std.proofs.Common.{◌≡◌, ℕ, zero, suc, ◌+◌, ◌-◌, ◌*◌, ◌/◌, ◌≤◌, Bool, true, false, List, [], ◌∷◌, ◌++◌}
use Rattle.std.proofs.Common.{length, drop, map, replicate, Some, Ok, inr, refl, sym, ap, subst, ◌∙◌, arith}
use Rattle.std.proofs.Common.{length-append}
use Rattle.std.specs.Prelude.{nat_lt, if◌then◌else◌}
use Rattle.std.specs.List.{AllByRecursion}
use Rattle.std.proofs.lemmas.Bool.{ltb-true, ltb-false}
use Rattle.std.proofs.lemmas.List.{append-nil, append_assoc, take_at, drop_at, length-replicate}
use Rattle.std.proofs.lemmas.List.Sums.{sum_by-cons}
use Rattle.wirebase.specs.Bytes.{over, splice}
use Rattle.wirebase.specs.ByteWriter.{be8, be16, fields}
use Rattle.wirebase.specs.Checksum.{IsGood, sealed}
use Rattle.wirebase.proofs.ChecksumSeals.{IsGood-sealed}
use Rattle.wirebase.proofs.Pieces.{over-exact}
use Rattle.extension_wire.specs.declared.family.Family.{Family}
use Rattle.extension_wire.specs.Object as object
use Rattle.extension_wire.specs.Object.{ObjectValue, IsObject}
use Rattle.extension_wire.specs.Objects.{Tile}
use Rattle.extension_wire.specs.Split.{unit, some_of, IsSplit}
use Rattle.extension_wire.specs.Structure.{version_in, checksum_field, IsStructure}
use Rattle.extension_wire.specs.Writer.{DataValue, quoted_words, padded_len, padded, objects_len, objects_text}
use Rattle.extension_wire.specs.Writer.{structure_fields, structure_text, text, text_len, ReadsBack, Emits}
use Rattle.extension_wire.proofs.ObjectFormat.{text-shape, length-text, object_read}

-- ---- the structure

pub length-objects : (objects : List ObjectValue) → length (objects_text objects) ≡ objects_len objects
unfolding fields
length-objects [] = refl
length-objects (o ∷ objects) =
    omega (
      arith,
      length-append (object.text o) (objects_text objects),
      length-text o,
      length-objects objects,
      sum_by-cons object.text_len o objects,
    )

fields-plain : (objects : List ObjectValue)
    → fields (structure_fields objects) ≡ 0x20 ∷ 0 ∷ 0 ∷ 0 ∷ objects_text objects
unfolding fields be8 be16
fields-plain objects = refl

pub length-fields : (objects : List ObjectValue)
    → length (fields (structure_fields objects)) ≡ 4 + objects_len objects
length-fields objects =
    omega (arith, ap (λ (l : List ℕ). length l) (fields-plain objects), length-objects objects)

plain_sealed : (rest : List ℕ)
    → (a : ℕ) × (b : ℕ) × (sealed checksum_field (0x20 ∷ 0 ∷ 0 ∷ 0 ∷ rest) 0 ≡ 0x20 ∷ 0 ∷ a ∷ b ∷ rest)
unfolding sealed splice
plain_sealed rest = (_, _, refl)

structure_shape : (objects : List ObjectValue)
    → (a : ℕ) × (b : ℕ) × (structure_text objects ≡ 0x20 ∷ 0 ∷ a ∷ b ∷ objects_text objects)
structure_shape objects =
    let shape = plain_sealed (objects_text objects) in
    (shape.0, shape.1, ap (λ (l : List ℕ). sealed checksum_field l 0) (fields-plain objects) ∙ shape.2)

pub length-structure : (objects : List ObjectValue) → length (structure_text objects) ≡ 4 + objects_len objects
length-structure objects =
    let shape = structure_shape objects in
    omega (arith, ap (λ (l : List ℕ). length l) shape.2, length-objects objects)

pub structure_read : (objects : List ObjectValue) → IsStructure (structure_text objects) (objects_text objects)
structure_read objects =
    let shape = structure_shape objects in
    let bytes : List ℕ = structure_text objects in
    let plain : List ℕ = fields (structure_fields objects) in
    let good : IsGood bytes 0 = IsGood-sealed checksum_field plain 0 refl (omega (arith, length-fields objects)) refl in
    record {
      passes = (
        omega (arith, length-structure objects),
        (ap (λ (l : List ℕ). version_in l) shape.2, (inr good, tt)),
      );
      objects_are = sym (ap (λ (l : List ℕ). drop 4 l) shape.2);
    }

-- ---- the objects

object_first : (o : ObjectValue) (rest : List ℕ) → object.IsCanonical o → IsObject (object.text o ++ rest) o rest
object_first o rest c =
    subst (λ (l : List ℕ). IsObject l o rest) (ap (λ (l : List ℕ). l ++ rest) (sym (text-shape o)))
    (object_read o rest c)

pub tile_objects : (objects : List ObjectValue) → AllByRecursion object.IsCanonical objects
    → Tile (objects_text objects) (map Ok objects)
unfolding fields
tile_objects [] all = refl
tile_objects (o ∷ objects) all =
    (objects_text objects, object_first o (objects_text objects) all.0, tile_objects objects all.1)

-- ---- the parts

split_by : (f : Family) (n : ℕ) (front rest : List ℕ) → length front ≡ unit f * n → 128 ≤ unit f * n → 1 ≤ length rest
    → IsSplit f n (front ++ rest) (record { quoted = front; extensions = Some rest })
split_by Family.V4 zero front rest long enough some = absurd (omega (arith, enough))
split_by Family.V6 zero front rest long enough some = absurd (omega (arith, enough))
split_by f (suc n) front [] long enough some = absurd (omega (arith, some))
split_by f (suc n) front (x ∷ rest) long enough some =
    record {
      passes = (enough, (omega (arith, length-append front (x ∷ rest), long), tt));
      quoted_is = sym (take_at front (x ∷ rest) (unit f * suc n) long);
      extensions_are = sym (ap some_of (drop_at front (x ∷ rest) (unit f * suc n) long));
    }

words_enough : (f : Family) (m : ℕ) → m ≤ unit f * ((m + unit f - 1) / unit f)
words_enough Family.V4 m = omega arith
words_enough Family.V6 m = omega arith

least_enough : (n : ℕ) (b : Bool) → nat_lt n 128 ≡ b
    → (n ≤ (if b then 128 else n)) × (128 ≤ (if b then 128 else n))
least_enough n true e = (omega (arith, ltb-true n 128 e), omega arith)
least_enough n false e = (omega arith, omega (arith, ltb-false n 128 e))

pub padded_enough : (f : Family) (n : ℕ) → (n ≤ padded_len f n) × (128 ≤ padded_len f n)
padded_enough f n =
    let least = least_enough n (nat_lt n 128) refl in
    let words = words_enough f (if nat_lt n 128 then 128 else n) in
    (omega (arith, least.0, words), omega (arith, least.1, words))

length-padded : (f : Family) (quoted : List ℕ) → length (padded f quoted) ≡ padded_len f (length quoted)
length-padded f quoted =
    let count : ℕ = padded_len f (length quoted) - length quoted in
    omega (
      arith,
      length-append quoted (replicate count 0),
      length-replicate {A = ℕ} count 0,
      (padded_enough f (length quoted)).0,
    )

text-parts : (v : DataValue) → text v ≡ padded v.family v.quoted ++ structure_text v.objects
unfolding fields
text-parts v =
    let structure : List ℕ = structure_text v.objects in
    let pad : List ℕ = replicate (padded_len v.family (length v.quoted) - length v.quoted) 0 in
    ap (λ (l : List ℕ). v.quoted ++ (pad ++ l)) (append-nil structure)
    ∙ sym (append_assoc v.quoted pad structure)

length-data : (v : DataValue) → length (text v) ≡ text_len v
length-data v =
    omega (
      arith,
      ap (λ (l : List ℕ). length l) (text-parts v),
      length-append (padded v.family v.quoted) (structure_text v.objects),
      length-padded v.family v.quoted,
      length-structure v.objects,
    )

pub data_read : (v : DataValue) → ReadsBack v
data_read v =
    let structure : List ℕ = structure_text v.objects in
    let front : List ℕ = padded v.family v.quoted in
    record {
      splits =
          subst (λ (l : List ℕ). IsSplit v.family (quoted_words v.family (length v.quoted)) l
          (record { quoted = front; extensions = Some structure })) (sym (text-parts v))
          (split_by v.family (quoted_words v.family (length v.quoted)) front structure
          (length-padded v.family v.quoted) (padded_enough v.family (length v.quoted)).1
          (omega (arith, length-structure v.objects)));
      structure = structure_read v.objects;
      objects = tile_objects v.objects;
    }

-- what is left where it was written
pub data_emits : (v : DataValue) (old new : List ℕ) → new ≡ over old (text v) → Emits v old new
data_emits v old new written =
    record {
      written = written;
      exact = λ long. written ∙ over-exact old (text v) (long ∙ sym (length-data v));
      reads_back = data_read v;
    }
