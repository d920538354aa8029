-- The format of objects: what is read in their texts, and what was read.
use Rattle.std.proofs.Common.{◌≡◌, ℕ, ◌+◌, ◌-◌, List, [], ◌∷◌, ◌++◌, length, take, drop, refl, sym, ap}
use Rattle.std.proofs.Common.{◌∙◌, subst, arith, length-append}
use Rattle.std.proofs.lemmas.List.{append-nil, take_at, drop_at}
use Rattle.byteorder.specs.Endian.{big_bytes}
use Rattle.byteorder.specs.Numbers.{big_number-reads_back}
use Rattle.wirebase.specs.Bytes.{IsBytes, part, over}
use Rattle.wirebase.specs.ByteWriter.{be8, be16, fields}
use Rattle.wirebase.specs.Format.{Rewrites}
use Rattle.wirebase.proofs.ByteParts.{number_of-small}
use Rattle.wirebase.proofs.Format.{IsFormat, round_trips}
use Rattle.wirebase.proofs.Pieces.{length-part, over-exact}
use Rattle.extension_wire.specs.Object.{ObjectValue, text_len, text, object_len_in, IsObject, IsCanonical, format}
use Rattle.extension_wire.specs.Object.{Emits}
use Rattle.extension_wire.proofs.ObjectsAhead.{object_one}

pub text-shape : (v : ObjectValue) → text v ≡ big_bytes 2 (text_len v) ++ v.class ∷ v.c_type ∷ v.payload
unfolding fields be8 be16
text-shape v =
    ap (λ (l : List ℕ). big_bytes 2 (text_len v) ++ v.class ∷ v.c_type ∷ l) (append-nil v.payload)

pub length-text : (v : ObjectValue) → length (text v) ≡ text_len v
length-text v = ap (λ (l : List ℕ). length l) (text-shape v) ∙ omega arith

-- an object, and what follows its text
pub object_read : (v : ObjectValue) (rest : List ℕ) → IsCanonical v
    → IsObject (big_bytes 2 (text_len v) ++ v.class ∷ v.c_type ∷ (v.payload ++ rest)) v rest
unfolding part
object_read v rest c =
    let bytes : List ℕ = big_bytes 2 (text_len v) ++ v.class ∷ v.c_type ∷ (v.payload ++ rest) in
    let number : object_len_in bytes ≡ text_len v =
    big_number-reads_back 2 (text_len v) [] (omega (arith, c.len)) in
    let long : length bytes ≡ text_len v + length rest = omega (arith, length-append v.payload rest) in
    record {
      passes = (omega (arith, long), (omega (arith, number), (omega (arith, number, long), tt)));
      class_is = refl;
      c_type_is = refl;
      payload_is =
          sym (ap (λ (n : ℕ). take (n - 4) (v.payload ++ rest)) number
          ∙ take_at v.payload rest (text_len v - 4) (omega arith));
      rest_is =
          sym (ap (λ (n : ℕ). drop n bytes) number
          ∙ drop_at (big_bytes 2 (text_len v) ++ v.class ∷ v.c_type ∷ v.payload) rest (text_len v) (omega arith));
    }

pub text_read : (v : ObjectValue) → IsCanonical v → IsObject (text v) v []
text_read v c =
    subst (λ (l : List ℕ). IsObject l v [])
    (ap (λ (l : List ℕ). big_bytes 2 (text_len v) ++ v.class ∷ v.c_type ∷ l) (append-nil v.payload)
    ∙ sym (text-shape v))
    (object_read v [] c)

pub object_canonical : (bytes : List ℕ) (v : ObjectValue) (rest : List ℕ) → IsBytes bytes → IsObject bytes v rest
    → IsCanonical v
object_canonical bytes v rest are is =
    let n : ℕ = object_len_in bytes in
    let long : length v.payload ≡ n - 4 =
    ap (λ (l : List ℕ). length l) is.payload_is ∙ length-part bytes 4 n is.passes.1.0 is.passes.1.1.0 in
    record {
      len = omega (arith, long, is.passes.1.0, number_of-small 0 2 bytes refl are);
      class = omega (arith, is.class_is, are 2);
      c_type = omega (arith, is.c_type_is, are 3);
    }

pub object_format : IsFormat format
object_format = record {
  one_value = λ bytes v w a b. (object_one bytes v w a.0 b.0 a.1 b.1).0;
  reads_back = λ v fills c. ([], text_read v c);
  norm_canonical = λ v c. c;
  norm_norm = λ v. refl;
  norm_text = λ v c regular. refl;
  accepted = λ bytes v are few m. object_canonical bytes v m.0 are m.1;
  regular = λ bytes v m e. e;
  kept = λ bytes v are c m uncut. refl;
}

-- what is left where an object was written
pub object_emits : (v : ObjectValue) (old new : List ℕ) → new ≡ over old (text v) → Emits v old new
object_emits v old new written =
    record {
      written = written;
      exact = λ long. written ∙ over-exact old (text v) (long ∙ sym (length-text v));
      round_trips = round_trips format object_format v;
    }

-- what was read can be written, and read again
pub object_rewrites : (bytes : List ℕ) (v : ObjectValue) (rest : List ℕ) → IsBytes bytes → IsObject bytes v rest
    → Rewrites format v
object_rewrites bytes v rest are is =
    let c = object_canonical bytes v rest are is in
    record {
      canonical = c;
      regular = λ e. e;
      reads_back = λ fills. ([], text_read v c);
      same_text = refl;
      same_value = λ uncut. refl;
    }
