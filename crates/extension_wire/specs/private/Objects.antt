-- The objects as they are computed, which the iterator's model needs.
use Rattle.std.specs.Prelude.{ℕ, zero, suc, nat_le, Bool, true, false, List, [], ◌∷◌, length, drop, Option, None, Some}
use Rattle.std.specs.Prelude.{Ok, Err}
use Rattle.wirebase.specs.Bytes.{part, byte_of}
use Rattle.extension_wire.specs.declared.refusal.ObjectRefusal.{ObjectRefusal}
use Rattle.extension_wire.specs.Object.{ObjectValue, class_field, c_type_field, object_len_in}
use Rattle.extension_wire.specs.Objects.{Answer}

-- why no object begins here, by what the checks say, and the object where one does
abbrev pub verdict : Bool → Bool → Bool → Option ObjectRefusal
verdict false counted whole = Some ObjectRefusal.Short
verdict true false whole = Some ObjectRefusal.Length
verdict true true false = Some ObjectRefusal.Cut
verdict true true true = None

abbrev pub refusal_in : List ℕ → Option ObjectRefusal
refusal_in bytes =
    verdict (nat_le 4 (length bytes)) (nat_le 4 (object_len_in bytes)) (nat_le (object_len_in bytes) (length bytes))

abbrev pub object_in : List ℕ → ObjectValue
object_in bytes =
    record {
      class = byte_of class_field bytes;
      c_type = byte_of c_type_field bytes;
      payload = part bytes 4 (object_len_in bytes);
    }

abbrev pub answers_by : Option ObjectRefusal → List ℕ → (List ℕ → List Answer) → List Answer
answers_by (Some why) bytes go = Err why ∷ []
answers_by None bytes go = Ok (object_in bytes) ∷ go (drop (object_len_in bytes) bytes)

-- at most this many
unfoldable pub answers_up_to : ℕ → List ℕ → List Answer
answers_up_to zero bytes = []
answers_up_to (suc most) [] = []
answers_up_to (suc most) (x ∷ xs) = answers_by (refusal_in (x ∷ xs)) (x ∷ xs) (answers_up_to most)

-- each takes a byte at least
abbrev pub answers_in : List ℕ → List Answer
answers_in bytes = answers_up_to (length bytes) bytes
