-- The objects of a structure in turn: they are what is computed, and that alone.
use Rattle.std.proofs.Common.{◌≡◌, ℕ, zero, suc, ◌-◌, ◌≤◌, Bool, true, false, List, [], ◌∷◌, length, take, drop}
use Rattle.std.proofs.Common.{Option, None, Some, Ok, Err, inl, inr, refl, sym, ap, subst, ◌∙◌, arith}
use Rattle.std.specs.Prelude.{nat_le}
use Rattle.std.proofs.lemmas.Bool.{leb-true, leb-false}
use Rattle.std.proofs.lemmas.List.{length-drop, take_all}
use Rattle.wirebase.specs.Bytes.{part, byte_of}
use Rattle.wirebase.specs.Checks.{Passes}
use Rattle.wirebase.proofs.Checks.{passes_fails, fails_one}
use Rattle.extension_wire.specs.declared.refusal.ObjectRefusal.{ObjectRefusal}
use Rattle.extension_wire.specs.Object.{ObjectValue, class_field, c_type_field, object_len_in, checks, Refuses}
use Rattle.extension_wire.specs.Object.{IsObject}
use Rattle.extension_wire.specs.Objects.{Answer, Tile}
use Rattle.extension_wire.specs.private.Objects.{verdict, refusal_in, object_in, answers_by, answers_up_to, answers_in}

-- ---- one object

-- what the checks say
abbrev Judges : List ℕ → Option ObjectRefusal → Type 0
Judges bytes (Some why) = Refuses bytes why
Judges bytes None = Passes (checks bytes)

judged : (bytes : List ℕ) (there counted whole : Bool) → nat_le 4 (length bytes) ≡ there
    → nat_le 4 (object_len_in bytes) ≡ counted → nat_le (object_len_in bytes) (length bytes) ≡ whole
    → Judges bytes (verdict there counted whole)
judged bytes false counted whole e f g =
    inl (λ long. absurd (omega (arith, leb-false 4 (length bytes) e, long)), refl)
judged bytes true false whole e f g =
    inr (
      leb-true 4 (length bytes) e,
      inl (λ long. absurd (omega (arith, leb-false 4 (object_len_in bytes) f, long)), refl),
    )
judged bytes true true false e f g =
    inr (
      leb-true 4 (length bytes) e,
      inr (
        leb-true 4 (object_len_in bytes) f,
        inl (λ fits. absurd (omega (arith, leb-false (object_len_in bytes) (length bytes) g, fits)), refl),
      ),
    )
judged bytes true true true e f g = (
  leb-true 4 (length bytes) e,
  (leb-true 4 (object_len_in bytes) f, (leb-true (object_len_in bytes) (length bytes) g, tt)),
)

pub object_of : (bytes : List ℕ) → Passes (checks bytes)
    → IsObject bytes (object_in bytes) (drop (object_len_in bytes) bytes)
object_of bytes passes =
    record { passes = passes; class_is = refl; c_type_is = refl; payload_is = refl; rest_is = refl }

object_with : ℕ → ℕ → List ℕ → ObjectValue
object_with class c_type payload = record { class = class; c_type = c_type; payload = payload }

pub object_one : (bytes : List ℕ) (v w : ObjectValue) (rest tail : List ℕ) → IsObject bytes v rest
    → IsObject bytes w tail → (v ≡ w) × (rest ≡ tail)
unfolding object_with
object_one bytes v w rest tail a b = (
  ap (λ (n : ℕ). object_with n v.c_type v.payload) (a.class_is ∙ sym b.class_is)
      ∙ ap (λ (n : ℕ). object_with w.class n v.payload) (a.c_type_is ∙ sym b.c_type_is)
      ∙ ap (λ (l : List ℕ). object_with w.class w.c_type l) (a.payload_is ∙ sym b.payload_is),
  a.rest_is ∙ sym b.rest_is,
)

-- ---- the tiling

tile_step : (most : ℕ) (bytes : List ℕ) (o : Option ObjectRefusal) → Judges bytes o → 1 ≤ length bytes
    → length bytes ≤ suc most
    → ((rest : List ℕ) → length rest ≤ most → Tile rest (answers_up_to most rest))
    → Tile bytes (answers_by o bytes (answers_up_to most))
tile_step most bytes (Some why) told some h go = (some, told, refl)
tile_step most bytes None passes some h go =
    let rest : List ℕ = drop (object_len_in bytes) bytes in (
      rest,
      object_of bytes passes,
      go rest (omega (arith, h, passes.1.0, length-drop (object_len_in bytes) bytes)),
    )

tile_within : (most : ℕ) (bytes : List ℕ) → length bytes ≤ most → Tile bytes (answers_up_to most bytes)
unfolding answers_up_to
tile_within zero [] h = refl
tile_within zero (x ∷ xs) h = absurd (omega (arith, h))
tile_within (suc most) [] h = refl
tile_within (suc most) (x ∷ xs) h =
    tile_step most (x ∷ xs) (refusal_in (x ∷ xs)) (judged (x ∷ xs) _ _ _ refl refl refl) (omega arith) h
    (λ rest less. tile_within most rest less)

pub tile_of : (bytes : List ℕ) → Tile bytes (answers_in bytes)
tile_of bytes = tile_within (length bytes) bytes (omega arith)

-- one list of answers tiles the bytes
pub tile_one : (bytes : List ℕ) (a b : List Answer) → Tile bytes a → Tile bytes b → a ≡ b
tile_one bytes [] [] t u = refl
tile_one bytes [] (Ok v ∷ b) t (rest, is, more) = absurd (omega (arith, ap (λ (l : List ℕ). length l) t, is.passes.0))
tile_one bytes [] (Err why ∷ b) t (some, told, last) = absurd (omega (arith, ap (λ (l : List ℕ). length l) t, some))
tile_one bytes (Ok v ∷ a) [] (rest, is, more) u = absurd (omega (arith, ap (λ (l : List ℕ). length l) u, is.passes.0))
tile_one bytes (Err why ∷ a) [] (some, told, last) u = absurd (omega (arith, ap (λ (l : List ℕ). length l) u, some))
tile_one bytes (Ok v ∷ a) (Err why ∷ b) (rest, is, more) (some, told, last) =
    absurd (passes_fails (checks bytes) is.passes why told)
tile_one bytes (Err why ∷ a) (Ok v ∷ b) (some, told, last) (rest, is, more) =
    absurd (passes_fails (checks bytes) is.passes why told)
tile_one bytes (Err why ∷ a) (Err also ∷ b) (some, told, last) (too, tells, end) =
    let one = fails_one (checks bytes) why also told tells in
    cc
tile_one bytes (Ok v ∷ a) (Ok w ∷ b) (rest, is, more) (tail, are, others) =
    let same = object_one bytes v w rest tail is are in
    let one = same.0 in
    let further = tile_one rest a b more (subst (λ (l : List ℕ). Tile l b) (sym same.1) others) in
    cc

-- ---- what a call of `next` gives

pub answers_none : answers_in [] ≡ []
answers_none = tile_one [] (answers_in []) [] (tile_of []) refl

pub answers_object : (bytes : List ℕ) (v : ObjectValue) (rest : List ℕ) → IsObject bytes v rest
    → answers_in bytes ≡ Ok v ∷ answers_in rest
answers_object bytes v rest is =
    tile_one bytes (answers_in bytes) (Ok v ∷ answers_in rest) (tile_of bytes) (rest, is, tile_of rest)

pub answers_refused : (bytes : List ℕ) (why : ObjectRefusal) → 1 ≤ length bytes → Refuses bytes why
    → answers_in bytes ≡ Err why ∷ answers_in []
answers_refused bytes why some told =
    tile_one bytes (answers_in bytes) (Err why ∷ []) (tile_of bytes) (some, told, refl)
    ∙ ap (λ (l : List Answer). Err why ∷ l) (sym answers_none)

-- ---- what is read

-- the object by its length, and what is behind it
pub object_by : (bytes : List ℕ) (n class c_type : ℕ) → 4 ≤ length bytes → n ≡ object_len_in bytes → 4 ≤ n
    → n ≤ length bytes → class ≡ byte_of class_field bytes → c_type ≡ byte_of c_type_field bytes
    → IsObject bytes (record { class = class; c_type = c_type; payload = take (n - 4) (drop 4 bytes) })
    (take (length bytes - n) (drop n bytes))
unfolding part
object_by bytes n class c_type there is counted whole one two =
    record {
      passes = (there, (omega (arith, is, counted), (omega (arith, is, whole), tt)));
      class_is = one;
      c_type_is = two;
      payload_is = ap (λ (k : ℕ). take (k - 4) (drop 4 bytes)) is;
      rest_is =
          take_all (length bytes - n) (drop n bytes) (omega (arith, length-drop n bytes))
          ∙ ap (λ (k : ℕ). drop k bytes) is;
    }
