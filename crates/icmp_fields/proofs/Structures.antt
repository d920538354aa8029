-- Why structures and objects are refused, from the checks of their readers.
use Rattle.std.proofs.Common.{◌≡◌, ◌≤◌, ◌+◌, ◌==◌, ◌∙◌, Bool, List, None, OnOk, Result, Some, ℕ, ap, arith, drop}
use Rattle.std.proofs.Common.{false, inl, inr, length, refl, subst, sym, true}
use Rattle.std.proofs.lemmas.Bool.{eq-eqb, le-ltb, lt-ltb, ne_eqb}
use Rattle.std.proofs.lemmas.List.{length-drop}
use Rattle.std.specs.Prelude.{Option, if◌then◌else◌}
use Rattle.wirebase.specs.Bytes.{number_of}
use Rattle.wirebase.specs.Checks.{Fails, Passes}
use Rattle.wirebase.specs.Checksum.{IsGood, fold, word_sum}
use Rattle.wirebase.proofs.Pieces.{length-part}
use Rattle.extension_wire.specs.Object as object
use Rattle.extension_wire.specs.Object.{IsObject, ObjectValue, object_len_in}
use Rattle.extension_wire.specs.Structure as structure
use Rattle.extension_wire.specs.Structure.{checksum_field, version_in}
use Rattle.extension_wire.specs.declared.refusal.ObjectRefusal.{ObjectRefusal}
use Rattle.extension_wire.specs.declared.refusal.StructureRefusal.{StructureRefusal}
use Rattle.packet_fields.specs.Prints.{Prints}
use Rattle.packet_fields.specs.declared.form.Form.{Form}
use Rattle.icmp_fields.specs.ExtendedEcho.{named_or_refused, object_in, object_or_refused, object_refusal}
use Rattle.icmp_fields.specs.ExtendedEcho.{structure_refusal, wrong_object}
use Rattle.icmp_fields.specs.Extensions.{header_checks}

either : (b : Bool) (o : Option StructureRefusal) → (if b then o else o) ≡ o
either true o = refl
either false o = refl

good_sum : (bytes : List ℕ) → IsGood bytes 0 → fold (word_sum bytes) ≡ 65535
good_sum bytes good =
    let same : word_sum bytes ≡ word_sum bytes + 0 = omega arith in ap (λ (n : ℕ). fold n) same ∙ good

sum_good : (bytes : List ℕ) → fold (word_sum bytes) ≡ 65535 → IsGood bytes 0
sum_good bytes good =
    let same : word_sum bytes + 0 ≡ word_sum bytes = omega arith in ap (λ (n : ℕ). fold n) same ∙ good

structure_wrong : (bytes : List ℕ) (why : StructureRefusal) → structure.Refuses bytes why
    → structure_refusal true bytes ≡ Some why
structure_wrong bytes why (inl (short, is)) =
    rw (lt-ltb (length bytes) 4 (omega (arith, short))) (ap (λ (w : StructureRefusal). Some w) (sym is))
structure_wrong bytes why (inr (long, inl (other, is))) =
    rw (le-ltb (length bytes) 4 long, ne_eqb (version_in bytes) 2 other)
    (ap (λ (w : StructureRefusal). Some w) (sym is))
structure_wrong bytes why (inr (long, inr (two, inl (wrong, is)))) =
    rw (
      le-ltb (length bytes) 4 long,
      eq-eqb (version_in bytes) 2 two,
      ne_eqb (number_of checksum_field bytes) 0 (λ none. wrong (inl none)),
      ne_eqb (fold (word_sum bytes)) 65535 (λ good. wrong (inr (sum_good bytes good))),
    )
    (ap (λ (w : StructureRefusal). Some w) (sym is))
structure_wrong bytes why (inr (long, inr (two, inr (right, never)))) = absurd never

structure_right : (bytes : List ℕ) → Passes (structure.checks bytes) → structure_refusal true bytes ≡ None
structure_right bytes (long, (two, (inl none, u))) =
    rw (le-ltb (length bytes) 4 long, eq-eqb (version_in bytes) 2 two, eq-eqb (number_of checksum_field bytes) 0 none)
    refl
structure_right bytes (long, (two, (inr good, u))) =
    rw (
      le-ltb (length bytes) 4 long,
      eq-eqb (version_in bytes) 2 two,
      eq-eqb (fold (word_sum bytes)) 65535 (good_sum bytes good),
    )
    (either (number_of checksum_field bytes == 0) None)

pub header_wrong : (is_whole : Bool) (bytes : List ℕ) (why : StructureRefusal)
    → Fails (header_checks is_whole bytes) why → structure_refusal is_whole bytes ≡ Some why
header_wrong true bytes why fails = structure_wrong bytes why fails
header_wrong false bytes why (inl (short, is)) =
    rw (lt-ltb (length bytes) 4 (omega (arith, short))) (ap (λ (w : StructureRefusal). Some w) (sym is))
header_wrong false bytes why (inr (long, inl (other, is))) =
    rw (le-ltb (length bytes) 4 long, ne_eqb (version_in bytes) 2 other)
    (ap (λ (w : StructureRefusal). Some w) (sym is))
header_wrong false bytes why (inr (long, inr (two, never))) = absurd never

pub header_right : (is_whole : Bool) (bytes : List ℕ) → Passes (header_checks is_whole bytes)
    → structure_refusal is_whole bytes ≡ None
header_right true bytes passes = structure_right bytes passes
header_right false bytes (long, (two, u)) =
    rw (le-ltb (length bytes) 4 long, eq-eqb (version_in bytes) 2 two) refl

pub object_wrong : (bytes : List ℕ) (why : ObjectRefusal) → object.Refuses bytes why → object_refusal bytes ≡ Some why
object_wrong bytes why (inl (short, is)) =
    rw (lt-ltb (length bytes) 4 (omega (arith, short))) (ap (λ (w : ObjectRefusal). Some w) (sym is))
object_wrong bytes why (inr (long, inl (small, is))) =
    rw (le-ltb (length bytes) 4 long, lt-ltb (object_len_in bytes) 4 (omega (arith, small)))
    (ap (λ (w : ObjectRefusal). Some w) (sym is))
object_wrong bytes why (inr (long, inr (counted, inl (cut, is)))) =
    rw (
      le-ltb (length bytes) 4 long,
      le-ltb (object_len_in bytes) 4 counted,
      lt-ltb (length bytes) (object_len_in bytes) (omega (arith, cut)),
    )
    (ap (λ (w : ObjectRefusal). Some w) (sym is))
object_wrong bytes why (inr (long, inr (counted, inr (whole, never)))) = absurd never

object_right : (bytes : List ℕ) → Passes (object.checks bytes) → object_refusal bytes ≡ None
object_right bytes (long, (counted, (whole, u))) =
    rw (
      le-ltb (length bytes) 4 long,
      le-ltb (object_len_in bytes) 4 counted,
      le-ltb (length bytes) (object_len_in bytes) whole,
    ) refl

-- the object that is read
abbrev object_of : ℕ → ℕ → List ℕ → ObjectValue
object_of class c_type bytes = record { class = class; c_type = c_type; payload = bytes }

same_object : (a b c d : ℕ) (p q : List ℕ) → a ≡ b → c ≡ d → p ≡ q → object_of a c p ≡ object_of b d q
same_object a b c d p q first second third = rw (first, second, third) refl

object_is : (bytes : List ℕ) (o : ObjectValue) (rest : List ℕ) → IsObject bytes o rest → o ≡ object_in bytes
object_is bytes o rest is = same_object _ _ _ _ _ _ is.class_is is.c_type_is is.payload_is

pub object_fits : (bytes : List ℕ) (o : ObjectValue) (rest : List ℕ) → 4 ≤ length bytes → IsObject (drop 4 bytes) o rest
    → 8 + length o.payload ≤ length bytes
object_fits bytes o rest long is =
    let (four, (counted, (whole, u))) = is.passes in
    let len = ap (λ (l : List ℕ). length l) is.payload_is
    ∙ length-part (drop 4 bytes) 4 (object_len_in (drop 4 bytes)) counted whole in
    omega (arith, long, counted, whole, len, length-drop 4 bytes)

pub inside_printed : {E : Type 0} (form : Form) (a b : Option (List ℕ)) (bytes : List ℕ) (o : ObjectValue)
    (rest : List ℕ) (r : Result (Unit {0}) E) → IsObject (drop 4 bytes) o rest
    → OnOk r (Prints form a b (named_or_refused (wrong_object o) bytes o))
    → OnOk r (Prints form a b (object_or_refused (object_refusal (drop 4 bytes)) bytes))
inside_printed form a b bytes o rest r is printed =
    rw (object_right (drop 4 bytes) is.passes)
    (subst (λ (it : ObjectValue). OnOk r (Prints form a b (named_or_refused (wrong_object it) bytes it)))
    (object_is (drop 4 bytes) o rest is) printed)
