-- Texts that are printed one after another.
use Rattle.std.proofs.Common.{◌≡◌, ◌∙◌, ◌==◌, [], ◌∷◌, ◌++◌, Bool, List, OnOk, Option, Result, ℕ, ap, append_assoc}
use Rattle.std.proofs.Common.{drop, false, flat_map, refl, subst, sym, take, true}
use Rattle.std.proofs.lemmas.Grind.{flat_map-append}
use Rattle.std.proofs.lemmas.List.{append-nil}
use Rattle.std.specs.Borrow.{Bor}
use Rattle.std.specs.Int.RustNames.{bit_and}
use Rattle.std.specs.Prelude.{if◌then◌else◌}
use Rattle.packet_fields.specs.Output.{Gains}
use Rattle.packet_fields.specs.Fields.{leaf_text, texts}
use Rattle.packet_fields.specs.declared.form.Form.{Form}
use Rattle.packet_fields.specs.declared.form.Form.TheVariants.{Lines, Json}
use Rattle.packet_fields.proofs.Printing.{◌then◌, gains_last, gains_none}
use Rattle.packet_fields.specs.Texts.{flag_names}
use Rattle.packet_fields.specs.Names.{rows_of}
unfoldable use Rattle.packet_fields.specs.private.TextRuns.{text_among, texts_after, texts_before}
use Rattle.packet_fields.specs.private.TextRuns.{run_from, still_first}

run_others : (form : Form) (ts : List (List ℕ)) → flat_map (text_among form false) ts ≡ run_from form false ts
run_others form [] = refl
run_others form (t ∷ ts) = refl

run_both : (form : Form) (first : Bool) (xs ys : List (List ℕ))
    → run_from form first (xs ++ ys) ≡ run_from form first xs ++ run_from form (still_first first xs) ys
run_both form first [] ys = refl
run_both form first (x ∷ xs) ys =
    ap (λ more. text_among form first x ++ more)
    (flat_map-append (text_among form false) xs ys
    ∙ ap (λ last. flat_map (text_among form false) xs ++ last) (run_others form ys))
    ∙ sym (append_assoc (text_among form first x) (flat_map (text_among form false) xs) (run_from form false ys))

still_others : (ts : List (List ℕ)) → still_first false ts ≡ false
still_others [] = refl
still_others (t ∷ ts) = refl

-- whether the next text is the first, after some texts and others
pub still_both : (first : Bool) (xs ys : List (List ℕ))
    → still_first (still_first first xs) ys ≡ still_first first (xs ++ ys)
still_both first [] ys = refl
still_both first (x ∷ xs) ys = still_others ys

-- no text, and more texts
pub run_none : (form : Form) (a : Option (List ℕ)) → Gains a a (run_from form true [])
run_none form a = gains_none a

pub run_more : (form : Form) (a b c : Option (List ℕ)) (xs ys : List (List ℕ)) → Gains a b (run_from form true xs)
    → Gains b c (run_from form (still_first true xs) ys) → Gains a c (run_from form true (xs ++ ys))
run_more form a b c xs ys so_far one = subst (Gains a c) (sym (run_both form true xs ys)) (so_far then one)

pub run_one : (form : Form) (first : Bool) (a b : Option (List ℕ)) (t : List ℕ) → Gains a b (text_among form first t)
    → Gains a b (run_from form first (t ∷ []))
run_one form first a b t gains = subst (Gains a b) (sym (append-nil (text_among form first t))) gains

-- what the texts of a leaf are
texts_are : (form : Form) (ts : List (List ℕ))
    → texts_before form ++ (run_from form true ts ++ texts_after form (still_first true ts)) ≡ leaf_text form (texts ts)
unfolding text_among texts_after texts_before
texts_are Lines [] = refl
texts_are Lines (t ∷ ts) = append-nil _
texts_are Json [] = refl
texts_are Json (t ∷ ts) = simp append_assoc

pub texts_printed : {E : Type 0} (form : Form) (a b c d : Option (List ℕ)) (ts : List (List ℕ))
    (r : Result (Unit {0}) E) → Gains a b (texts_before form) → Gains b c (run_from form true ts)
    → OnOk r (Gains c d (texts_after form (still_first true ts))) → OnOk r (Gains a d (leaf_text form (texts ts)))
texts_printed form a b c d ts r before printed after =
    let closing = texts_after form (still_first true ts) in
    subst (λ t. OnOk r (Gains a d t))
    (append_assoc (texts_before form) (run_from form true ts) closing ∙ texts_are form ts)
    (gains_last d closing r (before then printed) after)

split_if : (b : Bool) (name : List ℕ) (more : List (List ℕ))
    → (if b then [] else name ∷ []) ++ more ≡ (if b then more else name ∷ more)
split_if true name more = refl
split_if false name more = refl

-- the names of the first flag, and of the others
pub flags_split : (rows : List (ℕ × Bor (List ℕ))) (bits : ℕ)
    → flag_names (rows_of (take 1 rows)) bits ++ flag_names (rows_of (drop 1 rows)) bits
    ≡ flag_names (rows_of rows) bits
flags_split [] bits = refl
flags_split (row ∷ rest) bits = split_if (bit_and bits row.0 == 0) row.1.now (flag_names (rows_of rest) bits)
