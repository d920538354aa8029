-- The files of a run, one after another, and what they print.
use Rattle.std.proofs.Common.{◌≡◌, ℕ, Bool, true, false, List, [], ◌∷◌, ◌++◌, length, Option, None, Some, Result, Ok}
use Rattle.std.proofs.Common.{Err}
use Rattle.std.proofs.Common.{IfSome, IfOk, OnOk, max, append_assoc, refl, sym, ◌∙◌}
use Rattle.std.proofs.lemmas.Bool.{eqb-true}
use Rattle.std.proofs.lemmas.List.{append-nil, nil_from_length}
use Rattle.std.specs.Prelude.{◌==◌, map}
use Rattle.std.specs.Io.KnownBytes.{Keeps}
use Rattle.packet_fields.specs.Output.{Gains, GainsSome}
use Rattle.packet_fields.proofs.Printing.{gains_none, gains_both}
use Rattle.dump_captures.specs.Files.{FilePrints, unopened, opened, FilesPrint, counts_before, names_of, several}
use Rattle.dump_captures.specs.Files.{standard, title, told_name, end_text, RunPrints}
use Rattle.dump_captures.specs.Tally.{TallyValue, empty}
use Rattle.dump_captures.specs.declared.options.Options.{Options}
use Rattle.dump_captures.proofs.Running.{known-input}

module _ (options : Options) (bytes : List ℕ → Option (List ℕ)) (several : Bool) (names : List (List ℕ))
    (first : TallyValue) (lowest : ℕ) (before : Option (List ℕ)) where
  -- How far a run has come: it has printed a text, and what the files that are left print follows it.
  pub record SoFar (left : List (List ℕ)) (old : TallyValue) (status : ℕ) (now : Option (List ℕ)) : Type 0 where
    pub text : List ℕ
    pub gains : Gains before now text
    pub goes_on : (more : List ℕ) (new : TallyValue) (highest : ℕ)
        → FilesPrint options bytes several left old status more new highest
        → FilesPrint options bytes several names first lowest (text ++ more) new highest

  -- one file more
  pub so_far-more : (left : List (List ℕ)) (name : List ℕ) (old new : TallyValue) (status own : ℕ)
      (now titled later : Option (List ℕ)) → SoFar (name ∷ left) old status now
      → Gains now titled (title options several name)
      → GainsSome titled later (λ text.
      FilePrints options (told_name several name) (bytes name) (counts_before options old) text new own)
      → SoFar left new (max status own) later
  so_far-more left name old new status own now titled later so_far heads shows =
      let head = title options several name in
      record {
        text = so_far.text ++ (head ++ shows.0);
        gains = gains_both before now later so_far.text (head ++ shows.0) so_far.gains
            (gains_both now titled later head shows.0 heads shows.2);
        goes_on = λ more last highest prints.
            rw (append_assoc so_far.text (head ++ shows.0) more)
            (so_far.goes_on (head ++ shows.0 ++ more) last highest (shows.0, more, new, own, shows.1, prints, refl));
      }

  -- all of them
  pub so_far-end : (new : TallyValue) (status : ℕ) (now : Option (List ℕ)) → SoFar [] new status now
      → GainsSome before now (λ text. FilesPrint options bytes several names first lowest text new status)
  so_far-end new status now so_far = (
    so_far.text,
    rw (append-nil so_far.text) at (so_far.goes_on [] new status (refl, refl, refl)),
    so_far.gains,
  )

pub so_far-init : (options : Options) (bytes : List ℕ → Option (List ℕ)) (several : Bool) (names : List (List ℕ))
    (old : TallyValue) (status : ℕ) (before : Option (List ℕ))
    → SoFar options bytes several names old status before names old status before
so_far-init options bytes several names old status before =
    record { text = []; gains = gains_none before; goes_on = λ more new highest prints. prints }

-- ---- the standard input alone

no_title : (options : Options) (name : List ℕ) → title options false name ≡ []
no_title options name = elim options.prints as (λ prints. title (record options { prints = prints }) false name ≡ []) [
  | true ↦ refl
  | false ↦ refl
]

pub so_far-one : (options : Options) (bytes : List ℕ → Option (List ℕ)) (old new : TallyValue) (status own : ℕ)
    (before now : Option (List ℕ))
    → GainsSome before now (λ text. FilePrints options None (bytes standard) (counts_before options old) text new own)
    → GainsSome before now (λ text.
    FilesPrint options bytes false (standard ∷ []) old status text new (max status own))
so_far-one options bytes old new status own before now prints = (
  prints.0,
  (prints.0, [], new, own, prints.1, (refl, refl, refl), rw (no_title options standard, append-nil prints.0) refl),
  prints.2,
)

pub none_named : {A : Type 0} (files : List A) → (length files == 0) ≡ true → files ≡ []
none_named files none = nil_from_length files (eqb-true (length files) 0 none)

-- files that are named are those alone
pub named : {A : Type 0} (view : A → List ℕ) (files : List A) → (length files == 0) ≡ false
    → names_of (map view files) ≡ map view files
named view [] some = absurd (cc some)
named view (file ∷ files) some = refl

-- ---- a file whose bytes are known

known-prints : (options : Options) (file known bytes : Option (List ℕ)) (old new : TallyValue) (text : List ℕ)
    (status : ℕ) → IfSome known (λ all. bytes ≡ Some all) → FilePrints options file bytes old text new status
    → FilePrints options file known old text new status
known-prints options file known bytes old new text status gives (unopened none same is) = unopened none same is
known-prints options file known bytes old new text status gives (opened stop prints is) =
    opened stop (known-input options file known bytes old new text stop gives prints) is

pub known-file : {E : Type 0} (options : Options) (file bytes input : Option (List ℕ)) (old new : TallyValue)
    (before now : Option (List ℕ)) (r : Result ℕ E) → IfSome bytes (λ all. input ≡ Some all)
    → IfOk r (λ status. GainsSome before now (λ text. FilePrints options file input old text new status))
    → IfOk r (λ status. GainsSome before now (λ text. FilePrints options file bytes old text new status))
known-file options file bytes input old new before now (Ok status) gives prints =
    (prints.0, known-prints options file bytes input old new prints.0 status gives prints.1, prints.2)
known-file options file bytes input old new before now (Err e) gives prints = tt

-- ---- the whole run

gains_kept : (a b : Option (List ℕ)) → Keeps a b → Gains a b []
gains_kept None b kept = record { appends = tt }
gains_kept (Some xs) None kept = absurd kept
gains_kept (Some xs) (Some ys) kept = record { appends = kept ∙ sym (append-nil xs) }

pub run : {E : Type 0} (options : Options) (bytes : List ℕ → Option (List ℕ)) (files : List (List ℕ))
    (lowest highest : ℕ) (total : TallyValue) (before now later : Option (List ℕ)) (r : Result (Unit {0}) E)
    → GainsSome before now (λ text.
    FilesPrint options bytes (several files) (names_of files) empty lowest text total highest)
    → OnOk r (Gains now later (end_text options total))
    → OnOk r (GainsSome before later (λ text. RunPrints options bytes files lowest text highest))
run options bytes files lowest highest total before now later (Ok x) prints ends = (
  prints.0 ++ end_text options total,
  record { files_text = prints.0; total = total; prints = prints.1; text_is = refl },
  gains_both before now later prints.0 (end_text options total) prints.2 ends,
)
run options bytes files lowest highest total before now later (Err e) prints ends = tt
