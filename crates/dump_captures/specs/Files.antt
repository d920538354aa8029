-- What the files of a run print, one after another, and the status at the end.
use Rattle.std.specs.Prelude.{◌≡◌, ℕ, max, nat_lt, ◌&&◌, Bool, if◌then◌else◌, List, [], ◌∷◌, ◌++◌, length, codes}
use Rattle.std.specs.Prelude.{bytes_eq, false, true, None, Option, Some}
use Rattle.capture.specs.declared.ending.Ending.{Ending}
use Rattle.capture.specs.declared.ending.Ending.TheVariants.{Whole, Version, NotACapture}
use Rattle.packet_fields.specs.declared.form.Form.{Form}
use Rattle.packet_fields.specs.declared.form.Form.TheVariants.{Json, Lines}
use Rattle.dump_captures.specs.Dump.{InputPrints}
use Rattle.dump_captures.specs.Table.{table_text}
use Rattle.dump_captures.specs.Tally.{TallyValue, empty}
use Rattle.dump_captures.specs.declared.options.Options.{Options}
use Rattle.dump_captures.specs.declared.stop.Stop.{Stop}
use Rattle.dump_captures.specs.declared.stop.Stop.TheVariants.{Ended, Enough, Unread}

-- ---- the statuses

-- of what ends a capture: it is whole, or it is not one, or it ends within a record
abbrev pub ending_status : Ending → ℕ
ending_status Whole = 0
ending_status Version = 2
ending_status NotACapture = 2
ending_status _ = 1

-- the same, of an input whose packets were read as far as was asked for, and of one that could not be read
abbrev pub stop_status : Stop → ℕ
stop_status (Ended ending) = ending_status ending
stop_status Enough = 0
stop_status Unread = 3

-- ---- a file

-- The name that stands for the standard input, and is given where no file is.
abbrev pub standard : List ℕ
standard = codes "-"

-- what is read where this name is given, of the standard input and of files by their names
abbrev pub bytes_of_name : Option (List ℕ) → (List ℕ → Option (List ℕ)) → List ℕ → Option (List ℕ)
bytes_of_name input file name = if bytes_eq name standard then input else file name

-- What a file prints whose bytes may be known, and its status: one that can't be opened prints nothing.
pub data FilePrints (options : Options) (file : Option (List ℕ)) (bytes : Option (List ℕ)) (old : TallyValue)
    (text : List ℕ) (new : TallyValue) (status : ℕ) : Type 0 where
  unopened : text ≡ [] → new ≡ old → status ≡ 2 → FilePrints options file bytes old text new status
  opened : (stop : Stop) → InputPrints options file bytes old text new stop → status ≡ stop_status stop
      → FilePrints options file bytes old text new status

-- ---- the files

abbrev pub in_lines : Form → Bool
in_lines Lines = true
in_lines Json = false

-- the line above the packets of a file, where there are several; not in JSON
abbrev pub title : Options → Bool → List ℕ → List ℕ
title options several name =
    if options.prints && several && in_lines options.form then name ++ codes ":\n" else []

-- the name that is told with each packet, where there are several files; in lines it is above them
abbrev pub told_name : Bool → List ℕ → Option (List ℕ)
told_name several name = if several then Some name else None

-- the counts before a file: those of the files before it, unless it is counted by itself
abbrev pub counts_before : Options → TallyValue → TallyValue
counts_before options so_far = if options.prints then empty else so_far

-- What files print of which the bytes are these, one after another. The status is the highest.
abbrev pub FilesPrint : Options → (List ℕ → Option (List ℕ)) → Bool → List (List ℕ) → TallyValue → ℕ → List ℕ
    → TallyValue → ℕ → Type 0
FilesPrint options bytes several [] old status text new highest = (text ≡ []) × (new ≡ old) × (highest ≡ status)
FilesPrint options bytes several (name ∷ names) old status text new highest =
    (first : List ℕ) × (more : List ℕ) × (middle : TallyValue) × (own : ℕ)
    × FilePrints options (told_name several name) (bytes name) (counts_before options old) first middle own
    × FilesPrint options bytes several names middle (max status own) more new highest
    × (text ≡ title options several name ++ first ++ more)

abbrev pub names_of : List (List ℕ) → List (List ℕ)
names_of [] = standard ∷ []
names_of files = files

abbrev pub several : List (List ℕ) → Bool
several files = nat_lt 1 (length files)

-- where packets are only counted the table at the end, of all files together
abbrev pub end_text : Options → TallyValue → List ℕ
end_text options total = if options.prints then [] else table_text options.only total

-- What a run over files prints, from a status on: what the files print, and then what stands at the end.
pub record RunPrints (options : Options) (bytes : List ℕ → Option (List ℕ)) (files : List (List ℕ)) (before : ℕ)
    (text : List ℕ) (after : ℕ) : Type 0 where
  pub files_text : List ℕ
  pub total : TallyValue
  pub prints : FilesPrint options bytes (several files) (names_of files) empty before files_text total after
  pub text_is : text ≡ files_text ++ end_text options total
