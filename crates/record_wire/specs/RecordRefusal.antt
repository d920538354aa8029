-- Why questions and records are refused: the check that fails first.
use Rattle.std.specs.Prelude.{◌≡◌, ◌<◌, ◌≤◌, ◌⊎◌, [], ◌∷◌, ◌++◌, List, ℕ, codes, decimal, drop, length}
use Rattle.std.specs.List.{AllByRecursion}
use Rattle.record_wire.specs.Words.{IsLabel, IsSplit, PartRefusal, Reaches, Refusal, length_field, pieces}
use Rattle.record_wire.specs.Labels.{written_all}
use Rattle.record_wire.specs.Record.{QuestionValue, IsQuestion, RecordValue, IsRecord, data_len}

-- ---- names of one part

-- a text begins with whole labels, followed by this
pub record Behind (text left : List ℕ) : Type 0 where
  pub labels : List (List ℕ)
  pub each : AllByRecursion IsLabel labels
  pub is : text ≡ written_all labels ++ left

-- a label whose bytes are not all there, a pointer of one byte, or nothing
abbrev pub IsCut : List ℕ → Type 0
IsCut [] = Unit {0}
IsCut (n ∷ rest) = ((1 ≤ n) × (n ≤ 63) × (length rest < n)) ⊎ ((192 ≤ n) × (rest ≡ []))

-- after whole labels the octets are cut, or begin with a byte that is neither a length nor a pointer's
abbrev pub IsNoPart : List ℕ → PartRefusal → Type 0
IsNoPart text PartRefusal.Cut = (left : List ℕ) × Behind text left × IsCut left
IsNoPart text (PartRefusal.LabelType n) =
    (rest : List ℕ) × Behind text (n ∷ rest) × (64 ≤ n) × (n < 192)

-- ---- questions and records

-- the name is malformed, or what follows it is too short for a type and a class
abbrev pub RefusesQuestion : List ℕ → Refusal → Type 0
RefusesQuestion bytes (Refusal.Name why) = IsNoPart bytes why
RefusesQuestion bytes Refusal.Fields =
    (name : List ℕ) × (after : List ℕ) × IsSplit bytes name after × (length after < 4)
RefusesQuestion bytes Refusal.Data = ⊥

-- the name is malformed; what follows it is too short for the fields; what follows these is shorter than the length
-- says
abbrev pub RefusesRecord : List ℕ → Refusal → Type 0
RefusesRecord bytes (Refusal.Name why) = IsNoPart bytes why
RefusesRecord bytes Refusal.Fields =
    (name : List ℕ) × (after : List ℕ) × IsSplit bytes name after × (length after < 10)
RefusesRecord bytes Refusal.Data =
    (name : List ℕ) × (after : List ℕ) × IsSplit bytes name after
    × Reaches length_field after × (length (drop 10 after) < data_len after)

-- the octets begin with a question, with a record
abbrev pub HasQuestion : List ℕ → Type 0
HasQuestion bytes = (value : QuestionValue) × (rest : List ℕ) × IsQuestion bytes value rest

abbrev pub HasRecord : List ℕ → Type 0
HasRecord bytes = (value : RecordValue) × (rest : List ℕ) × IsRecord bytes value rest

-- ---- texts

abbrev pub part_display : PartRefusal → List ℕ
part_display PartRefusal.Cut = codes "the name is cut"
part_display (PartRefusal.LabelType n) =
    pieces (codes "a label that begins with byte " ∷ decimal n ∷ codes " is not read" ∷ [])

abbrev pub refusal_display : Refusal → List ℕ
refusal_display (Refusal.Name why) = part_display why
refusal_display Refusal.Fields = codes "the fields behind the name are cut"
refusal_display Refusal.Data = codes "the data is cut"
