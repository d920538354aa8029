-- The lines of questions and records, as they are put: the results of private functions.
use Rattle.std.specs.Prelude.{◌≡◌, [], ◌++◌, List, None, Option, Some, ℕ, codes, decimal, flat_map}
use Rattle.std.specs.Borrow.{Bor}
use Rattle.std.specs.Fmt.{WritesInCalls}
use Rattle.record_wire.specs.Words.{NameRefusal, type_display}
use Rattle.record_wire.specs.Mnemonics.{class_text}
use Rattle.record_wire.specs.private.NameReads.{NameReads, text_of}
use Rattle.record_wire.specs.NameRefusal.{RefusesName}
use Rattle.record_wire.specs.Names.{Names}
use Rattle.record_wire.specs.RData.{RDataValue}
use Rattle.record_wire.specs.RecordText.{DataTextValue, IsDataText, RefusesNameIn, data_text}
use Rattle.record_wire.specs.ZoneText.{word}
use Rattle.dns_wire.specs.declared.dns.tables.Type.{«Type» as RecordType}
use Rattle.record_wire.specs.declared.line.Line.{Line}

-- a text of this kind was put
abbrev pub PutsSome : {O : Type 0} → (O → List ℕ → O → Type 0) → O → O → (List ℕ → Type 0) → Type 0
PutsSome took old new IsText = (text : List ℕ) × IsText text × WritesInCalls took old text new

-- the line of a question
abbrev pub asked_line : List ℕ → ℕ → RecordType → List ℕ
asked_line name class kind = name ++ (word (class_text class) ++ word (type_display kind))

-- the line of a record up to its data
abbrev pub line_front : Line → List ℕ
line_front line =
    text_of line.owner.now ++ word (decimal line.ttl)
    ++ (word (class_text line.class) ++ word (type_display line.type_)) ++ codes " "

abbrev pub front_of : Option (Bor Line) → List ℕ
front_of None = []
front_of (Some line) = line_front line.now

-- a text, and data with each name read; nothing for a name in the data that can't be read
abbrev pub DataPuts : List ℕ → List ℕ → RDataValue → List ℕ → Option NameRefusal → Type 0
DataPuts front message value text None =
    (read : DataTextValue) × IsDataText message value read × (text ≡ front ++ data_text read)
DataPuts front message value text (Some why) =
    ((read : DataTextValue) → IsDataText message value read → ⊥) × RefusesNameIn message value why × (text ≡ [])

-- a text, and a name
abbrev pub NamedPuts : List ℕ → List ℕ → List ℕ → List ℕ → Option NameRefusal → Type 0
NamedPuts front message bytes text None = (name : List ℕ) × NameReads message bytes name × (text ≡ front ++ name)
NamedPuts front message bytes text (Some why) =
    ((labels : List (List ℕ)) → Names message bytes labels → ⊥) × RefusesName bytes message why × (text ≡ [])

-- numbers, each before a space
abbrev pub numbers_text : List ℕ → List ℕ
numbers_text numbers = flat_map (λ number. decimal number ++ codes " ") numbers
