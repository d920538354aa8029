-- What a question of DNS prints, and the walk over a name.
use Rattle.std.specs.Prelude.{◌≡◌, [], ◌∷◌, ◌++◌, List, ℕ, codes, decimal, drop, length}
use Rattle.listing.specs.Words.{octets_text, type_number}
use Rattle.dns_wire.specs.DnsNameWalk.{Answer, label, fault, ending, Coming, Walk, IsWalkOver}
use Rattle.dns_wire.specs.DnsQuestion.{IsQuestion, QuestionValue}
use Rattle.listing.specs.Layout.{line, field, IsListingOrRefused}

-- a question, and the number of octets after it
abbrev pub question_listing : QuestionValue × List ℕ → List ℕ
question_listing read =
    field (codes "name") (octets_text read.0.name)
    ++ field (codes "type_") (decimal (type_number read.0.kind))
    ++ field (codes "rest") (decimal (length read.1))

abbrev pub QuestionPrints : List ℕ → List ℕ → Type 0
QuestionPrints octets = IsListingOrRefused (λ read. IsQuestion octets read.0 read.1) question_listing

-- an answer of a walk before what the later ones print: a label on a line, and last of all how the walk ends and its
-- steps
abbrev pub answer_listing : Answer → ℕ → List ℕ → List ℕ
answer_listing (label octets) steps rest = line (octets_text octets) ++ rest
answer_listing fault steps rest = field (codes "error steps") (decimal steps)
answer_listing ending steps rest = field (codes "end steps") (decimal steps)

abbrev pub answers_listing : List Coming → List ℕ
answers_listing [] = []
answers_listing (first ∷ rest) = answer_listing first.answer first.steps (answers_listing rest)

-- the walk over the name that begins at an offset of a message: its labels, and then whether it came to the name's end
-- or to a fault
abbrev pub NamePrints : ℕ → List ℕ → List ℕ → Type 0
NamePrints offset message text =
    (walk : Walk) × IsWalkOver (drop offset message) message walk × (text ≡ answers_listing walk.ahead)
