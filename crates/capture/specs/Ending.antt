-- What endings, refusals and faults print.
use Rattle.std.specs.Prelude.{ℕ, List, [], ◌∷◌, ◌++◌, codes, decimal}
use Rattle.wirebase.specs.Display.{pieces}
use Rattle.capture.specs.Types.{Ending, Fault, Refusal}

-- why a block is refused
abbrev pub refusal_text : Refusal → List ℕ
refusal_text Refusal.ByteOrder = codes "a section header tells no order of bytes"
refusal_text (Refusal.Length n) = pieces (decimal n ∷ codes " is not the length of a block" ∷ [])
refusal_text Refusal.ClosingLength = codes "a block ends with another length than it begins with"
refusal_text Refusal.Short = codes "a block is too short for its kind"
refusal_text (Refusal.Kind n) = pieces (codes "a block of kind " ∷ decimal n ∷ codes " holds no packet" ∷ [])
refusal_text (Refusal.Interface n) = pieces (codes "interface " ∷ decimal n ∷ codes " is not described" ∷ [])
refusal_text (Refusal.CapturedLength n) =
    pieces (codes "a packet of " ∷ decimal n ∷ codes " bytes is longer than its block" ∷ [])

-- what ends a capture
abbrev pub ending_text : Ending → List ℕ
ending_text Ending.Whole = codes "it ends behind a whole record"
ending_text Ending.Cut = codes "it ends within a record"
ending_text Ending.TooLarge = codes "a record is too large"
ending_text Ending.TooManyInterfaces = codes "it describes too many interfaces"
ending_text (Ending.Malformed r) = codes "a record contradicts itself: " ++ refusal_text r
ending_text Ending.Version = codes "its version is not read"
ending_text Ending.NotACapture = codes "it is no capture"

-- what ends the reading of one
abbrev pub fault_text : Fault → List ℕ
fault_text Fault.Read = codes "reading failed"
fault_text Fault.Memory = codes "there is no memory"
