-- The parts of a name in a message, as they are read: the results of private functions.
use Rattle.std.specs.Prelude.{◌≡◌, ◌+◌, ◌≤◌, ◌++◌, List, ℕ, length}
use Rattle.std.specs.List.{AllByRecursion}
use Rattle.record_wire.specs.Words.{IsLabel}
use Rattle.dns_wire.specs.declared.dns.part.NamePart.{NamePart}
use Rattle.record_wire.specs.Labels.{wire, written_all}
use Rattle.record_wire.specs.Names.{Names}

-- the text begins with whole labels, which take this many bytes
pub record LabelsAtFront (text : List ℕ) (len : ℕ) : Type 0 where
  pub labels : List (List ℕ)
  pub rest : List ℕ
  pub each : AllByRecursion IsLabel labels
  pub is : text ≡ written_all labels ++ rest
  pub count : length (written_all labels) ≡ len

-- a label after this many bytes would leave no room in a name for byte 0
abbrev pub EndsTooFar : ℕ → NamePart → Type 0
EndsTooFar len (NamePart.Label bytes rest) = 255 ≤ len + (1 + length bytes.now)
EndsTooFar len (NamePart.Pointer target) = Unit {0}
EndsTooFar len NamePart.End = Unit {0}
EndsTooFar len NamePart.Torn = Unit {0}

-- the octets of the name that begins in a text and may go on in a message
pub record HasLabelsOfName (text message octets : List ℕ) : Type 0 where
  pub labels : List (List ℕ)
  pub names : Names message text labels
  pub written : octets ≡ wire labels

-- the text begins with these bytes
pub record StandInFront (bytes text : List ℕ) : Type 0 where
  pub rest : List ℕ
  pub is : text ≡ bytes ++ rest
