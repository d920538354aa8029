-- Why octets are not a question, a record, data or a whole name: the first check that fails. There is a reason exactly
-- where the grammar has no value, and the reasons exclude one another.
use Rattle.std.specs.Prelude.{◌≡◌, ◌<◌, ◌≤◌, ◌⊎◌, [], ◌∷◌, ◌++◌, List, ℕ, codes, decimal, length}
use Rattle.dns_wire.specs.Words.{Check, Refusal, check, pieces}
use Rattle.wirebase.specs.Checks.{Fails}
use Rattle.dns_wire.specs.DnsName.{IsFront, goes_on, IsMark, IsName, IsBrokenPath, open_below}
use Rattle.dns_wire.specs.DnsPart.{IsSplit}
use Rattle.dns_wire.specs.DnsQuestion.{QuestionValue, IsQuestion, question_checks}
use Rattle.dns_wire.specs.DnsRecord.{DataValue, IsData, RecordValue, IsRecord, type_in, data_in, field_checks}
use Rattle.dns_wire.specs.declared.dns.tables.Type.{«Type» as RecordType}
use Rattle.dns_wire.specs.declared.dns.refusal.NameRefusal.{NameRefusal}

-- ---- names (RFC 1035 section 4.1.4)

-- These bytes begin neither with a whole label nor with a whole mark, for this reason. A whole pointer is a mark,
-- wherever it leads.
abbrev pub IsTorn : List ℕ → NameRefusal → Type 0
IsTorn bytes NameRefusal.NoEnd = bytes ≡ []
IsTorn bytes NameRefusal.LabelCut =
    (len : ℕ) × (behind : List ℕ) × (bytes ≡ len ∷ behind) × (1 ≤ len) × (len ≤ 63) × (length behind < len)
IsTorn bytes (NameRefusal.LabelType n) = (behind : List ℕ) × (bytes ≡ n ∷ behind) × (64 ≤ n) × (n ≤ 191)
IsTorn bytes NameRefusal.PointerCut = (first : ℕ) × (bytes ≡ first ∷ []) × (192 ≤ first)
IsTorn bytes (NameRefusal.Pointer place) = ⊥

-- a text begins with no part of a name, for this reason, which holds of the bytes after the whole labels at the front
abbrev pub PartBreaks : List ℕ → NameRefusal → Type 0
PartBreaks text reason = (labels : List (List ℕ)) × (front : IsFront text labels) × IsTorn front.rest reason

-- Here a name breaks, for this reason, where a given number of bytes of the message are open: a pointer leads to none
-- of them, or nothing whole begins here.
abbrev pub BreaksHere : ℕ → List ℕ → NameRefusal → Type 0
BreaksHere open_bytes bytes (NameRefusal.Pointer place) =
    (mark : List ℕ) × (behind : List ℕ) × (bytes ≡ mark ++ behind) × IsMark mark (goes_on place)
    × (open_bytes ≤ place)
BreaksHere open_bytes bytes reason = IsTorn bytes reason

-- The name that begins in a text and may go on in a message breaks, for this reason: its longest falling path is not
-- complete, and the reason holds in the last window, after the whole labels at its front.
pub record NameBreaks (text message : List ℕ) (reason : NameRefusal) : Type 0 where
  pub targets : List ℕ
  pub parts : List (List (List ℕ))
  pub front : List (List ℕ)
  pub path : IsBrokenPath text message targets parts front
  pub here : BreaksHere (open_below (length message) targets) path.whole_front.rest reason

-- the name has labels
abbrev pub HasName : List ℕ → List ℕ → Type 0
HasName text message = (labels : List (List ℕ)) × IsName text message labels

-- ---- questions, records and data (RFC 1035 section 4.1)

-- the bytes begin with no part of a name, or a check of the bytes after the name is the first that fails
abbrev pub Refuses : (List ℕ → List (Check Refusal)) → List ℕ → Refusal → Type 0
Refuses checks bytes why =
    ((reason : NameRefusal) × (why ≡ Refusal.Name reason) × PartBreaks bytes reason)
    ⊎ ((name : List ℕ) × (after : List ℕ) × IsSplit bytes name after × Fails (checks after) why)

abbrev pub RefusesQuestion : List ℕ → Refusal → Type 0
RefusesQuestion = Refuses question_checks

abbrev pub BeginsWithQuestion : List ℕ → Type 0
BeginsWithQuestion bytes = (value : QuestionValue) × (rest : List ℕ) × IsQuestion bytes value rest

abbrev pub AreData : RecordType → List ℕ → Type 0
AreData t bytes = (value : DataValue) × IsData t bytes value

-- the one check of data of a type: only an address is refused, for its length
unfoldable pub data_checks : RecordType → List ℕ → List (Check Refusal)
data_checks t bytes = check (AreData t bytes) (Refusal.AddressLength (length bytes)) ∷ []

abbrev pub RefusesData : RecordType → List ℕ → Refusal → Type 0
RefusesData t bytes = Fails (data_checks t bytes)

abbrev pub RefusesRecord : List ℕ → Refusal → Type 0
RefusesRecord = Refuses (λ after. field_checks after ++ data_checks (type_in after) (data_in after))

abbrev pub BeginsWithRecord : List ℕ → Type 0
BeginsWithRecord bytes = (value : RecordValue) × (rest : List ℕ) × IsRecord bytes value rest

-- ---- their texts

abbrev pub name_refusal_display : NameRefusal → List ℕ
name_refusal_display NameRefusal.NoEnd = codes "the name has no end"
name_refusal_display NameRefusal.LabelCut = codes "a label is cut"
name_refusal_display (NameRefusal.LabelType n) = pieces (decimal n
    ∷ codes " is neither the length of a label nor a pointer" ∷ [])
name_refusal_display NameRefusal.PointerCut = codes "a pointer is cut"
name_refusal_display (NameRefusal.Pointer place) =
    pieces (codes "a pointer to byte " ∷ decimal place ∷ codes " does not lead back" ∷ [])

abbrev pub refusal_display : Refusal → List ℕ
refusal_display (Refusal.Name reason) = name_refusal_display reason
refusal_display Refusal.Short = codes "the fields behind the name are cut"
refusal_display (Refusal.Class class) = pieces (codes "class " ∷ decimal class ∷ codes " is not read" ∷ [])
refusal_display Refusal.Length = codes "the data is cut"
refusal_display (Refusal.AddressLength n) = pieces (codes "an address of " ∷ decimal n ∷ codes " bytes" ∷ [])
