-- What follows the header of a message, in order (RFC 1035 section 4.1): the questions, and then the records that
-- answer, those that name an authority, and those that add to them, as many of each as the header counts.
use Rattle.std.specs.Prelude.{◌≡◌, ◌≢◌, ◌+◌, ◌<◌, ◌⊎◌, Bool, Err, List, None, Ok, Option, Result, Some, ℕ, false}
use Rattle.std.specs.Prelude.{if◌then◌else◌, nat_lt, true}
use Rattle.record_wire.specs.Words.{Refusal, Section, number_of}
use Rattle.wirebase.specs.declared.error.Error.{Error}
use Rattle.dns_wire.specs.DnsPacket.{question_count_field, answer_count_field, authority_count_field}
use Rattle.dns_wire.specs.DnsPacket.{additional_count_field, payload_in}
use Rattle.record_wire.specs.Record.{QuestionValue, question_of, IsQuestion, RecordValue, record_of, IsRecord}
use Rattle.record_wire.specs.RecordRefusal.{RefusesQuestion, RefusesRecord}
use Rattle.record_wire.specs.declared.entries.Entry.{Entry}

-- how many entries there are up to the end of each section
pub record Ends : Type 0 where
  pub questions : ℕ
  pub answers : ℕ
  pub authorities : ℕ
  pub all : ℕ

abbrev pub ends_in : List ℕ → Ends
ends_in message =
    let questions = number_of question_count_field message in
    let answers = questions + number_of answer_count_field message in
    let authorities = answers + number_of authority_count_field message in
    record {
      questions = questions;
      answers = answers;
      authorities = authorities;
      all = authorities + number_of additional_count_field message;
    }

-- the section of the entry after n others
abbrev pub section_at : Ends → ℕ → Section
section_at ends n =
    if nat_lt n ends.questions then Section.Question
    else if nat_lt n ends.answers then Section.Answer
    else if nat_lt n ends.authorities then Section.Authority
    else Section.Additional

-- an entry by its content
pub data EntryValue : Type 0 where
  question : QuestionValue → EntryValue
  record_in : Section → RecordValue → EntryValue

abbrev pub entry_of : Entry → EntryValue
entry_of (Entry.Question q) = question (question_of q)
entry_of (Entry.Record section r) = record_in section (record_of r)

-- these bytes are an entry of a section, followed by a rest
abbrev pub IsEntry : Section → List ℕ → EntryValue → List ℕ → Type 0
IsEntry section bytes (question q) rest = (section ≡ Section.Question) × IsQuestion bytes q rest
IsEntry section bytes (record_in s r) rest = (section ≢ Section.Question) × (s ≡ section) × IsRecord bytes r rest

-- why they do not
abbrev pub RefusesEntry : Section → List ℕ → Refusal → Type 0
RefusesEntry Section.Question bytes why = RefusesQuestion bytes why
RefusesEntry _ bytes why = RefusesRecord bytes why

-- the number of entries that were returned, whether the next one was refused, and the bytes after them
pub record Left : Type 0 where
  pub ends : Ends
  pub taken : ℕ
  pub refused : Bool
  pub bytes : List ℕ

abbrev pub all_of : List ℕ → Left
all_of message = record { ends = ends_in message; taken = 0; refused = false; bytes = payload_in message }

-- the next entry is at the start of the bytes
pub record IsNext (old : Left) (e : EntryValue) (new : Left) : Type 0 where
  pub unbroken : old.refused ≡ false
  pub some : old.taken < old.ends.all
  pub is : IsEntry (section_at old.ends old.taken) old.bytes e new.bytes
  pub ends : new.ends ≡ old.ends
  pub taken : new.taken ≡ old.taken + 1
  pub refused : new.refused ≡ false

-- an entry is left, and none is at the start of the bytes; none is left then, and the bytes stay
pub record IsBroken (old new : Left) : Type 0 where
  pub unbroken : old.refused ≡ false
  pub some : old.taken < old.ends.all
  pub none : (e : EntryValue) (rest : List ℕ) → IsEntry (section_at old.ends old.taken) old.bytes e rest → ⊥
  pub ends : new.ends ≡ old.ends
  pub taken : new.taken ≡ old.taken
  pub refused : new.refused ≡ true
  pub bytes : new.bytes ≡ old.bytes

-- A call returns the next entry and removes it; where there is none it returns one refusal, and then always None.
abbrev pub GivesEntry : Left → Option (Result Entry Error) → Left → Type 0
GivesEntry old None new = ((old.refused ≡ true) ⊎ (old.taken ≡ old.ends.all)) × (new ≡ old)
GivesEntry old (Some (Ok e)) new = IsNext old (entry_of e) new
GivesEntry old (Some (Err error)) new = IsBroken old new
