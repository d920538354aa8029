-- The entries of a section are questions, or else records.
use Rattle.record_wire.proofs.Words.{◌≡◌, ◌≢◌, HasQuestion, HasRecord, IsQuestion, IsRecord, List, QuestionValue}
use Rattle.record_wire.proofs.Words.{RecordValue, Section, ℕ, question, record_in, refl}
use Rattle.record_wire.specs.Entries.{EntryValue, IsEntry}
use Rattle.record_wire.specs.private.Entries.{HasEntry}

pub as_question : {A : Type 0} (section : Section) (bytes rest : List ℕ) (value : EntryValue)
    → section ≡ Section.Question
    → ((q : QuestionValue) → value ≡ question q → IsQuestion bytes q rest → A) → IsEntry section bytes value rest → A
as_question section bytes rest (question q) e f is = f q refl is.1
as_question section bytes rest (record_in s r) e f is = absurd (is.0 e)

pub as_record : {A : Type 0} (section : Section) (bytes rest : List ℕ) (value : EntryValue) → section ≢ Section.Question
    → ((s : Section) (r : RecordValue) → value ≡ record_in s r → s ≡ section → IsRecord bytes r rest → A)
    → IsEntry section bytes value rest → A
as_record section bytes rest (question q) other f is = absurd (other is.0)
as_record section bytes rest (record_in s r) other f is = f s r refl is.1 is.2

-- ---- why none begins

pub has_question : (section : Section) (bytes : List ℕ) → section ≡ Section.Question → HasEntry section bytes
    → HasQuestion bytes
has_question section bytes e (value, rest, is) =
    as_question section bytes rest value e (λ q same asks. (q, rest, asks)) is

pub question_has : (section : Section) (bytes : List ℕ) → section ≡ Section.Question → HasQuestion bytes
    → HasEntry section bytes
question_has section bytes e (q, rest, asks) = (question q, rest, (e, asks))

pub has_record : (section : Section) (bytes : List ℕ) → section ≢ Section.Question → HasEntry section bytes
    → HasRecord bytes
has_record section bytes other (value, rest, is) =
    as_record section bytes rest value other (λ s r same section_is reads. (r, rest, reads)) is

pub record_has : (section : Section) (bytes : List ℕ) → section ≢ Section.Question → HasRecord bytes
    → HasEntry section bytes
record_has section bytes other (r, rest, reads) = (record_in section r, rest, (other, refl, reads))
