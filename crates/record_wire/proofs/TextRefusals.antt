-- Why a text is no name.
use Rattle.record_wire.proofs.Words.{◌≡◌, ◌≢◌, ◌+◌, ◌<◌, ◌≤◌, [], ◌∷◌, ◌++◌, ◌∙◌, GoesOn, IsLabel, IsNameText, List}
use Rattle.record_wire.proofs.Words.{None, Option, Some, Spells, ℕ, ap, arith, at_other, behind_in, cases_lt, codes}
use Rattle.record_wire.proofs.Words.{first_byte, inl, inr, length, length-append, refl, suc, sym, wire, written}
use Rattle.record_wire.proofs.Words.{written_all, zero}
use Rattle.record_wire.specs.private.NameReading.{IsSpelling}
use Rattle.record_wire.specs.TextRefusal.{IsReadTo, BeginsWithNone, IsLabelEnd, RefusesText}
use Rattle.record_wire.specs.private.Parts.{RefusesLabel}
use Rattle.record_wire.specs.declared.name.text_refusal.NameTextRefusal.{NameTextRefusal}
use Rattle.record_wire.proofs.Characters.{first_character, character_first, first_shorter}
use Rattle.record_wire.proofs.LabelLists.{written_more, each_more}
use Rattle.record_wire.proofs.NameLabels.{SoFar, leads_text}

-- ---- characters

pub none_begins : (text : List ℕ) → first_byte text ≡ None → BeginsWithNone text
none_begins text e = λ byte character rest is whole.
    let some = ap first_byte whole ∙ character_first byte character rest is in
    cc (some, e)

-- ---- labels

-- the characters at the start of a text, as many as there are
abbrev Spelling : List ℕ → Type 0
Spelling text = (label : List ℕ) × (rest : List ℕ) × IsSpelling text label rest

spelling_by : (text : List ℕ) (o : Option (ℕ × List ℕ)) → first_byte text ≡ o
    → ((byte : ℕ) (rest : List ℕ) → first_byte text ≡ Some (byte, rest) → Spelling rest) → Spelling text
spelling_by text None e go = ([], text, record { spells = refl; no_more = e })
spelling_by text (Some (byte, rest)) e go =
    let begins = first_character byte text rest e in
    let (label, behind, more) = go byte rest e in (
      byte ∷ label,
      behind,
      record { spells = (begins.character, rest, begins.is, begins.whole, more.spells); no_more = more.no_more },
    )

spelling_within : (most : ℕ) (text : List ℕ) → length text ≤ most → Spelling text
spelling_within zero text h =
    spelling_by text (first_byte text) refl
    (λ byte rest e. absurd (omega (arith, h, first_shorter byte text rest e)))
spelling_within (suc most) text h =
    spelling_by text (first_byte text) refl
    (λ byte rest e. spelling_within most rest (omega (arith, h, first_shorter byte text rest e)))

long_by : (text : List ℕ) (byte : ℕ) (behind : List ℕ) → first_byte text ≡ Some (byte, behind)
    → ((label rest : List ℕ) → IsSpelling text label rest → 1 ≤ length label → length label ≤ 63 → ⊥)
    → Spelling text → RefusesLabel text NameTextRefusal.LongLabel
long_by text byte behind e none ([], rest, is) =
    let none_there = ap first_byte is.spells ∙ is.no_more in
    cc (none_there, e)
long_by text byte behind e none (b ∷ label, rest, is) = elim (cases_lt 63 (length (b ∷ label))) [
  | inl long ↦ (b ∷ label, rest, is.spells, long)
  | inr few ↦ absurd (none (b ∷ label) rest is (omega arith) few)
]

pub long_label : (text : List ℕ) (byte : ℕ) (behind : List ℕ) → first_byte text ≡ Some (byte, behind)
    → ((label rest : List ℕ) → IsSpelling text label rest → 1 ≤ length label → length label ≤ 63 → ⊥)
    → RefusesLabel text NameTextRefusal.LongLabel
long_label text byte behind e none =
    long_by text byte behind e none (spelling_within (length text) text (omega arith))

-- ---- after the labels that were read

abbrev read_to : (text octets left label rest : List ℕ) → SoFar text octets left → Spells left label rest
    → IsReadTo text rest
read_to text octets left label rest so spells = record {
  done = so.done;
  each = so.each;
  left = left;
  leads = so.leads;
  label = label;
  spells = spells;
}

pub label_refused : (text octets left : List ℕ) (why : NameTextRefusal) → SoFar text octets left → text ≢ codes "."
    → RefusesLabel left why → RefusesText text why
label_refused text octets left NameTextRefusal.EmptyLabel so root is =
    (left, read_to text octets left [] left so refl, refl, is, root)
label_refused text octets left NameTextRefusal.LongLabel so root (label, rest, spells, long) =
    (rest, read_to text octets left label rest so spells, long)
label_refused text octets left NameTextRefusal.TooLong so root is = absurd is
label_refused text octets left NameTextRefusal.Escape so root is = (left, read_to text octets left [] left so refl, is)
label_refused text octets left (NameTextRefusal.Byte byte) so root is = (
  left,
  read_to text octets left [] left so
      refl,
  is,
)

no_end : (rest : List ℕ) → IsLabelEnd rest → behind_in rest ≡ at_other → ⊥
no_end [] is e = cc e
no_end (byte ∷ []) is e = let f = ap (λ (b : ℕ). behind_in (b ∷ [])) (sym is) ∙ e in cc f
no_end (byte ∷ next ∷ rest) is e = let f = ap (λ (b : ℕ). behind_in (b ∷ next ∷ rest)) (sym is) ∙ e in cc f

-- ---- names that are too long

pub no_room : (text octets left label rest : List ℕ) → SoFar text octets left → Spells left label rest
    → 255 < length octets + length (written label) → RefusesText text NameTextRefusal.TooLong
no_room text octets left label rest so spells long = (
  rest,
  read_to text octets left label rest so spells,
  omega (
    arith,
    long,
    ap length so.written,
    ap length (written_more so.done label),
    length-append (written_all so.done) (written label),
    length-append (written_all (so.done ++ label ∷ [])) (0 ∷ []),
  ),
)

pub no_name : (text octets left label rest : List ℕ) → SoFar text octets left → IsLabel label
    → Spells left label rest → GoesOn rest [] → ((labels : List (List ℕ)) → IsNameText text labels → ⊥)
    → RefusesText text NameTextRefusal.TooLong
no_name text octets left label rest so one spells ends none =
    elim (cases_lt 255 (length (wire (so.done ++ label ∷ [])))) [
      | inl long ↦ (rest, read_to text octets left label rest so spells, long)
      | inr fits ↦
          absurd (none (so.done ++ label ∷ []) (record {
            name = record { each = each_more so.done label so.each one; fits = fits };
            is = leads_text so.done text left label [] so.leads (rest, spells, ends);
          }))
    ]
