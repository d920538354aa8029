-- The entries of a message in turn, and the whole message.
use Rattle.std.proofs.Common.{◌≡◌, [], ◌∷◌, ◌++◌, Bool, Err, IfOk, List, None, Ok, OnOk, Option, Result, Some, ℕ}
use Rattle.std.proofs.Common.{append_assoc, false, refl, subst, sym}
use Rattle.std.proofs.lemmas.List.{append-nil}
use Rattle.wirebase.specs.Bytes.{Reaches}
use Rattle.dns_wire.specs.DnsPacket.{header}
use Rattle.record_wire.specs.Entries.{EntryValue, IsBroken, IsNext, Left, RefusesEntry, section_at}
use Rattle.record_wire.specs.declared.entries.Section.{Section}
use Rattle.record_wire.specs.declared.refusal.Refusal.{Refusal}
use Rattle.packet_fields.specs.Fields.{Cell, Entry, Fits, Leaf, entries, first_text}
use Rattle.packet_fields.specs.Output.{Gains}
use Rattle.packet_fields.specs.Prints.{Prints, PrintsCells, PrintsSome}
use Rattle.packet_fields.specs.declared.form.Form.{Form}
use Rattle.packet_fields.proofs.Fields.{cells_both, cells_none, prints_both}
use Rattle.dns_fields.specs.Message.{EntriesAre, EntryIs, MessageIs, begins, broken_entry, has_header}
use Rattle.dns_fields.specs.Message.{none_begins, none_left}
use Rattle.dns_fields.specs.Header.{header_items}
use Rattle.record_wire.specs.RecordText.{RecordTextValue}
use Rattle.dns_fields.specs.Record.{record_entry}
use Rattle.dns_fields.specs.Unread.{first_of}
use Rattle.packet_fields.specs.Entries.{PrintsEntry}
use Rattle.packet_fields.specs.private.Entries.{PrintsEntries, PrintsSomeEntries, PrintsSomeEntry}
use Rattle.dns_fields.specs.private.Parts.{ListIs, PrintsBroken, PrintsSomeFront}
use Rattle.dns_fields.specs.declared.kind.Kind.{Kind}
use Rattle.dns_fields.specs.declared.unread.Unread.{Unread}
use Rattle.packet_fields.proofs.EntryChains.{is_none, one_more}

-- values of an entry that are printed in a row with others
infixl 20 ◌beside◌
pub ◌beside◌ : {form : Form} {a b c : Option (List ℕ)} {xs ys : List Cell} → PrintsCells form a b xs
    → PrintsCells form b c ys → PrintsCells form a c (xs ++ ys)
first beside second = cells_both _ _ _ _ _ _ first second

-- ---- refusals

none_later : (unread : Option Unread) → first_of unread None ≡ unread
none_later None = refl
none_later (Some why) = refl

first_of_three : (a b c : Option Unread) → first_of a (first_of b c) ≡ first_of (first_of a b) c
first_of_three None b c = refl
first_of_three (Some why) b c = refl

-- ---- entries

module _ (kind : Kind) (message : List ℕ) where
  -- after what is done, the entries that are left make up all
  abbrev pub AreLeft : Left → Left → Option Unread → List Entry → Type 0
  AreLeft left all unread done = (more : List Entry) (later : Option Unread) → EntriesAre kind message left more later
      → EntriesAre kind message all (done ++ more) (first_of unread later)

  pub nothing_more : (left all : Left) (unread : Option Unread) (done : List Entry) → AreLeft left all unread done
      → EntriesAre kind message left [] None → EntriesAre kind message all done unread
  nothing_more left all unread done on is =
      subst (λ (u : Option Unread). EntriesAre kind message all done u) (none_later unread)
      (subst (λ (es : List Entry). EntriesAre kind message all es (first_of unread None)) (append-nil done)
      (on [] None is))

  pub one_listed : (left after all : Left) (value : EntryValue) (e : Entry) (unread refusal : Option Unread)
      (done : List Entry) → AreLeft left all unread done → IsNext left value after
      → EntryIs kind message value e refusal → AreLeft after all (first_of unread refusal) (done ++ (e ∷ []))
  one_listed left after all value e unread refusal done on next entry more later is =
      subst (λ (u : Option Unread). EntriesAre kind message all ((done ++ (e ∷ [])) ++ more) u)
      (first_of_three unread refusal later)
      (subst (λ (es : List Entry). EntriesAre kind message all es (first_of unread (first_of refusal later)))
      (sym (append_assoc done (e ∷ []) more))
      (on (e ∷ more) (first_of refusal later) (begins left after value e more refusal later next entry is)))

-- the entries that are printed so far, and how they go on
module _ (form : Form) (kind : Kind) (message : List ℕ) where
  abbrev pub SoFar : Left → Left → Bool → Option Unread → Option (List ℕ) → Option (List ℕ) → Type 0
  SoFar left all is_first unread a b =
      (done : List Entry) × (is_first ≡ is_none done) × PrintsEntries form a b done
      × AreLeft kind message left all unread done

  not_none : (es : List Entry) (e : Entry) → is_none (es ++ (e ∷ [])) ≡ false
  not_none [] e = refl
  not_none (x ∷ es) e = refl

  pub all_printed : (left all : Left) (is_first : Bool) (unread : Option Unread) (a b : Option (List ℕ))
      → SoFar left all is_first unread a b → left.taken ≡ left.ends.all
      → PrintsSomeEntries form a b (λ es. EntriesAre kind message all es unread)
  all_printed left all is_first unread a b (done, first, printed, on) none =
      (done, nothing_more kind message left all unread done on (none_left left none), printed)

  pub one_printed : (left after all : Left) (value : EntryValue) (is_first : Bool) (unread refusal : Option Unread)
      (a b c : Option (List ℕ)) → SoFar left all is_first unread a b → IsNext left value after
      → PrintsSomeEntry form is_first b c (λ e. EntryIs kind message value e refusal)
      → SoFar after all false (first_of unread refusal) a c
  one_printed left after all value is_first unread refusal a b c (done, first, printed, on) next (e, is, one) = (
    done ++ (e ∷ []),
    sym (not_none done e),
    one_more form a b c done e printed (subst (λ (f : Bool). PrintsEntry form f b c e) first one),
    one_listed kind message left after all value e unread refusal done on next is,
  )

  -- where the next one is refused
  abbrev Broken : Section → List ℕ → Bool → Option (List ℕ) → Option (List ℕ) → Option Unread → Type 0
  Broken section bytes is_first b c refusal =
      (why : Refusal) × (refusal ≡ Some (Unread.Entry section why)) × RefusesEntry section bytes why
      × PrintsEntry form is_first b c (broken_entry section why bytes)

  pub last_printed : (left after all : Left) (is_first : Bool) (unread refusal : Option Unread)
      (a b c : Option (List ℕ))
      → SoFar left all is_first unread a b → IsBroken left after → PrintsBroken form is_first after b c refusal
      → PrintsSomeEntries form a c (λ es. EntriesAre kind message all es (first_of unread refusal))
  last_printed left after all is_first unread refusal a b c (done, first, printed, on) broken told =
      let section = section_at left.ends left.taken in
      let place : section_at after.ends after.taken ≡ section = rw (broken.ends, broken.taken) refl in
      let here : Broken section left.bytes (is_none done) b c refusal =
      subst (λ (f : Bool). Broken section left.bytes f b c refusal) first
      (subst (λ (bytes : List ℕ). Broken section bytes is_first b c refusal) broken.bytes
      (subst (λ (s : Section). Broken s after.bytes is_first b c refusal) place told)) in
      let (why, is, refuses, one) = here in
      let last = broken_entry section why left.bytes in (
        done ++ (last ∷ []),
        on (last ∷ []) refusal
            (subst (λ (u : Option Unread). EntriesAre kind message left (last ∷ []) u) (sym is)
            (none_begins left after why broken refuses)),
        one_more form a b c done last printed one,
      )

-- ---- the message

-- the header, and then the list of the entries
pub message_printed : {E : Type 0} (form : Form) (kind : Kind) (message : List ℕ) (a b c : Option (List ℕ))
    (r : Result (Option Unread) E) → Reaches header message → Prints form a b (header_items kind message)
    → IfOk r (λ unread. PrintsSome form b c (λ items. ListIs kind message items unread))
    → IfOk r (λ unread. PrintsSome form a c (λ items. MessageIs kind message items unread))
message_printed form kind message a b c (Ok unread) reaches first (items, (es, are, is), printed) = (
  header_items kind message ++ (entries _ es ∷ []),
  has_header es unread reaches are,
  prints_both form a b c (header_items kind message) (entries _ es ∷ []) first
      (subst (λ xs. Prints form b c xs) is printed),
)
message_printed form kind message a b c (Err e) reaches first rest = tt

-- an entry of a kind
pub some_printed : {E : Type 0} (form : Form) (is_first : Bool) (a b : Option (List ℕ)) (IsEntry : Entry → Type 0)
    (e : Entry) (r : Result (Unit {0}) E) → IsEntry e → OnOk r (PrintsEntry form is_first a b e)
    → OnOk r (PrintsSomeEntry form is_first a b IsEntry)
some_printed form is_first a b IsEntry e (Ok u) is printed = (e, is, printed)
some_printed form is_first a b IsEntry e (Err x) is printed = tt

-- a first value alone, and with others behind it
pub first_alone : {E : Type 0} (form : Form) (a b : Option (List ℕ)) (key : List ℕ) (Are : Leaf → List Cell → Type 0)
    (first : Leaf) (r : Result (Unit {0}) E) → Are first [] → Fits first
    → OnOk r (Gains a b (first_text form key first)) → OnOk r (PrintsSomeFront form a b key Are)
first_alone form a b key Are first (Ok u) are fits gains =
    (first, [], are, record { between = b; fits = fits; gains = gains; prints = cells_none form b })
first_alone form a b key Are first (Err x) are fits gains = tt

pub first_with : {E : Type 0} (form : Form) (a b c : Option (List ℕ)) (key : List ℕ) (Are : Leaf → List Cell → Type 0)
    (first : Leaf) (others : List Cell) (r : Result (Unit {0}) E) → Are first others → Fits first
    → Gains a b (first_text form key first) → OnOk r (PrintsCells form b c others)
    → OnOk r (PrintsSomeFront form a c key Are)
first_with form a b c key Are first others (Ok u) are fits gains printed =
    (first, others, are, record { between = b; fits = fits; gains = gains; prints = printed })
first_with form a b c key Are first others (Err x) are fits gains printed = tt

-- a record by its content
pub record_as : (form : Form) (is_first : Bool) (a b : Option (List ℕ)) (kind : Kind) (section : Section)
    (v w : RecordTextValue) (marked : Bool) → v ≡ w → PrintsEntry form is_first a b (record_entry kind section v marked)
    → PrintsEntry form is_first a b (record_entry kind section w marked)
record_as form is_first a b kind section v w marked same printed =
    subst (λ (value : RecordTextValue). PrintsEntry form is_first a b (record_entry kind section value marked)) same
    printed
