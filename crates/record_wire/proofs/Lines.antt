-- The lines of questions and records.
use Rattle.record_wire.proofs.Words.{◌≡◌, [], ◌∷◌, ◌++◌, ◌∙◌, Err, IfOk, List, Names, None, Ok}
use Rattle.record_wire.proofs.Words.{Option}
use Rattle.record_wire.proofs.Words.{RefusesName, Result, Some, WritesInCalls, ℕ, ap}
use Rattle.record_wire.proofs.Words.{append-nil, append_assoc, arith, codes, decimal, refl, subst, sym}
use Rattle.dns_wire.specs.declared.dns.tables.Type.{«Type» as RecordType}
use Rattle.dns_wire.specs.DnsDisplay.{type_display}
use Rattle.record_wire.specs.declared.name.refusal.NameRefusal.{NameRefusal}
use Rattle.record_wire.specs.FieldsText.{IsSecondText}
use Rattle.record_wire.specs.private.Lines.{DataPuts, NamedPuts, PutsSome, numbers_text}
use Rattle.record_wire.specs.Mnemonics.{class_text}
use Rattle.record_wire.specs.private.NameReads.{NameReads}
use Rattle.record_wire.specs.NameRefusal.{HasName}
use Rattle.record_wire.specs.RData as rdata
use Rattle.record_wire.specs.RecordText.{AuthorityTextValue, DataTextValue, RecordTextValue, IsAuthorityText}
use Rattle.record_wire.specs.RecordText.{IsDataText}
use Rattle.record_wire.specs.RecordText.{RefusesNamesOf, data_text, question_text}
use Rattle.record_wire.specs.RecordText.{zone_line}
use Rattle.record_wire.specs.RecordText as text
use Rattle.record_wire.specs.ZoneText.{whole_name, word}
use Rattle.record_wire.proofs.NameReads.{names_one}

-- ---- names that are read and those that are not

pub no_names : (message bytes : List ℕ) → ((shown : List ℕ) → NameReads message bytes shown → ⊥)
    → (labels : List (List ℕ)) → Names message bytes labels → ⊥
no_names message bytes none labels names =
    none (whole_name labels) (record { labels = labels; names = names; is = refl })

-- what is put in other words
pub kind_put : {O V E : Type 0} (took : O → List ℕ → O → Type 0) (a b : O) (r : Result V E)
    (Kind Other : List ℕ → V → Type 0) → ((shown : List ℕ) (v : V) → Kind shown v → Other shown v)
    → IfOk r (λ v. PutsSome took a b (λ shown. Kind shown v)) → IfOk r (λ v. PutsSome took a b (λ shown. Other shown v))
kind_put took a b (Ok v) Kind Other forth (shown, is, calls) = (shown, forth shown v is, calls)
kind_put took a b (Err e) Kind Other forth puts = tt

-- ---- questions and records, up to the data

pub plain_asked : (labels : List (List ℕ)) (class : ℕ) (kind : RecordType)
    → whole_name labels ++ (word (class_text class) ++ word (type_display kind)) ≡ question_text labels class kind
unfolding word
plain_asked labels class kind = refl

pub plain_front : (r : RecordTextValue) (name : List ℕ) → name ≡ whole_name r.name
    → name ++ word (decimal r.ttl) ++ (word (class_text r.class) ++ word (type_display r.kind)) ++ codes " "
    ++ data_text r.«data» ≡ zone_line r
unfolding word
plain_front r name is =
    ap (λ (n : List ℕ). n ++ (32 ∷ decimal r.ttl) ++ ((32 ∷ class_text r.class) ++ (32 ∷ type_display r.kind))
    ++ codes " " ++ data_text r.«data») is
    ∙ grind (arith, append_assoc)

-- ---- data

-- data of numbers and then a name
module _ (front message bytes shown : List ℕ) where
  named : (numbers : List ℕ) (make : List (List ℕ)
      → DataTextValue) (value : rdata.RDataValue) (why : Option NameRefusal)
      → ((labels : List (List ℕ)) → front ++ numbers_text numbers ++ whole_name labels ≡ front
      ++ data_text (make labels))
      → ((labels : List (List ℕ)) → Names message bytes labels → IsDataText message value (make labels))
      → ((read : DataTextValue) → IsDataText message value read → HasName bytes message)
      → ((why : NameRefusal) → RefusesName bytes message why → text.RefusesNameIn message value why)
      → NamedPuts (front ++ numbers_text numbers) message bytes shown why → DataPuts front message value shown why
  named numbers make value None is back forth refuses (name, read, whole) = (
    make read.labels,
    back read.labels read.names,
    whole ∙ ap (λ (n : List ℕ). front ++ numbers_text numbers ++ n) read.is ∙ is read.labels,
  )
  named numbers make value (Some why) is back forth refuses (none, refused, empty) = (
    (λ read data_is. let has = forth read data_is in none has.0 has.1),
    refuses why refused,
    empty,
  )

  pub name_put : (why : Option NameRefusal) → NamedPuts (front ++ numbers_text []) message bytes shown why
      → DataPuts front message (rdata.name bytes) shown why
  name_put why =
      named [] text.name (rdata.name bytes) why
      (λ labels. ap (λ (l : List ℕ). l ++ whole_name labels) (append-nil front))
      (λ labels names. (labels, names, refl)) (λ read (labels, names, e). (labels, names)) (λ w r. r)

  pub mail_put : (preference : ℕ) (why : Option NameRefusal)
      → NamedPuts (front ++ numbers_text (preference ∷ [])) message bytes shown why
      → DataPuts front message (rdata.mail preference bytes) shown why
  mail_put preference why =
      named (preference ∷ []) (text.mail preference) (rdata.mail preference bytes) why
      (λ labels. grind (arith, append_assoc, append-nil))
      (λ labels names. (labels, names, refl)) (λ read (labels, names, e). (labels, names)) (λ w r. r)

  pub service_put : (priority weight port : ℕ) (why : Option NameRefusal)
      → NamedPuts (front ++ numbers_text (priority ∷ weight ∷ port ∷ [])) message bytes shown why
      → DataPuts front message (rdata.service priority weight port bytes) shown why
  service_put priority weight port why =
      named (priority ∷ weight ∷ port ∷ []) (text.service priority weight port)
      (rdata.service priority weight port bytes) why
      (λ labels. grind (arith, append_assoc, append-nil))
      (λ labels names. (labels, names, refl)) (λ read (labels, names, e). (labels, names)) (λ w r. r)

-- who is responsible
pub authority_put : (front message : List ℕ) (soa : rdata.AuthorityValue) (primary mailbox : List ℕ)
    → NameReads message soa.primary primary → NameReads message soa.mailbox mailbox
    → DataPuts front message (rdata.authority soa) (front ++ (primary ++ (codes " " ++ (mailbox
    ++ (word (decimal soa.serial) ++ (word (decimal soa.refresh) ++ (word (decimal soa.retry)
    ++ (word (decimal soa.expire) ++ word (decimal soa.minimum))))))))) None
unfolding word
authority_put front message soa primary mailbox first second =
    let read : AuthorityTextValue = record {
      primary = first.labels;
      mailbox = second.labels;
      serial = soa.serial;
      refresh = soa.refresh;
      retry = soa.retry;
      expire = soa.expire;
      minimum = soa.minimum;
    } in
    let numbers = (32 ∷ decimal soa.serial) ++ ((32 ∷ decimal soa.refresh) ++ ((32 ∷ decimal soa.retry)
    ++ ((32 ∷ decimal soa.expire) ++ (32 ∷ decimal soa.minimum)))) in (
      text.authority read,
      (
        read,
        record {
          primary_is = first.names;
          mailbox_is = second.names;
          serial = refl;
          refresh = refl;
          retry = refl;
          expire = refl;
          minimum = refl;
        },
        refl,
      ),
      ap (λ (n : List ℕ). front ++ (n ++ (codes " " ++ (mailbox ++ numbers)))) first.is
          ∙ ap (λ (n : List ℕ). front ++ (whole_name first.labels ++ (codes " " ++ (n ++ numbers)))) second.is,
    )

pub no_authority : (front message : List ℕ) (soa : rdata.AuthorityValue) (why : NameRefusal)
    → ((read : AuthorityTextValue) → IsAuthorityText message soa read → ⊥) → RefusesNamesOf message soa why
    → DataPuts front message (rdata.authority soa) [] (Some why)
no_authority front message soa why none refused = ((λ value (read, is, e). none read is), refused, refl)

-- ---- data is read in one way

second_one : (message : List ℕ) (bytes : Option (List ℕ)) (a b : Option (List (List ℕ))) → IsSecondText message bytes a
    → IsSecondText message bytes b → b ≡ a
second_one message None a b first second = second ∙ sym first
second_one message (Some bytes) a b (labels, names, e) (others, more, f) =
    f ∙ ap (λ (l : List (List ℕ)). Some l) (names_one message bytes labels others names more) ∙ sym e

pub data_one : (message : List ℕ) (value : rdata.RDataValue) (a b : DataTextValue) → IsDataText message value a
    → IsDataText message value b → b ≡ a
data_one message (rdata.address4 address) a b first second = second ∙ sym first
data_one message (rdata.address6 address) a b first second = second ∙ sym first
data_one message (rdata.name bytes) a b (labels, names, e) (others, more, f) =
    f ∙ ap text.name (names_one message bytes labels others names more) ∙ sym e
data_one message (rdata.mail preference bytes) a b (labels, names, e) (others, more, f) =
    f ∙ ap (text.mail preference) (names_one message bytes labels others names more) ∙ sym e
data_one message (rdata.service priority weight port bytes) a b (labels, names, e) (others, more, f) =
    f ∙ ap (text.service priority weight port) (names_one message bytes labels others names more) ∙ sym e
data_one message (rdata.authority soa) a b (read, is, e) (other, also, f) =
    let same : other ≡ read = λ i. record {
      primary = names_one message soa.primary read.primary other.primary is.primary_is also.primary_is i;
      mailbox = names_one message soa.mailbox read.mailbox other.mailbox is.mailbox_is also.mailbox_is i;
      serial = (also.serial ∙ sym is.serial) i;
      refresh = (also.refresh ∙ sym is.refresh) i;
      retry = (also.retry ∙ sym is.retry) i;
      expire = (also.expire ∙ sym is.expire) i;
      minimum = (also.minimum ∙ sym is.minimum) i;
    } in
    f ∙ ap text.authority same ∙ sym e
data_one message (rdata.strings bytes) a b first second = second ∙ sym first
data_one message (rdata.fields those) a b (read, is, e) (other, also, f) =
    let same : other ≡ read = λ i. record {
      front = (also.front_is ∙ sym is.front_is) i;
      first = names_one message those.first read.first other.first is.first also.first i;
      second = second_one message those.second read.second other.second is.second_is also.second_is i;
      «rest» = (also.rest_is ∙ sym is.rest_is) i;
    } in
    f ∙ ap text.fields same ∙ sym e
data_one message (rdata.other bytes) a b first second = second ∙ sym first

-- data whose names read is put
pub own_put : {O : Type 0} (took : O → List ℕ → O
    → Type 0) (a b : O) (front message : List ℕ) (value : rdata.RDataValue)
    (read : DataTextValue) (why : Option NameRefusal) → IsDataText message value read
    → PutsSome took a b (λ shown. DataPuts front message value shown why)
    → WritesInCalls took a (front ++ data_text read) b
own_put took a b front message value read None is (shown, (found, also, whole), calls) =
    let same = ap (λ (d : DataTextValue). front ++ data_text d) (data_one message value read found is also) in
    subst (λ (t : List ℕ). WritesInCalls took a t b) (whole ∙ same) calls
own_put took a b front message value read (Some why) is (shown, (none, refused, empty), calls) = absurd (none read is)
