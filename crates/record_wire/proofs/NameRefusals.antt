-- Where the reading of a name fails.
use Rattle.record_wire.proofs.Words.{◌≡◌, ◌+◌, ◌<◌, ◌≤◌, [], ◌∷◌, ◌++◌, ◌∙◌, AllByRecursion, IsLabel, IsNoPart}
use Rattle.record_wire.proofs.Words.{LabelsAtFront, List, PartRefusal, Points-front, RefusesName, Whole-front, ℕ, ap}
use Rattle.record_wire.proofs.Words.{append_assoc, arith, cases_lt, drop, front_of, inl, inr, length, length-append}
use Rattle.record_wire.proofs.Words.{most_pointers, pointer, refl, stop, subst, sym, take, torn, whole, written}
use Rattle.record_wire.proofs.Words.{written_all}
use Rattle.dns_wire.proofs.DnsNameTurns.{front-whole}
use Rattle.record_wire.specs.private.NameParts.{HasLabelsOfName}
use Rattle.record_wire.specs.NameRefusal.{PointsTo, ComesTo, begins, passes, follows, IsLeft}
use Rattle.record_wire.proofs.NameParts.{IsReadTo, nothing_read, pointer_read, labels_read, all_read, in_front}
use Rattle.record_wire.proofs.NameParts.{behind_front}
use Rattle.record_wire.specs.declared.name.refusal.NameRefusal.{NameRefusal}

-- ---- labels that are passed over

-- labels with which the name is too long, or after which reading goes on
long_by : (text message left opened behind : List ℕ) (octets pointers : ℕ) (labels : List (List ℕ))
    → AllByRecursion IsLabel labels → left ≡ written_all labels ++ behind
    → ComesTo text message octets pointers left opened → octets < 255
    → 255 ≤ octets + length (written_all labels) → RefusesName text message NameRefusal.TooLong
long_by text message left opened behind octets pointers [] each is comes room long =
    absurd (omega (arith, room, long))
long_by text message left opened behind octets pointers (bytes ∷ labels) each is comes room long =
    let there : left ≡ written bytes ++ (written_all labels ++ behind) =
    is ∙ append_assoc (written bytes) (written_all labels) behind in
    elim (cases_lt (octets + length (written bytes)) 255) [
      | inl fits ↦
          long_by text message (written_all labels ++ behind) opened behind (octets + length (written bytes)) pointers
          labels each.1 refl
          (passes octets pointers bytes left opened comes each.0 there refl fits) fits
          (omega (arith, long, length-append (written bytes) (written_all labels)))
      | inr far ↦ (
        left,
        bytes,
        written_all labels ++ behind,
        record { octets = octets; pointers = pointers; opened = opened; comes = comes },
        each.0,
        there,
        omega (arith, far),
      )
    ]

passes_all : (text message left opened behind : List ℕ) (octets pointers all : ℕ) (labels : List (List ℕ))
    → AllByRecursion IsLabel labels → left ≡ written_all labels ++ behind
    → ComesTo text message octets pointers left opened → all ≡ octets + length (written_all labels) → all < 255
    → ComesTo text message all pointers behind opened
passes_all text message left opened behind octets pointers all [] each is comes sum room =
    subst (λ (n : ℕ). ComesTo text message n pointers behind opened) (omega (arith, sum))
    (subst (λ (l : List ℕ). ComesTo text message octets pointers l opened) is comes)
passes_all text message left opened behind octets pointers all (bytes ∷ labels) each is comes sum room =
    let next = octets + length (written bytes) in
    let more : all ≡ next + length (written_all labels) =
    omega (arith, sum, length-append (written bytes) (written_all labels)) in
    passes_all text message (written_all labels ++ behind) opened behind next pointers all labels each.1 refl
    (passes octets pointers bytes left opened comes each.0
    (is ∙ append_assoc (written bytes) (written_all labels) behind) refl (omega (arith, more, room)))
    more room

-- ---- what was read, and where reading came to

pub record IsAt (text message octets left opened : List ℕ) (pointers : ℕ) : Type 0 where
  pub read : IsReadTo text message octets left opened pointers
  pub comes : ComesTo text message (length octets) pointers left opened
  pub room : length octets < 255
  pub few : pointers ≤ most_pointers

pub at_start : (text message octets : List ℕ) → octets ≡ [] → IsAt text message octets text message 0
at_start text message octets none = record {
  read = nothing_read text message octets none;
  comes = subst (λ (o : List ℕ). ComesTo text message (length o) 0 text message) (sym none) begins;
  room = omega (arith, ap length none);
  few = omega arith;
}

front_length : (left : List ℕ) (len : ℕ) (front : LabelsAtFront left len)
    → length (take len left) ≡ length (written_all front.labels)
front_length left len front = ap length (in_front left len front)

module _ (text message octets left opened : List ℕ) (pointers len : ℕ)
    (so : IsAt text message octets left opened pointers) (front : LabelsAtFront left len) where
  pub at_labels : (next : List ℕ) → length octets + length (take len left) < 255 → next ≡ octets ++ take len left
      → IsAt text message next (drop len left) opened pointers
  at_labels next room pushed =
      let sum : length next ≡ length octets + length (written_all front.labels) =
      omega (arith, ap length pushed, length-append octets (take len left), front_length left len front) in
      let fits : length next < 255 = omega (arith, sum, room, front_length left len front) in
      record {
        read = labels_read text message octets next left opened pointers len so.read front pushed;
        comes = subst (λ (l : List ℕ). ComesTo text message (length next) pointers l opened)
            (sym (behind_front left len front))
            (passes_all text message left opened front.rest (length octets) pointers (length next) front.labels
            front.each front.is so.comes sum fits);
        room = fits;
        few = so.few;
      }

  -- labels that do not fit
  pub labels_long : 255 ≤ length octets + length (take len left) → RefusesName text message NameRefusal.TooLong
  labels_long long =
      long_by text message left opened front.rest (length octets) pointers front.labels front.each front.is so.comes
      so.room (omega (arith, long, front_length left len front))

pub points : (left : List ℕ) (place : ℕ) → pointer place ≡ front_of left → PointsTo left place
points left place e =
    let at = Points-front left place (sym e) in
    (at.first, at.second, at.rest, at.is, at.high, at.low)

pub at_pointer : (text message octets left opened : List ℕ) (pointers place : ℕ)
    → IsAt text message octets left opened pointers
    → pointer place ≡ front_of left → place < length opened → pointers + 1 ≤ most_pointers
    → IsAt text message octets (drop place opened) (take place opened) (pointers + 1)
at_pointer text message octets left opened pointers place so e inside few = record {
  read = pointer_read text message octets left opened pointers place so.read e inside;
  comes = follows (length octets) pointers place left opened so.comes (points left place e) inside refl few refl refl;
  room = so.room;
  few = few;
}

-- ---- the ends

-- the name that was read
pub named : (text message octets left opened next : List ℕ) (pointers : ℕ)
    → IsAt text message octets left opened pointers → stop ≡ front_of left → next ≡ octets ++ 0 ∷ []
    → HasLabelsOfName text message next
named text message octets left opened next pointers so e ends = record {
  labels = so.read.done;
  names = all_read text message octets left opened pointers so.read e so.room so.few;
  written = ends ∙ ap (λ (o : List ℕ). o ++ 0 ∷ []) so.read.written;
}

place_left : (text message octets left opened : List ℕ) (pointers : ℕ)
    → IsAt text message octets left opened pointers → IsLeft text message left
place_left text message octets left opened pointers so =
    record { octets = length octets; pointers = pointers; opened = opened; comes = so.comes }

-- a label after which the name has too many octets
pub label_long : (text message octets left opened bytes rest : List ℕ) (pointers : ℕ)
    → IsAt text message octets left opened pointers → whole bytes rest ≡ front_of left
    → 255 ≤ length octets + (1 + length bytes) → RefusesName text message NameRefusal.TooLong
unfolding place_left
label_long text message octets left opened bytes rest pointers so e far =
    let w = Whole-front left bytes rest (sym e) in (
      left,
      bytes,
      rest,
      place_left text message octets left opened pointers so,
      (w.some, w.few),
      w.is,
      omega (arith, far),
    )

pub far_pointer : (text message octets left opened : List ℕ) (pointers place : ℕ)
    → IsAt text message octets left opened pointers
    → pointer place ≡ front_of left → length opened ≤ place → RefusesName text message (NameRefusal.Pointer place)
unfolding place_left
far_pointer text message octets left opened pointers place so e far =
    (left, place_left text message octets left opened pointers so, points left place e, far)

pub one_pointer_more : (text message octets left opened : List ℕ) (pointers place : ℕ)
    → IsAt text message octets left opened pointers
    → pointer place ≡ front_of left → place < length opened → pointers ≡ most_pointers
    → RefusesName text message NameRefusal.TooManyPointers
unfolding place_left
one_pointer_more text message octets left opened pointers place so e inside most =
    (left, place, place_left text message octets left opened pointers so, points left place e, inside, most)

-- torn octets do not begin with a label
torn_front : (left behind : List ℕ) (labels : List (List ℕ)) → AllByRecursion IsLabel labels
    → left ≡ written_all labels ++ behind → torn ≡ front_of left → left ≡ behind
torn_front left behind [] each is e = is
torn_front left behind (bytes ∷ labels) each is e =
    let there : left ≡ written bytes ++ (written_all labels ++ behind) =
    is ∙ append_assoc (written bytes) (written_all labels) behind in
    cc (e ∙ (ap front_of there ∙ front-whole bytes (written_all labels ++ behind) each.0.0 each.0.1))

pub part_refused : (text message octets left opened : List ℕ) (pointers : ℕ) (refusal : PartRefusal)
    → IsAt text message octets left opened pointers → torn ≡ front_of left
    → IsNoPart left refusal → RefusesName text message (NameRefusal.Part refusal)
part_refused text message octets left opened pointers PartRefusal.Cut so e (behind, there, cut) = (
  behind,
  subst (λ (l : List ℕ). IsLeft text message l) (torn_front left behind there.labels there.each there.is e)
      (place_left text message octets left opened pointers so),
  cut,
)
part_refused text message octets left opened pointers (PartRefusal.LabelType n) so e (rest, there, low, high) = (
  rest,
  subst (λ (l : List ℕ). IsLeft text message l) (torn_front left (n ∷ rest) there.labels there.each there.is e)
      (place_left text message octets left opened pointers so),
  low,
  high,
)
