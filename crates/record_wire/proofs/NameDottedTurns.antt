-- The text of a name that is put label by label.
use Rattle.record_wire.proofs.Words.{◌≡◌, ◌↔◌, ◌+◌, ◌-◌, ◌<◌, ◌≤◌, [], ◌∷◌, ◌++◌, ◌∙◌, AllByRecursion, IsLabel, IsSome}
use Rattle.record_wire.proofs.Words.{List, Names, None, Whole-front, ℕ, ap, append-nil, append_assoc, are_usual, arith}
use Rattle.record_wire.proofs.Words.{codes, count_by, dotted, drop, flat_map-append, front_of, is_usual, labels_in}
use Rattle.record_wire.proofs.Words.{length, length-append, length-take-le, most_pointers, pointer, refl, stop, sym}
use Rattle.record_wire.proofs.Words.{take, take-append_seam, torn, whole, written, written_all}
use Rattle.std.proofs.lemmas.List.{take-take}
use Rattle.std.proofs.lemmas.Slice.{take-put_mid}
use Rattle.std.proofs.Math.Seq.{take-append-add}
use borrow.Rule.Slice.PartMut.{put_mid}
use Rattle.record_wire.specs.NameDotted.{dotted_text, AreUsual}
use Rattle.record_wire.specs.private.NameParts.{StandInFront}
use Rattle.record_wire.proofs.LabelLists.{in_written, in_nothing, written_more, each_more}
use Rattle.record_wire.proofs.NameDotted.{front_usual}
use Rattle.record_wire.proofs.NameParts.{IsReadTo, nothing_read, pointer_read, label_read, all_read, all_same}
use Rattle.record_wire.proofs.NameParts.{no_name_far, no_name_torn, no_name_more, room_read, drop_whole}

-- ---- a label in its place

-- what is put before a place ends at that place
copied : (room part : List ℕ) (at n len : ℕ) → at + n ≤ length room → length part ≡ n → len ≤ n
    → take (at + len) (put_mid at n room part) ≡ take at room ++ take len part
copied room part at n len fits long within =
    let front = length-take-le at room (omega arith) in
    let all = take-put_mid at n room part (at + n) (omega arith) (omega arith) in
    sym (take-take (at + len) (at + n) (put_mid at n room part) (omega arith))
    ∙ ap (take (at + len)) all ∙ rw front at (take-append-add (take at room) part len)

-- a label of which a piece of the text was copied that the label begins
pub piece_copied : (room label ahead part : List ℕ) (at n : ℕ) → at + n ≤ length room → n ≤ length ahead
    → length label ≤ n → StandInFront label ahead → part ≡ take n ahead
    → take (at + length label) (put_mid at n room part) ≡ take at room ++ label
piece_copied room label ahead part at n fits long within front is =
    let count : length part ≡ n = ap length is ∙ length-take-le n ahead long in
    let seam : take (length label) ahead ≡ label =
    ap (λ t. take (length label) t) front.is ∙ take-append_seam label front.rest in
    copied room part at n (length label) fits count within
    ∙ ap (λ t. take at room ++ t)
    (ap (λ t. take (length label) t) is ∙ (take-take (length label) n ahead within ∙ seam))

-- ---- the text so far

-- The start of the buffer has the labels that were read, each before a dot.
pub record IsPutTo (text message left reach room : List ℕ) (at dots pointers : ℕ) : Type 0 where
  pub whole : length room ≡ 256
  pub octets : List ℕ
  pub read : IsReadTo text message octets left reach pointers
  pub follows : pointers ≤ most_pointers
  pub long : length octets ≡ at
  pub few : at ≤ 254
  pub less : dots ≤ at
  pub put : take at room ≡ dotted (labels_in octets)
  pub counted : dots ≡ length (labels_in octets)

pub nothing_put : (text message room : List ℕ) → length room ≡ 256 → IsPutTo text message text message room 0 0 0
nothing_put text message room long = record {
  whole = long;
  octets = [];
  read = nothing_read text message [] refl;
  follows = omega arith;
  long = refl;
  few = omega arith;
  less = omega arith;
  put = ap dotted (sym in_nothing);
  counted = ap length (sym in_nothing);
}

pub pointer_put : (text message left reach room : List ℕ) (at dots pointers target : ℕ) (rest front : List ℕ)
    → IsPutTo text message left reach room at dots pointers → pointer target ≡ front_of left → target < length reach
    → rest ≡ drop target reach → front ≡ take target reach → pointers + 1 ≤ most_pointers
    → IsPutTo text message rest front room at dots (pointers + 1)
pointer_put text message left reach room at dots pointers target rest front p e inside others leading few = record {
  whole = p.whole;
  octets = p.octets;
  read = rw (others, leading) (pointer_read text message p.octets left reach pointers target p.read e inside);
  follows = few;
  long = p.long;
  few = p.few;
  less = p.less;
  put = p.put;
  counted = p.counted;
}

one_label : (left bytes rest : List ℕ) → whole bytes rest ≡ front_of left → IsLabel bytes
one_label left bytes rest e =
    let w = Whole-front left bytes rest (sym e) in
    (w.some, w.few)

-- a label precedes what is cut off by its length
pub behind_length : (left label rest : List ℕ) → whole label rest ≡ front_of left
    → StandInFront label (take (length left - 1) (drop 1 left))
behind_length left label rest e =
    let w = Whole-front left label rest (sym e) in
    record { rest = rest; is = drop_whole 1 left ∙ ap (λ (t : List ℕ). drop 1 t) w.is }

-- the labels in octets, and one that is written after them
one_more : (octets label : List ℕ) (done : List (List ℕ)) → AllByRecursion IsLabel done
    → octets ≡ written_all done → IsLabel label
    → labels_in (octets ++ written label) ≡ labels_in octets ++ label ∷ []
one_more octets label done each is one =
    in_written (octets ++ written label) (done ++ label ∷ []) (each_more done label each one)
    (ap (λ (o : List ℕ). o ++ written label) is ∙ sym (written_more done label))
    ∙ ap (λ (ls : List (List ℕ)). ls ++ label ∷ []) (sym (in_written octets done each is))

dotted_more : (labels : List (List ℕ)) (label : List ℕ)
    → dotted (labels ++ label ∷ []) ≡ dotted labels ++ label ++ codes "."
dotted_more labels label =
    flat_map-append (λ (l : List ℕ). l ++ codes ".") labels (label ∷ [])
    ∙ (ap (λ (t : List ℕ). dotted labels ++ t) (append-nil (label ++ codes "."))
    ∙ sym (append_assoc (dotted labels) label (codes ".")))

pub label_put : (text message left reach room next label rest : List ℕ) (at dots pointers end : ℕ)
    → IsPutTo text message left reach room at dots pointers → whole label rest ≡ front_of left
    → length next ≡ 256 → at + length label < 254 → end ≡ at + length label + 1
    → take end next ≡ take at room ++ label ++ codes "."
    → IsPutTo text message rest reach next end (dots + 1) pointers
label_put text message left reach room next label rest at dots pointers end p e entire fits ends is =
    let more = one_more p.octets label p.read.done p.read.each p.read.written (one_label left label rest e) in
    record {
      whole = entire;
      octets = p.octets ++ written label;
      read = label_read text message p.octets left reach label rest pointers p.read e;
      follows = p.follows;
      long = omega (arith, length-append p.octets (written label), p.long, ends);
      few = omega (arith, ends, fits);
      less = omega (arith, p.less, ends);
      put = is
          ∙ (ap (λ (t : List ℕ). t ++ label ++ codes ".") p.put
          ∙ (sym (dotted_more (labels_in p.octets) label) ∙ ap dotted (sym more)));
      counted = omega (arith, p.counted, ap length more, length-append (labels_in p.octets) (label ∷ []));
    }

-- ---- names without such a text

pub none_of : (text message : List ℕ) → ((labels : List (List ℕ)) → AreUsual text message labels → ⊥)
    → IsSome {T = ℕ} None ↔ ((labels : List (List ℕ)) × AreUsual text message labels)
none_of text message none = (λ e. cc e, λ are. absurd (none are.0 are.1))

pub no_room : (text message left reach room label rest : List ℕ) (at dots pointers : ℕ)
    → IsPutTo text message left reach room at dots pointers → whole label rest ≡ front_of left
    → (at + length label < 254 → ⊥) → (labels : List (List ℕ)) → AreUsual text message labels → ⊥
no_room text message left reach room label rest at dots pointers p e far labels usual =
    let next = label_read text message p.octets left reach label rest pointers p.read e in
    let few =
    room_read text message (p.octets ++ written label) rest reach pointers next labels usual.names.name_is.is
    usual.names.fits in
    omega (arith, few, far, p.long, length-append p.octets (written label))

pub leads_nowhere : (text message left reach room : List ℕ) (at dots pointers target : ℕ)
    → IsPutTo text message left reach room at dots pointers → pointer target ≡ front_of left → length reach ≤ target
    → (labels : List (List ℕ)) → AreUsual text message labels → ⊥
leads_nowhere text message left reach room at dots pointers target p e far labels usual =
    no_name_far text message p.octets left reach pointers target p.read e far labels usual.names.name_is.is

pub leads_on : (text message left reach room : List ℕ) (at dots pointers target : ℕ)
    → IsPutTo text message left reach room at dots pointers → pointer target ≡ front_of left → target < length reach
    → pointers ≡ most_pointers → (labels : List (List ℕ)) → AreUsual text message labels → ⊥
leads_on text message left reach room at dots pointers target p e inside most labels usual =
    no_name_more text message p.octets left reach pointers target p.read e inside most labels usual.names

pub is_torn : (text message left reach room : List ℕ) (at dots pointers : ℕ)
    → IsPutTo text message left reach room at dots pointers → torn ≡ front_of left
    → (labels : List (List ℕ)) → AreUsual text message labels → ⊥
is_torn text message left reach room at dots pointers p e labels usual =
    no_name_torn text message p.octets left reach pointers p.read e labels usual.names.name_is.is

-- the labels of the name are those that were put
all_put : (text message left reach room : List ℕ) (at dots pointers : ℕ)
    (p : IsPutTo text message left reach room at dots pointers)
    → stop ≡ front_of left → (labels : List (List ℕ)) → AreUsual text message labels
    → labels_in p.octets ≡ labels
all_put text message left reach room at dots pointers p e labels usual =
    in_written p.octets labels usual.names.fits.each
    (all_same text message p.octets left reach pointers p.read e labels usual.names.name_is.is)

no_labels : (labels : List (List ℕ)) → length (written_all labels) ≡ 0 → labels ≡ []
no_labels [] h = refl
no_labels (label ∷ labels) h = absurd (omega (arith, h))

some_labels : (labels : List (List ℕ)) → 1 ≤ length (written_all labels) → dotted labels ≡ dotted_text labels
some_labels [] h = absurd (omega (arith, h))
some_labels (label ∷ labels) h = refl

module _ (text message left reach room : List ℕ) (at dots pointers : ℕ)
    (p : IsPutTo text message left reach room at dots pointers) (e : stop ≡ front_of left) where
  names_put : Names message text p.read.done
  names_put =
      all_read text message p.octets left reach pointers p.read e (omega (arith, p.long, p.few)) p.follows

  -- the root
  pub is_root : (next : List ℕ) → at ≡ 0 → take 1 next ≡ codes "."
      → (labels : List (List ℕ)) × AreUsual text message labels × (take 1 next ≡ dotted_text labels)
  is_root next zero dot =
      let none = no_labels p.read.done (omega (arith, ap length p.read.written, p.long, zero)) in (
        p.read.done,
        record { names = names_put; usual = ap are_usual none },
        dot ∙ ap dotted_text (sym none),
      )

  module _ (count : ℕ) (is : count ≡ count_by is_usual (take at room)) where
    pub is_unusual : (count + dots ≡ at → ⊥) → (labels : List (List ℕ)) → AreUsual text message labels → ⊥
    is_unusual other labels usual =
        let all = all_put text message left reach room at dots pointers p e labels usual in
        let few : at ≤ 255 = omega (arith, p.few) in
        let front = front_usual (labels_in p.octets) room at count dots p.whole few p.put is p.counted in
        other (front.1 (ap are_usual all ∙ usual.usual))

    -- the text of a name that was read to its end
    pub is_text : 1 ≤ at → count + dots ≡ at
        → (labels : List (List ℕ)) × AreUsual text message labels × (take at room ≡ dotted_text labels)
    is_text some sum =
        let same : labels_in p.octets ≡ p.read.done = in_written p.octets p.read.done p.read.each p.read.written in
        let few : at ≤ 255 = omega (arith, p.few) in
        let front = front_usual (labels_in p.octets) room at count dots p.whole few p.put is p.counted in (
          p.read.done,
          record { names = names_put; usual = ap are_usual (sym same) ∙ front.0 sum },
          p.put ∙ (ap dotted same
              ∙ some_labels p.read.done (omega (arith, some, p.long, ap length p.read.written))),
        )
