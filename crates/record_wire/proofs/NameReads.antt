-- The texts of names that are read.
use Rattle.record_wire.proofs.Words.{◌≡◌, ◌<◌, [], ◌∷◌, ◌++◌, ◌∙◌, AreOfName, IsAscii, IsAscii-cons, IsAscii-nil}
use Rattle.record_wire.proofs.Words.{List, Names, ℕ, ap, append-nil, are_usual, arith, dotted, is_usual, refl, rules}
use Rattle.record_wire.proofs.Words.{sym}
use Rattle.record_wire.proofs.Words.{true, wire}
use Rattle.std.proofs.lemmas.Bool.{and_parts}
use Rattle.std.proofs.lemmas.Str.{IsAscii-append}
use Rattle.dns_wire.proofs.DnsNameTheorem.{complete_follows}
use Rattle.record_wire.specs.NameDotted.{dotted_text, is_usual_label, AreUsual}
use Rattle.record_wire.specs.private.NameReads.{NameReads}
use Rattle.record_wire.specs.ZoneText.{whole_name}
use Rattle.record_wire.proofs.NameDotted.{usual_name}

-- ---- one name has one list of labels

pub names_one : (message bytes : List ℕ) (labels others : List (List ℕ)) → Names message bytes labels
    → Names message bytes others → others ≡ labels
names_one message bytes labels others a b =
    let first = a.name_is.is in
    let second = b.name_is.is in
    let only = complete_follows bytes message first.targets first.parts first.path in
    let follows = complete_follows bytes message second.targets second.parts second.path in
    second.is ∙ only.1 _ follows.0 ∙ sym first.is

-- the octets of a whole name are that name in any message
pub own_name : (message : List ℕ) (labels : List (List ℕ)) → AreOfName labels → Names message (wire labels) labels
own_name message labels are = record {
  name_is = record {
    is = record {
      targets = [];
      parts = labels ∷ [];
      path = record {
        falls = tt;
        parts_lead = (record { mark = 0 ∷ []; rest = []; each = are.each; stops = refl; whole = refl }, tt);
      };
      is = sym (append-nil labels);
    };
    few = omega arith;
  };
  fits = are;
}

-- ---- texts

-- a name that was read
pub reads : (message bytes : List ℕ) (labels : List (List ℕ)) → Names message bytes labels
    → NameReads message bytes (whole_name labels)
reads message bytes labels names = record { labels = labels; names = names; is = refl }

-- a name whose text was put
pub reads_usual : (message bytes text : List ℕ) (labels : List (List ℕ)) → AreUsual bytes message labels
    → text ≡ dotted_text labels → NameReads message bytes text
unfolding whole_name
reads_usual message bytes text [] usual is = record { labels = []; names = usual.names; is = is }
reads_usual message bytes text (label ∷ labels) usual is = record {
  labels = label ∷ labels;
  names = usual.names;
  is = is ∙ usual_name label labels usual.usual;
}

pub own_octets : (message octets : List ℕ) (labels : List (List ℕ)) → octets ≡ wire labels → AreOfName labels
    → Names message octets labels
own_octets message octets labels is are = rw is (own_name message labels are)

-- the text of a whole name
pub own_reads : (message octets : List ℕ) (labels : List (List ℕ)) → octets ≡ wire labels → AreOfName labels
    → NameReads message octets (whole_name labels)
own_reads message octets labels is are =
    reads message octets labels (own_octets message octets labels is are)

pub own_text : (message octets text : List ℕ) (labels : List (List ℕ)) → octets ≡ wire labels → AreOfName labels
    → NameReads message octets text → text ≡ whole_name labels
own_text message octets text labels is are read =
    read.is
    ∙ ap whole_name (names_one message octets labels read.labels (own_octets message octets labels is are) read.names)

-- its text is ASCII
usual_small : (byte : ℕ) → is_usual byte ≡ true → byte < 128
usual_small byte usual = search rules

usual_label_ascii : (label : List ℕ) → is_usual_label label ≡ true → IsAscii label
usual_label_ascii [] usual = IsAscii-nil
usual_label_ascii (byte ∷ label) usual =
    let parts = and_parts (is_usual byte) (is_usual_label label) usual in
    IsAscii-cons byte label (usual_small byte parts.0) (usual_label_ascii label parts.1)

dotted_ascii : (labels : List (List ℕ)) → are_usual labels ≡ true → IsAscii (dotted labels)
dotted_ascii [] usual = IsAscii-nil
dotted_ascii (label ∷ labels) usual =
    let parts = and_parts (is_usual_label label) (are_usual labels) usual in
    let dot : IsAscii (46 ∷ []) = IsAscii-cons 46 [] (omega arith) IsAscii-nil in
    IsAscii-append (label ++ 46 ∷ []) (dotted labels)
    (IsAscii-append label (46 ∷ []) (usual_label_ascii label parts.0) dot) (dotted_ascii labels parts.1)

pub usual_ascii : (labels : List (List ℕ)) → are_usual labels ≡ true → IsAscii (dotted_text labels)
usual_ascii [] usual = IsAscii-cons 46 [] (omega arith) IsAscii-nil
usual_ascii (label ∷ labels) usual = dotted_ascii (label ∷ labels) usual
