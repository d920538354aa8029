-- The front of an object in JSON.
use Rattle.std.specs.Prelude.{[], ◌∷◌, ◌++◌, Bool, List, Option, codes, if◌then◌else◌, true, ℕ}
use Rattle.json.specs.Print.{quoted}
use Rattle.packet_fields.specs.Fields.{Leaf, items_text, leaf_text, text}
use Rattle.packet_fields.specs.declared.form.Form.TheVariants.{Json}
use Rattle.dump_captures.specs.Heading.{file_items}
use Rattle.dump_captures.specs.Pairing.{as_words, waiting_text}

abbrev pub object_front : List ℕ → Leaf → List ℕ
object_front key value = (codes "{" ++ quoted key ++ codes ":") ++ leaf_text Json value

-- what stands before the members of an object behind those of packets
abbrev pub summary_front : List ℕ → Option (List ℕ) → List ℕ
summary_front word file = object_front (codes "summary") (text word) ++ items_text Json (file_items file)

-- lines on one
abbrev pub line_of : List ℕ → List ℕ
line_of lines = waiting_text ++ as_words true lines ++ codes "\n"

abbrev pub octet_unless : ℕ → Bool → List ℕ
octet_unless octet is_left_out = if is_left_out then [] else octet ∷ []
