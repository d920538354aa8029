-- The fields of a packet, and what each prints in either form.
use Rattle.std.specs.Prelude.{◌/◌, ◌%◌, ◌==◌, ◌<◌, ◌^◌, ⊤, [], ◌∷◌, ◌++◌, Bool, List, None, Option, Some, ℕ, codes, decimal, flat_map, map}
use Rattle.std.specs.Prelude.{if◌then◌else◌, true, false}
use Rattle.hex.specs.Hex.{encode_lower}
use Rattle.json.specs.Print.{quoted}
use Rattle.wirebase.specs.Display.{truth_text}
use Rattle.wirebase.specs.Duration.{three_digits}
use Rattle.wirebase.specs.Hexadecimal.{octets_text}
use Rattle.packet_fields.specs.declared.form.Form.{Form}
use Rattle.packet_fields.specs.declared.form.Form.TheVariants.{Lines, Json}

-- ---- values

-- what stands behind a field's name: a number, a truth value, a text, octets, a time in milliseconds, texts, numbers,
-- or nothing
pub data Leaf : Type 0 where
  number : ℕ → Leaf
  truth : Bool → Leaf
  text : List ℕ → Leaf
  octets : List ℕ → Leaf
  time : ℕ → Leaf
  texts : List (List ℕ) → Leaf
  numbers : List ℕ → Leaf
  missing : Leaf

-- a number has at most 64 bits
abbrev pub AllFit : List ℕ → Type 0
AllFit [] = ⊤
AllFit (n ∷ ns) = n < 2 ^ 64 × AllFit ns

abbrev pub Fits : Leaf → Type 0
Fits (number n) = n < 2 ^ 64
Fits (time millis) = millis < 2 ^ 64
Fits (truth b) = ⊤
Fits (text t) = ⊤
Fits (octets bytes) = ⊤
Fits (texts ts) = ⊤
Fits (numbers ns) = AllFit ns
Fits missing = ⊤

-- a value, or none
abbrev pub leaf_or_missing : {V : Type 0} → (V → Leaf) → Option V → Leaf
leaf_or_missing leaf None = missing
leaf_or_missing leaf (Some value) = leaf value

-- seconds, and where they are not whole three digits of milliseconds
abbrev pub fraction_text : ℕ → List ℕ
fraction_text millis = if millis == 0 then [] else codes "." ++ three_digits millis

abbrev pub seconds_text : ℕ → List ℕ
seconds_text millis = decimal (millis / 1000) ++ fraction_text (millis % 1000) ++ codes "s"

-- texts with commas between them, or a dash for none
abbrev pub with_commas : List (List ℕ) → List ℕ
with_commas [] = codes "-"
with_commas (first ∷ rest) = first ++ flat_map (λ next. codes "," ++ next) rest

-- the same as a JSON array of strings
abbrev pub strings_text : List (List ℕ) → List ℕ
strings_text [] = codes "[]"
strings_text (first ∷ rest) = codes "[" ++ quoted first ++ flat_map (λ next. codes "," ++ quoted next) rest ++ codes "]"

-- numbers as a JSON array
abbrev pub numbers_text : List ℕ → List ℕ
numbers_text [] = codes "[]"
numbers_text (first ∷ rest) =
    codes "[" ++ decimal first ++ flat_map (λ next. codes "," ++ decimal next) rest ++ codes "]"

-- what is printed in lines, and what in JSON
abbrev pub by_form : Form → List ℕ → List ℕ → List ℕ
by_form Lines line member = line
by_form Json line member = member

-- In lines octets are hexadecimal digits, or a dash for none, and a time is in seconds. In JSON a text is a string and
-- octets are a string of digits, a number is one, so are the milliseconds of a time, and nothing is null.
abbrev pub leaf_text : Form → Leaf → List ℕ
leaf_text form (number n) = decimal n
leaf_text form (truth b) = truth_text b
leaf_text form (text t) = by_form form t (quoted t)
leaf_text form (octets bytes) = by_form form (octets_text bytes) (quoted (encode_lower bytes))
leaf_text form (time millis) = by_form form (seconds_text millis) (decimal millis)
leaf_text form (texts ts) = by_form form (with_commas ts) (strings_text ts)
leaf_text form (numbers ns) = by_form form (with_commas (map decimal ns)) (numbers_text ns)
leaf_text form missing = by_form form (codes "none") (codes "null")

-- ---- fields

-- what lines show of a value of an entry: the value, also its key, or nothing
pub data Shown : Type 0 where
  bare : Shown
  keyed : Shown
  hidden : Shown

pub record Cell : Type 0 where
  pub key : List ℕ
  pub value : Leaf
  pub shown : Shown

-- An entry of a list: what it is, its first value, and others. A line has the label, an equals sign, and the values
-- that are shown with spaces between them; in JSON it is an object.
pub record Entry : Type 0 where
  pub label_key : List ℕ
  pub label : List ℕ
  pub first_key : List ℕ
  pub first : Leaf
  pub rest : List Cell

-- a field, a number with its name, or a list of entries
pub data Item : Type 0 where
  field : List ℕ → Leaf → Item
  named : List ℕ → ℕ → Option (List ℕ) → Item
  entries : List ℕ → List Entry → Item

abbrev pub CellsFit : List Cell → Type 0
CellsFit [] = ⊤
CellsFit (c ∷ rest) = Fits c.value × CellsFit rest

abbrev pub EntriesFit : List Entry → Type 0
EntriesFit [] = ⊤
EntriesFit (e ∷ rest) = Fits e.first × CellsFit e.rest × EntriesFit rest

abbrev pub ItemFits : Item → Type 0
ItemFits (field key value) = Fits value
ItemFits (named key n name) = n < 2 ^ 64
ItemFits (entries key es) = EntriesFit es

abbrev pub ItemsFit : List Item → Type 0
ItemsFit [] = ⊤
ItemsFit (item ∷ rest) = ItemFits item × ItemsFit rest

-- the key of a number's name
abbrev pub name_key : List ℕ → List ℕ
name_key key = key ++ codes "_name"

-- ---- lines

abbrev pub margin : List ℕ
margin = codes "  "

-- a number's name after it
abbrev pub in_brackets : Option (List ℕ) → List ℕ
in_brackets None = []
in_brackets (Some name) = codes " (" ++ name ++ codes ")"

-- ---- JSON: members, each after a comma

unfoldable pub member_key : List ℕ → List ℕ
member_key key = codes "," ++ quoted key ++ codes ":"

unfoldable pub member : List ℕ → List ℕ → List ℕ
member key value = member_key key ++ value

abbrev pub name_member : List ℕ → Option (List ℕ) → List ℕ
name_member key None = []
name_member key (Some name) = member (name_key key) (quoted name)

-- ---- either form

-- what precedes a value, and what follows it
unfoldable pub before : Form → List ℕ → List ℕ
before form key = by_form form (margin ++ key ++ codes "=") (member_key key)

unfoldable pub after : Form → List ℕ
after form = by_form form (codes "\n") []

unfoldable pub name_text : Form → List ℕ → Option (List ℕ) → List ℕ
name_text form key name = by_form form (in_brackets name) (name_member key name)

-- what precedes a value of an entry
unfoldable pub cell_before : Form → List ℕ → List ℕ
cell_before form key = by_form form (codes " ") (member_key key)

unfoldable pub keyed_before : Form → List ℕ → List ℕ
keyed_before form key = by_form form (codes " " ++ key ++ codes "=") (member_key key)

abbrev pub shown_text : Form → Shown → List ℕ → Leaf → List ℕ
shown_text form bare key value = cell_before form key ++ leaf_text form value
shown_text form keyed key value = keyed_before form key ++ leaf_text form value
shown_text form hidden key value = by_form form [] (member key (leaf_text Json value))

unfoldable pub cell_text : Form → Cell → List ℕ
cell_text form c = shown_text form c.shown c.key c.value

unfoldable pub cells_text : Form → List Cell → List ℕ
cells_text form cells = flat_map (cell_text form) cells

-- a comma between objects
abbrev pub comma_unless : Bool → List ℕ
comma_unless is_first = if is_first then [] else codes ","

-- what an entry begins with, its first value, and its end
unfoldable pub entry_before : Form → Bool → List ℕ → List ℕ → List ℕ
entry_before form is_first label_key label =
    by_form form (margin ++ label ++ codes "=")
    (comma_unless is_first ++ codes "{" ++ quoted label_key ++ codes ":" ++ quoted label)

unfoldable pub first_text : Form → List ℕ → Leaf → List ℕ
first_text form key value = by_form form (leaf_text Lines value) (member key (leaf_text Json value))

unfoldable pub entry_after : Form → List ℕ
entry_after form = by_form form (codes "\n") (codes "}")

abbrev pub entry_text : Form → Bool → Entry → List ℕ
entry_text form is_first e =
    entry_before form is_first e.label_key e.label ++ first_text form e.first_key e.first ++ cells_text form e.rest
    ++ entry_after form

abbrev pub entries_text : Form → List Entry → List ℕ
entries_text form [] = []
entries_text form (first ∷ rest) = entry_text form true first ++ flat_map (entry_text form false) rest

-- what stands around entries
unfoldable pub list_before : Form → List ℕ → List ℕ
list_before form key = by_form form [] (member_key key ++ codes "[")

unfoldable pub list_after : Form → List ℕ
list_after form = by_form form [] (codes "]")

unfoldable pub item_text : Form → Item → List ℕ
item_text form (field key value) = before form key ++ leaf_text form value ++ after form
item_text form (named key n name) = before form key ++ decimal n ++ name_text form key name ++ after form
item_text form (entries key es) = list_before form key ++ entries_text form es ++ list_after form

unfoldable pub items_text : Form → List Item → List ℕ
items_text form items = flat_map (item_text form) items
