-- The texts of options of neighbor discovery: the domain names of a search list (RFC 8106 section 5.2) and the URI of a
-- captive portal (RFC 8910 section 2.3).
use Rattle.std.specs.Prelude.{◌==◌, ◌&&◌, ◌||◌, ◌+◌, ◌-◌, [], ◌∷◌, ◌++◌, Bool, List, None, Option, Some, ℕ, codes}
use Rattle.std.specs.Prelude.{drop, flat_map, if◌then◌else◌, length, map, nat_le, nat_lt, suc, take, zero}
use Rattle.wirebase.specs.Duration.{three_digits}
use Rattle.wirebase.specs.Hexadecimal.{encode_lower}

-- ---- zeros

-- the octets without the zeros at their end
abbrev pub before_zeros : ℕ → List ℕ → List ℕ
before_zeros b [] = if b == 0 then [] else b ∷ []
before_zeros b (next ∷ rest) = b ∷ next ∷ rest

unfoldable pub without_zeros : List ℕ → List ℕ
without_zeros [] = []
without_zeros (b ∷ bs) = before_zeros b (without_zeros bs)

-- ---- names, one after another up to the end or to a zero in the place of a name, which is padding: each is labels
-- behind their lengths, and an empty label at its end (RFC 1035 section 3.1)

-- why the octets behind a zero in the place of a name are no padding, where one of them is no zero
abbrev pub wrong_padding : List ℕ → Option (List ℕ)
wrong_padding bytes =
    if length (without_zeros bytes) == 0 then None else Some (codes "other bytes than zeros behind the names")

-- Why octets are no such names, where a name has `taken` octets up to the end of a label, of which `left` are to come:
-- none before its first label, and at most 255 with its empty one (RFC 1035 section 2.3.4).
abbrev pub wrong_within : ℕ → ℕ → List ℕ → Option (List ℕ)
wrong_within taken left [] = if taken == 0 then None else Some (codes "the octets end before the name does")
wrong_within taken left (b ∷ rest) =
    if nat_lt 0 left then wrong_within taken (left - 1) rest
    else if b == 0 then (if taken == 0 then wrong_padding rest else wrong_within 0 0 rest)
    else if nat_lt 63 b then Some (codes "a label of more than 63 bytes")
    else if nat_lt 255 (taken + 1 + b + 1) then Some (codes "a name of more than 255 bytes")
    else wrong_within (taken + 1 + b) b rest

abbrev pub wrong_names : List ℕ → Option (List ℕ)
wrong_names bytes = wrong_within 0 0 bytes

-- the octets up to the end of a name, of which `left` octets of a label are to come
abbrev pub len_within : ℕ → List ℕ → ℕ
len_within left [] = 0
len_within left (b ∷ rest) =
    if nat_lt 0 left then suc (len_within (left - 1) rest) else if b == 0 then 1 else suc (len_within b rest)

abbrev pub name_len : List ℕ → ℕ
name_len bytes = len_within 0 bytes

-- the octets of each name, at most so many names: a name has an octet at least
abbrev pub names_up_to : ℕ → List ℕ → List (List ℕ)
names_up_to zero bytes = []
names_up_to (suc most) [] = []
names_up_to (suc most) (b ∷ bs) =
    if b == 0 then []
    else take (name_len (b ∷ bs)) (b ∷ bs) ∷ names_up_to most (drop (name_len (b ∷ bs)) (b ∷ bs))

-- An octet of a label as a zone file has it (RFC 1035 section 5.1): after a backslash where it has a meaning of its own
-- ("  $  (  )  .  ;  @  \), as itself where it is visible, and after a backslash by its number. A comma is not told as
-- itself, since commas stand between names.
abbrev pub has_meaning : ℕ → Bool
has_meaning b = b == 34 || b == 36 || b == 40 || b == 41 || b == 46 || b == 59 || b == 64 || b == 92

abbrev pub is_plain : ℕ → Bool
is_plain b = (nat_le 33 b && nat_le b 43) || (nat_le 45 b && nat_le b 126)

abbrev pub label_character : ℕ → List ℕ
label_character b =
    if has_meaning b then codes "\\" ++ b ∷ []
    else if is_plain b then b ∷ []
    else codes "\\" ++ three_digits b

-- the rest of a name, of which `left` octets of a label are to come: the length of a further label is a dot
abbrev pub text_within : ℕ → List ℕ → List ℕ
text_within left [] = []
text_within left (b ∷ rest) =
    if nat_lt 0 left then label_character b ++ text_within (left - 1) rest else codes "." ++ text_within b rest

-- a name: its labels, each before a dot
abbrev pub name_text : List ℕ → List ℕ
name_text [] = []
name_text (first_len ∷ rest) = text_within first_len rest

abbrev pub names_in : List ℕ → List (List ℕ)
names_in bytes = map name_text (names_up_to (length bytes) bytes)

-- ---- URIs

-- an octet of a URI: `"` and `\` after a backslash, other visible ones as themselves, and any other by two digits, also
-- a space, which no URI has (RFC 3986 section 2)
abbrev pub uri_character : ℕ → List ℕ
uri_character b =
    if b == 34 || b == 92 then codes "\\" ++ b ∷ []
    else if nat_le 33 b && nat_le b 126 then b ∷ []
    else codes "\\x" ++ encode_lower (b ∷ [])

unfoldable pub uri_text : List ℕ → List ℕ
uri_text bytes = flat_map uri_character (without_zeros bytes)
