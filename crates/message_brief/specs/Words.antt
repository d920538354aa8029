-- The words that a brief line is made of.
use Rattle.std.specs.Prelude.{◌==◌, ◌++◌, [], Bool, List, ℕ, codes, decimal, if◌then◌else◌}

-- a word stands behind a space, and so does a value with its key before it
unfoldable pub word : List ℕ → List ℕ
word text = codes " " ++ text

unfoldable pub keyed : List ℕ → List ℕ → List ℕ
keyed key text = codes " " ++ (key ++ (codes "=" ++ text))

-- how many more there are, where there are any
abbrev pub more_text : ℕ → List ℕ
more_text n = if n == 0 then [] else codes ", +" ++ decimal n

-- what tells that something of the message is missing or does not read
abbrev pub ending_text : Bool → List ℕ
ending_text is_whole = if is_whole then [] else codes " ..."
