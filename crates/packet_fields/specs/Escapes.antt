-- What is put into a string of JSON.
use Rattle.std.specs.Prelude.{List, Option, ℕ}
use Rattle.std.specs.Io.KnownBytes.{Appends}
use Rattle.json.specs.Print.{escape}

-- what a call does to a writer: it appends the text as it stands in a string, where what the writer holds is known
unfoldable pub Escaping : {W : Type 0} → (W → Option (List ℕ)) → W → List ℕ → W → Type 0
Escaping contents before text after = Appends (contents before) (contents after) (escape text)
