-- What entries are called.
use Rattle.std.specs.Prelude.{◌++◌, List, None, Option, Some, ℕ, codes, decimal}

-- the name, or where there is none the kind with the number behind it, as `option_24`
abbrev pub label_text : Option (List ℕ) → List ℕ → ℕ → List ℕ
label_text None kind n = kind ++ (codes "_" ++ decimal n)
label_text (Some name) kind n = name
