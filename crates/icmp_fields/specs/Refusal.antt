-- Why messages of types that are known are refused.
use Rattle.std.specs.Prelude.{◌++◌, List, ℕ, codes, decimal}
use Rattle.icmp_fields.specs.declared.refusal.Refusal.{Refusal}
use Rattle.icmp_fields.specs.declared.refusal.Refusal.TheVariants as refusal

abbrev pub code_text : ℕ → List ℕ
code_text n = codes "code " ++ decimal n ++ codes " is not 0"

abbrev pub size_text : ℕ → List ℕ
size_text n = codes "entries of fewer than 2 words each (" ++ decimal n ++ codes ")"

abbrev pub refusal_text : Refusal → List ℕ
refusal_text (refusal.Code n) = code_text n
refusal_text refusal.Length = codes "fewer bytes than a message of this type has"
refusal_text refusal.NoRouters = codes "an advertisement of no routers"
refusal_text (refusal.EntrySize n) = size_text n
refusal_text refusal.Cut = codes "the entries are cut short"
