-- A string of JSON that is written in pieces.
use Rattle.std.proofs.Common.{◌≡◌, ◌++◌, ◌∙◌, List, Option, ℕ, ap, append_assoc, drop, subst, sym, take}
use Rattle.std.proofs.lemmas.Grind.{flat_map-append}
use Rattle.std.proofs.lemmas.List.{take-append-drop}
use Rattle.json.specs.Print.{escape, escape_byte}
use Rattle.packet_fields.specs.Output.{Gains}
use Rattle.packet_fields.proofs.Printing.{◌then◌}

-- octets that stand as they are, and one more after them
pub one_more_octet : (a b c d : Option (List ℕ)) (done plain behind rest more text : List ℕ)
    → done ++ rest ≡ text → plain ++ behind ≡ rest → more ≡ drop 1 behind → escape plain ≡ plain
    → Gains a b (escape done) → Gains b c plain → Gains c d (escape (take 1 behind))
    → (all : List ℕ) × (all ++ more ≡ text) × Gains a d (escape all)
one_more_octet a b c d done plain behind rest more text whole parts more_is is_plain first second third =
    let all = done ++ (plain ++ take 1 behind) in
    let behind_is : take 1 behind ++ more ≡ behind = ap (λ m. take 1 behind ++ m) more_is ∙ take-append-drop 1 behind in
    let text_is : all ++ more ≡ text =
    append_assoc done (plain ++ take 1 behind) more
    ∙ ap (λ x. done ++ x) (append_assoc plain (take 1 behind) more ∙ ap (λ x. plain ++ x) behind_is ∙ parts)
    ∙ whole in
    let escaped : escape all ≡ escape done ++ plain ++ escape (take 1 behind) =
    flat_map-append escape_byte done (plain ++ take 1 behind)
    ∙ ap (λ x. escape done ++ x) (flat_map-append escape_byte plain (take 1 behind)
    ∙ ap (λ x. x ++ escape (take 1 behind)) is_plain)
    ∙ sym (append_assoc (escape done) plain (escape (take 1 behind))) in
    (all, text_is, subst (Gains a d) (sym escaped) (first then second then third))
