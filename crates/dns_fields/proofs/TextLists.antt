-- Texts in lists.
use Rattle.std.proofs.Common.{[], ◌∷◌, List, OnOk, Option, Result, ℕ, codes, subst}
use Rattle.std.proofs.lemmas.List.{append-nil}
use Rattle.packet_fields.specs.Fields.{by_form, leaf_text, text, texts}
use Rattle.packet_fields.specs.declared.form.Form.TheVariants.{Lines, Json}
use Rattle.packet_fields.specs.declared.form.Form.{Form}
use Rattle.packet_fields.specs.Output.{Gains}
use Rattle.packet_fields.proofs.Printing.{◌then◌, gains_last}
use Rattle.dns_fields.specs.private.Parts.{behind_commas}

-- texts between brackets in JSON, and nothing around them in lines
pub texts_printed : {E : Type 0} (form : Form) (t : List ℕ) (ts : List (List ℕ)) (a b c d e : Option (List ℕ))
    (r : Result (Unit {0}) E) → Gains a b (by_form form [] (codes "[")) → Gains b c (leaf_text form (text t))
    → Gains c d (behind_commas form ts) → OnOk r (Gains d e (by_form form [] (codes "]")))
    → OnOk r (Gains a e (leaf_text form (texts (t ∷ ts))))
texts_printed Lines t ts a b c d e r opened one more closed =
    subst (λ (all : List ℕ). OnOk r (Gains a e all)) (append-nil _)
    (gains_last e [] r (opened then one then more) closed)
texts_printed Json t ts a b c d e r opened one more closed =
    gains_last e (codes "]") r (opened then one then more) closed
