-- An object behind those of packets.
use Rattle.std.proofs.Common.{◌≡◌, ◌++◌, Err, List, Ok, OnOk, Option, Result, append_assoc, codes, subst, ℕ}
use Rattle.std.proofs.lemmas.Grind.{flat_map-append}
use Rattle.packet_fields.specs.Fields.{Item}
unfoldable use Rattle.packet_fields.specs.Fields.{items_text}
unfoldable use Rattle.packet_fields.specs.Json.{object_text}
use Rattle.packet_fields.specs.Output.{Gains}
use Rattle.packet_fields.specs.Prints.{Prints}
use Rattle.packet_fields.specs.declared.form.Form.TheVariants.{Json}
use Rattle.packet_fields.proofs.Printing.{◌then◌}
use Rattle.dump_captures.proofs.Printing.{gains_items}
use Rattle.dump_captures.proofs.Rows.{texts}
use Rattle.dump_captures.specs.Pairing.{summary_object}
use Rattle.dump_captures.specs.private.Objects.{summary_front}

object_is : (word : List ℕ) (file : Option (List ℕ)) (items : List Item)
    → (summary_front word file ++ items_text Json items) ++ codes "}\n" ≡ summary_object word file items
unfolding object_text items_text
object_is word file items = simp (append_assoc, flat_map-append)

pub in_object : {E : Type 0} (word : List ℕ) (file : Option (List ℕ)) (items : List Item)
    (a b c d : Option (List ℕ)) (r : Result (Unit {0}) E) → Gains a b (summary_front word file)
    → Prints Json b c items → OnOk r (Gains c d (codes "}\n")) → OnOk r (Gains a d (summary_object word file items))
in_object word file items a b c d (Ok x) front printed end =
    subst (Gains a d) (object_is word file items) (front then printed.gains then end)
in_object word file items a b c d (Err e) front printed end = tt

pub ruleset objects = (texts, gains_items, in_object)
