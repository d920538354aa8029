-- What the functions behind the fields of extensions tell each other.
use Rattle.std.specs.Prelude.{Bool, List, None, Option, Some, ℕ, Result, Ok, Err}
use Rattle.wirebase.specs.Checks.{Fails, Passes}
use Rattle.extension_wire.specs.ExtensionDisplay.{interface_refusal_display, label_refusal_display}
use Rattle.extension_wire.specs.ExtensionDisplay.{object_refusal_display, split_refusal_display}
use Rattle.extension_wire.specs.ExtensionDisplay.{structure_refusal_display}
use Rattle.extension_wire.specs.Split as split
use Rattle.extension_wire.specs.declared.refusal.SplitRefusal.{SplitRefusal}
use Rattle.extension_wire.specs.declared.refusal.StructureRefusal.{StructureRefusal}
use Rattle.extension_wire.specs.declared.split.Parts.{Parts}
use Rattle.icmp_fields.specs.Extensions.{Division, header_checks, no_object_text}
use Rattle.icmp_fields.specs.declared.extensions.words.Why.{Why}

-- why extensions are refused, or one of them
abbrev pub why_text : Why → List ℕ
why_text (Why.Split why) = split_refusal_display why
why_text (Why.Structure why) = structure_refusal_display why
why_text Why.NoObject = no_object_text
why_text (Why.Object why) = object_refusal_display why
why_text (Why.Labels why) = label_refusal_display why
why_text (Why.Interface why) = interface_refusal_display why

-- what an error has behind its header, by its content
abbrev pub division_of : Result Parts SplitRefusal → Division
division_of (Ok parts) = Ok (split.value_of parts)
division_of (Err why) = Err why

-- why a structure is refused, where it is
abbrev pub HeaderTold : Bool → List ℕ → Option StructureRefusal → Type 0
HeaderTold is_whole bytes None = Passes (header_checks is_whole bytes)
HeaderTold is_whole bytes (Some why) = Fails (header_checks is_whole bytes) why
