-- Which messages are told by their fields.
use Rattle.std.specs.Prelude.{Bool, None, Option, Some, false, true}
use Rattle.icmp_fields.specs.declared.refusal.Refusal.{Refusal}
use Rattle.icmp_fields.specs.declared.refusal.Refusal.TheVariants as refusal

-- whether a message has its fields: it is not refused, or only since its entries are cut short
abbrev pub has_fields : Option Refusal → Bool
has_fields None = true
has_fields (Some refusal.Cut) = true
has_fields (Some _) = false
