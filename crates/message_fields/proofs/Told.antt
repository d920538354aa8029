-- What is printed, and what is told of it.
use Rattle.std.proofs.Common.{◌≡◌, Err, IfOk, List, Ok, Option, Result, ℕ}
use Rattle.packet_fields.specs.Fields.{Item}
use Rattle.packet_fields.specs.Prints.{Prints, PrintsSome}
use Rattle.packet_fields.specs.declared.form.Form.{Form}
use Rattle.message_fields.specs.declared.refusal.Refusal.{Refusal}

module _ {E : Type 0} (form : Form) (a b : Option (List ℕ)) (r : Result (Option Refusal) E) where
  -- fields of one kind are of another kind too
  pub told_as : (Are Other : List Item → Option Refusal → Type 0)
      → ((items : List Item) (told : Option Refusal) → Are items told → Other items told)
      → IfOk r (λ told. PrintsSome form a b (λ items. Are items told))
      → IfOk r (λ told. PrintsSome form a b (λ items. Other items told))
  told_as Are Other other =
      elim r as (λ answer. IfOk answer (λ told. PrintsSome form a b (λ items. Are items told))
      → IfOk answer (λ told. PrintsSome form a b (λ items. Other items told))) [
        | Ok told ↦ λ printed. (printed.0, other printed.0 told printed.1, printed.2)
        | Err e ↦ λ printed. tt
      ]

  -- known fields, and what is known of them
  pub told_known : (Are : List Item → Option Refusal → Type 0) (items : List Item) (known : Option Refusal)
      → ((told : Option Refusal) → told ≡ known → Are items told)
      → IfOk r (λ told. Prints form a b items × (told ≡ known))
      → IfOk r (λ told. PrintsSome form a b (λ all. Are all told))
  told_known Are items known are =
      elim r as (λ answer. IfOk answer (λ told. Prints form a b items × (told ≡ known))
      → IfOk answer (λ told. PrintsSome form a b (λ all. Are all told))) [
        | Ok told ↦ λ printed. (items, are told printed.1, printed.0)
        | Err e ↦ λ printed. tt
      ]
