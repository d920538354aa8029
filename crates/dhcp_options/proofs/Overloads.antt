-- What the options of a packet say of its fields.
use Rattle.dhcp_options.proofs.Words.{◌∙◌, ◌≡◌, IsOverload, List, Option, OptionValue, Overload, ℕ, ap, first_said, list_of}
use Rattle.dhcp_options.proofs.Words.{options_in, sym}
use Rattle.dhcp_wire.proofs.Dhcpv4Lists.{list-options, options-unique}

pub overload-is : (bytes : List ℕ) (overload : Option Overload) → first_said (list_of (options_in bytes)) ≡ overload
    → IsOverload bytes overload
overload-is bytes overload e =
    record { options = list_of (options_in bytes); listed = list-options (options_in bytes); first = sym e }

pub overload-one : (bytes : List ℕ) (overload : Option Overload) → IsOverload bytes overload
    → overload ≡ first_said (list_of (options_in bytes))
overload-one bytes overload is =
    is.first
    ∙ ap (λ (os : List OptionValue). first_said os)
    (sym (options-unique (options_in bytes) is.options (list_of (options_in bytes)) is.listed
    (list-options (options_in bytes))))
