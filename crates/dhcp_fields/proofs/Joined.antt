-- The entry of an option in parts.
use Rattle.std.proofs.Common.{◌≡◌, ◌≤◌, ◌<◌, Bool, List, Option, OnOk, Result, ap, refl, subst, ℕ}
use Rattle.std.proofs.lemmas.Bool.{le-ltb, lt-ltb}
use Rattle.dhcp_wire.specs.Dhcpv4Options.{OptionValue, option}
use Rattle.dhcp_options.specs.Joined.{copied, joined}
use Rattle.dhcp_options.specs.Parts.{Answer}
use Rattle.packet_fields.specs.Entries.{PrintsEntry}
use Rattle.packet_fields.specs.Fields.{Entry}
use Rattle.packet_fields.specs.declared.form.Form.{Form}
use Rattle.dhcp_fields.specs.Options.{long_entry, option_entry, value_entry}

pub value_is : (parts : List Answer) (kind : ℕ) (o : OptionValue) → copied kind parts ≤ 1500
    → o ≡ option kind (joined kind parts) → value_entry o ≡ option_entry parts kind
value_is parts kind o fits is = rw (le-ltb 1500 (copied kind parts) fits) (ap value_entry is)

pub long_is : (parts : List Answer) (kind : ℕ) → 1500 < copied kind parts → long_entry kind ≡ option_entry parts kind
long_is parts kind long = rw (lt-ltb 1500 (copied kind parts) long) refl

pub printed_as : {E : Type 0} (form : Form) (is_first : Bool) (a b : Option (List ℕ)) (e f : Entry)
    (r : Result (Unit {0}) E) → e ≡ f → OnOk r (PrintsEntry form is_first a b e)
    → OnOk r (PrintsEntry form is_first a b f)
printed_as form is_first a b e f r is printed =
    subst (λ (x : Entry). OnOk r (PrintsEntry form is_first a b x)) is printed
