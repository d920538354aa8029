use Rattle.dhcp_wire.proofs.Words.{AreOfEthernet, IsFirstOther, ℕ, inner, list_of, options_in}
use Rattle.dhcp_wire.proofs.dhcpv4.refusal.identifier_refusal.Given as goal

-- what holds of the options that are left holds of all
abbrev pub invariant-loop-option : goal.invariant-loop-option
invariant-loop-option l = record {
  good : AreOfEthernet l.option-iterator → AreOfEthernet (list_of (options_in (inner l.packet).now));
  all_good : AreOfEthernet (list_of (options_in (inner l.packet).now)) → AreOfEthernet l.option-iterator;
  first : (hardware : ℕ) → IsFirstOther hardware l.option-iterator
      → IsFirstOther hardware (list_of (options_in (inner l.packet).now));
}
