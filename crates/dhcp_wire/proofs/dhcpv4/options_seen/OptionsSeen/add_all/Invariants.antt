use Rattle.dhcp_wire.proofs.Words.{◌≡◌, AreOfEthernet, byte_of, inner, list_of, op_field, option_or, options_in}
use Rattle.dhcp_wire.proofs.Words.{type_among, value_of, with_options}
use Rattle.dhcp_wire.proofs.dhcpv4.options_seen.OptionsSeen.add_all.Given as goal

-- doing the rest gives the result of doing the whole
abbrev pub invariant-loop-option : goal.invariant-loop-option
invariant-loop-option l = record {
  typed : option_or (type_among (byte_of op_field (inner l.packet).now) l.option-iterator) l.self.message_type
      ≡ option_or (type_among (byte_of op_field (inner l.packet).now) (list_of (options_in (inner l.packet).now)))
      l.initial.self.message_type;
  value : with_options l.option-iterator (value_of l.self.repr)
      ≡ with_options (list_of (options_in (inner l.packet).now)) (value_of l.initial.self.repr);
  good : AreOfEthernet l.option-iterator → AreOfEthernet (list_of (options_in (inner l.packet).now));
  all_good : AreOfEthernet (list_of (options_in (inner l.packet).now)) → AreOfEthernet l.option-iterator;
}
