use Rattle.dhcp_wire.proofs.Words.{◌≡◌, Ok, drop, map, progress, step_all, value_of_option}
use Rattle.dhcp_wire.specs.Dhcpv4Writer.{the_slice}
use Rattle.dhcp_wire.proofs.dhcpv4.writing.put_all.Given as goal

-- doing the rest gives the result of doing the whole
abbrev pub invariant-loop-option : goal.invariant-loop-option
invariant-loop-option l = record {
  same : the_slice l.w ≡ the_slice l.initial.w;
  left : step_all (progress l.w (Ok tt)) (map value_of_option (drop l.option-index l.options))
      ≡ step_all (progress l.initial.w (Ok tt)) (map value_of_option l.options);
}
