use Rattle.opt_wire.proofs.Words.{◌≡◌, ◌≤◌, drop, free, length, map, put_all, sheet, the_slice, value_of}
use Rattle.opt_wire.specs.Ipv6Hbh.{header_fields, text_len, HaveData}
use Rattle.opt_wire.proofs.ipv6hbh.put_options.Given as goal

-- writing the rest gives the result of writing the whole
abbrev pub invariant-loop-option : goal.invariant-loop-option
invariant-loop-option l = record {
  texts : put_all (sheet l.w) (header_fields (map value_of (drop l.option-index l.options)))
      ≡ put_all (sheet l.initial.w) (header_fields (map value_of l.options));
  enough : HaveData (map value_of (drop l.option-index l.options));
  room : text_len (map value_of (drop l.option-index l.options)) ≤ length (free l.w);
  same_slice : the_slice l.w ≡ the_slice l.initial.w;
}
