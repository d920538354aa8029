use Rattle.opt_wire.proofs.Words.{map, options_display, take, value_of}
use Rattle.std.specs.Fmt.{HasWritten, IsPlainFormatter}
use Rattle.opt_wire.proofs.ipv6hbh.refusal.fmt_options.Given as goal

abbrev pub invariant-loop-option : goal.invariant-loop-option
invariant-loop-option g l =
    IsPlainFormatter l.fn.f → HasWritten g.W.Write.write_str_gives l.fn.f
    (options_display (map value_of (take l.option-index l.options))) l.f
