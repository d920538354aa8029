use Rattle.std.proofs.Common.{refl, arith}
use Rattle.neighbor_wire.specs.Option.{value_of}
use Rattle.neighbor_wire.proofs.OptionBlocks.{writes, push_blocks}
use Rattle.neighbor_wire.proofs.OptionFormat.{option_round_trips}
use Rattle.neighbor_wire.proofs.OptionReading.{option_read}
use Rattle.neighbor_wire.proofs.writer.OptionsWriter.push.Goals as goal

pub returns-clause-settled : goal.returns-clause-settled
returns-clause-settled c = grind (arith, writes)

pub returns-clause-free : goal.returns-clause-free
returns-clause-free c = grind (arith, writes)

pub returns-clause-blocks : goal.returns-clause-blocks
returns-clause-blocks c =
    λ blocks are. push_blocks c.args.option.now _ _ (returns-clause-settled c) blocks are

pub returns-clause-given : goal.returns-clause-given
returns-clause-given c = option_read (value_of c.args.option.now) (c.in_ok-check_value.ensures.accepts.0 refl)

pub returns-clause-round_trips : goal.returns-clause-round_trips
returns-clause-round_trips c = option_round_trips (value_of c.args.option.now)
