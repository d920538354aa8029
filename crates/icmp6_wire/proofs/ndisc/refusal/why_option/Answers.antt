use Rattle.std.proofs.lemmas.List.{take_rest}
use Rattle.icmp6_wire.proofs.NdiscRefusals.{whole_none, more_whole, some_behind}
use Rattle.icmp6_wire.proofs.ndisc.refusal.why_option.Goals as goal

pub loop-block-init : goal.loop-block-init
loop-block-init c =
    whole_none c.args.octets.now c.args.header_len _ c.requires.header
    (take_rest c.args.octets.now c.args.header_len)

pub loop-block-preserved : goal.loop-block-preserved
loop-block-preserved c =
    let parts = c.in-Ok.ensures.sound in
    more_whole c.args.octets.now c.loop-block.place c.loop-block.rest.now c.in-Ok.block.now c.in-Ok.behind.now
    parts.0 parts.1 c.loop-block.invariant

pub fault-requires-clause-some : goal.fault-requires-clause-some
fault-requires-clause-some c =
    some_behind c.args.octets.now c.loop-block.place c.loop-block.rest.now c.loop-block.invariant
    c.requires.untiled

pub returns : goal.returns
returns c =
    let rest = c.loop-block.rest.now in
    record {
      place = c.loop-block.place;
      rest = rest;
      before = c.loop-block.invariant;
      some = some_behind c.args.octets.now c.loop-block.place rest c.loop-block.invariant c.requires.untiled;
      fails = c.fault.ensures;
    }
