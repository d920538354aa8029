-- The next datagram has the key, or has it not.
use Rattle.std.proofs.Common.{◌≡◌, ◌≢◌, ◌∙◌, ap, arith, rules, sym}
use Rattle.std.proofs.lemmas.Grind.{common_steps}
use Rattle.std.proofs.lemmas.List.{get_or_read}
use Rattle.reassembly.specs.Types.{Partial}
use Rattle.reassembly.proofs.Places.{unknown_more}
use Rattle.reassembly.proofs.reassembly.find.Goals as goal

pub returns-then-is-clause-key : goal.returns-then-is-clause-key
returns-then-is-clause-key c d =
    let x = c.index-datagrams-i.result in
    let same : x.key ≡ c.args.key.now = first_of (search rules, grind (arith, common_steps)) in
    sym (ap (λ (y : Partial). y.key)
    (get_or_read c.args.datagrams.now c.loop-i.i x c.loop-i-test.true c.index-datagrams-i.is d)) ∙ same

pub loop-i-preserved : goal.loop-i-preserved
loop-i-preserved c =
    let x = c.index-datagrams-i.result in
    let other : x.key ≢ c.args.key.now = first_of (search rules, grind (arith, common_steps)) in
    unknown_more c.args.key.now c.args.datagrams.now c.loop-i.i x c.loop-i-test.true c.index-datagrams-i.is other
    c.loop-i.invariant
