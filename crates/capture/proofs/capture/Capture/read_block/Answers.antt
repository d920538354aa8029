-- A block is passed over, or taken.
use Rattle.std.proofs.Common.{[], sym, subst, ◌∙◌}
use Rattle.capture.specs.Capture.{state_of}
use Rattle.capture.specs.private.Taken.{BlockTakes}
use Rattle.capture.proofs.Sections.{block_ends, block_passed, block_read, block_whole, if_ok}
use Rattle.capture.proofs.capture.Capture.read_block.Goals as goal

pub returns-in-Passed-clause-gives : goal.returns-in-Passed-clause-gives
returns-in-Passed-clause-gives g c all done order before =
    let read = rw c.in-Passed.is at c.in_ok-block.ensures.reads all done order before in
    block_passed _ _ all _ _ read.0 read.2 read.3 read.1

pub returns-in-Read-clause-gives : goal.returns-in-Read-clause-gives
returns-in-Read-clause-gives g c =
    if_ok _ _ c.take_block.result
    (λ s t all done order before.
    let read = rw c.in-Read.is at c.in_ok-block.ensures.reads all done order before in
    block_read _ _ all _ _ read.0 read.2 read.4 c.take_block.new.self.octets.items
    (c.take_block.ensures.octets ∙ read.3) read.1 s (state_of c.take_block.new.self)
    (subst (λ l. BlockTakes c.args.section c.in-Read.head c.args.self.now.interfaces.items l s
    (state_of c.take_block.new.self))
    (sym c.take_block.ensures.octets)
    (t (block_whole _ [] all _ _ read.0 read.2 read.4 _ read.3 read.1)))) c.take_block.ensures.takes

pub returns-in-Ended-clause-gives : goal.returns-in-Ended-clause-gives
returns-in-Ended-clause-gives g c all done order before =
    block_ends _ _ all _ (rw c.in-Ended.is at c.in_ok-block.ensures.reads all done order before)
