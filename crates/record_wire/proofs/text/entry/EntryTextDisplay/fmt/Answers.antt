use Rattle.record_wire.proofs.text.entry.EntryTextDisplay.fmt.Goals as goal

pub returns-then-wants_unicast-clause-writes : goal.returns-then-wants_unicast-clause-writes
returns-then-wants_unicast-clause-writes g c =
    rw (c.in-Question.is, c.if-wants_unicast.true) c.write.ensures.writes

pub returns-then-flushes_cache-clause-writes : goal.returns-then-flushes_cache-clause-writes
returns-then-flushes_cache-clause-writes g c =
    rw (c.in-Record.is, c.if-flushes_cache.true) c.write-then-flushes_cache.ensures.writes
