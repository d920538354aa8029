use Rattle.opt_wire.proofs.ipv6option.refusal.behind_first.Goals as goal

pub why_none-requires : goal.why_none-requires
why_none-requires c = λ read. c.in-Err.ensures.complete read.0 read.1
