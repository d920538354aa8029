use Rattle.icmp6_wire.proofs.ndisc.repr.Repr.refusal.Goals as goal

pub returns-in-Err-clause-exact : goal.returns-in-Err-clause-exact
returns-in-Err-clause-exact c =
    (λ e. cc, λ read. let never = c.in-Err.ensures.reads read.0 read.1 in cc)
