use Rattle.wirebase.proofs.Words.{HasWritten, List, ℕ, subst}
use Rattle.std.proofs.lemmas.List.{append_assoc}
use Rattle.wirebase.proofs.ipv6.Ipv6ReprDisplay.fmt.Goals as goal

pub returns-clause-writes : goal.returns-clause-writes
returns-clause-writes g c = λ plain ok.
    subst (λ (l : List ℕ). HasWritten g.W.Write.write_str_gives c.args.f.now l c.write.new.self)
    (simp (append_assoc, c.from-number.ensures.value)) (c.write.ensures.writes plain ok)
