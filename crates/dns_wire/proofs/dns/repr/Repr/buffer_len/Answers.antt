use Rattle.dns_wire.proofs.Words.{◌∙◌, ◌+◌, ℕ, ap, sym, value_of}
use Rattle.dns_wire.proofs.DnsReprFormat.{length-query_text}
use Rattle.dns_wire.proofs.dns.repr.Repr.buffer_len.Goals as goal

pub returns-clause-exact : goal.returns-clause-exact
returns-clause-exact c =
    ap (λ (n : ℕ). 12 + n) c.buffer_len.ensures.value ∙ sym (length-query_text (value_of c.args.self.now))
