use Rattle.opt_wire.proofs.Words.{append-nil, be32, be8, fields, sym}
use Rattle.opt_wire.proofs.FieldsAtOnce.{puts-then, puts-fields}
use Rattle.opt_wire.proofs.writing.put_prefix.Goals as goal

pub returns-clause-puts : goal.returns-clause-puts
unfolding fields be8 be32
returns-clause-puts c =
    puts-fields (puts-then c.put_bytes.ensures.puts c.put_bytes-2.ensures.puts)
    (rw (
      c.into-kind.ensures,
      c.bits-flags.ensures _,
      c.to_be_bytes.ensures,
      c.to_be_bytes-2.ensures,
      c.secs.ensures,
      c.secs-2.ensures,
      c.octets.ensures,
    ) (sym (append-nil _)))
