use Rattle.std.proofs.Common.{sym, ◌∙◌}
use Rattle.wirebase.proofs.Chains.{put-fields}
use Rattle.extension_wire.proofs.structure.put_object.Goals as goal

pub returns-clause-puts : goal.returns-clause-puts
returns-clause-puts c =
    record { puts = c.put.ensures.puts.puts ∙ sym (put-fields _ _); same_slice = c.put.ensures.puts.same_slice }
