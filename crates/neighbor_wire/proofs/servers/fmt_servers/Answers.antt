-- Each turn writes one address after a space.
use Rattle.std.proofs.Common.{◌++◌, ◌∙◌, IsOk, List, ℕ, ap, append_assoc, flat_map, rules, sym}
use Rattle.std.proofs.Output.{has_written_append}
use Rattle.wirebase.specs.Ipv6Address.{octets_of}
use Rattle.neighbor_wire.specs.ServersDisplay.{behind_space}
use Rattle.neighbor_wire.proofs.servers.fmt_servers.Goals as goal

pub loop-server-preserved : goal.loop-server-preserved
loop-server-preserved g c = λ plain.
    let so_far = c.loop-server.invariant plain in
    let ok : IsOk c.write.result = search rules in
    let this = behind_space (octets_of c.in-Some.server) in (
      so_far.0 ++ this,
      has_written_append _ _ _ _ _ _ so_far.1 (c.write.ensures.writes so_far.1.plain ok),
      append_assoc so_far.0 this _
          ∙ ap (λ (left : List (List ℕ)). so_far.0 ++ flat_map behind_space left) (sym c.in-Some.ensures.steps)
          ∙ so_far.2,
    )
