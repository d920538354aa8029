-- What is written, followed by the printed text of the addresses that are left, is the printed text of all.
use Rattle.std.specs.Prelude.{◌≡◌, ℕ, List, ◌++◌, flat_map}
use Rattle.std.specs.Fmt.{HasWritten, IsPlainFormatter}
use Rattle.neighbor_wire.specs.ServersDisplay.{behind_space, servers_display}
use Rattle.neighbor_wire.proofs.servers.fmt_servers.Given as goal

abbrev pub invariant-loop-server : goal.invariant-loop-server
invariant-loop-server g l =
    IsPlainFormatter l.fn.f → (done : List ℕ) × HasWritten g.W.Write.write_str_gives l.fn.f done l.f
    × (done ++ flat_map behind_space l.server-iterator ≡ servers_display l.octets)
