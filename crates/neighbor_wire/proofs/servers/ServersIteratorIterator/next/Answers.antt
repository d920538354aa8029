use Rattle.std.proofs.Common.{◌≡◌, List, ◌∷◌, ℕ, take, sym, ap, ◌∙◌}
use Rattle.wirebase.specs.Ipv6Address.{octets_of}
use Rattle.neighbor_wire.specs.Servers.{servers_in}
use Rattle.neighbor_wire.proofs.ServersAhead.{no_server_ahead, server_ahead}
use Rattle.wirebase.proofs.Answers.{first_off}
use Rattle.neighbor_wire.proofs.servers.ServersIteratorIterator.next.Goals as goal

pub returns-then-self-lt-WIDTH-clause-steps : goal.returns-then-self-lt-WIDTH-clause-steps
returns-then-self-lt-WIDTH-clause-steps c =
    let ended = sym c.self.view_is ∙ no_server_ahead c.self.inside.rest.now c.if-self-lt-WIDTH.true in
    (ended, ended)

pub returns-clause-steps : goal.returns-clause-steps
returns-clause-steps c =
    let it = c.self.inside in
    let behind = c.split_at.result.1.now in
    let octets : octets_of c.read_address.result ≡ take 16 it.rest.now =
    c.read_address.ensures ∙ c.split_at.ensures.front in
    sym c.self.view_is
    ∙ server_ahead it.rest.now behind c.if-self-lt-WIDTH.false c.split_at.ensures.back
    ∙ ap (λ (first : List ℕ). first ∷ servers_in behind) (sym octets)

pub returns-clause-goes : goal.returns-clause-goes
returns-clause-goes c = first_off _ _ _ _ (returns-clause-steps c)
