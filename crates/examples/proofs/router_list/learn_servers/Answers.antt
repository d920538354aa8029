use Rattle.std.proofs.Common.{List, ℕ, subst, sym}
use Rattle.examples.specs.RouterList.{LearnsEach, next, none}
use Rattle.examples.specs.declared.router_list.entries.DnsServer.{DnsServer}
use Rattle.examples.proofs.router_list.learn_servers.Goals as goal

pub loop-address-preserved : goal.loop-address-preserved
loop-address-preserved c = λ new rest.
    let behind = subst (λ (servers : List DnsServer). LearnsEach c.args.lifetime c.next.new.self servers new)
    c.learn_server.ensures rest in
    c.loop-address.invariant new
    (subst (λ (addresses : List (List ℕ)). LearnsEach c.args.lifetime addresses c.loop-address.servers.items new)
    (sym c.in-Some.ensures.steps) (next c.in-Some.address behind))

pub returns : goal.returns
returns c =
    let ends : LearnsEach c.args.lifetime c.loop-address.address-iterator c.loop-address.servers.items
    c.loop-address.servers.items = rw c.in-None.ensures.steps.0 none in (
      c.iter-address-items.result,
      c.iter-address-items.ensures,
      subst (λ (addresses : List (List ℕ)). LearnsEach c.args.lifetime addresses c.args.servers.now.items
          c.loop-address.servers.items) c.into_iter-address-iterator.ensures.into_iter_gives
          (c.loop-address.invariant c.loop-address.servers.items ends),
    )
