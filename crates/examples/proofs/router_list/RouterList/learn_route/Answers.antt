use Rattle.examples.proofs.router_list.RouterList.learn_route.Goals as goal

pub returns-else-told-eq0 : goal.returns-else-told-eq0
returns-else-told-eq0 c = record {
  reserved = λ is. absurd (c.in_default.not-Reserved is);
  default = λ other none. absurd (c.if-told-eq0.false none);
  specific = λ other some.
      (c.destination-destination.result, c.destination-destination.ensures, c.keep_route.ensures);
}
