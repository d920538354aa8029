use Rattle.std.proofs.Common.{sym, subst}
use Rattle.std.proofs.lemmas.Option.{IfSome_then}
use Rattle.control_wire.specs.Ndisc.{value_of as content_of}
use Rattle.examples.specs.Router.{RouterIn}
use Rattle.examples.proofs.Neighbors.{tell_prefixes}
use Rattle.examples.proofs.router.router_information.Goals as goal

pub returns-in-None-clause-all : goal.returns-in-None-clause-all
returns-in-None-clause-all c = λ router tells. absurd (c.in-None.ensures.complete tells.1 tells.2)

pub returns-in-Some-clause-all : goal.returns-in-Some-clause-all
returns-in-Some-clause-all c = λ router tells.
    c.router_in.ensures.complete router (subst (λ v. RouterIn router v)
    (sym (c.in-Some.ensures.complete tells.1 tells.2)) tells.3)

pub returns-in-Some-clause-prefixes : goal.returns-in-Some-clause-prefixes
returns-in-Some-clause-prefixes c =
    IfSome_then c.router_in.result c.router_in.ensures.sound (λ router is.
    tell_prefixes c.args.source.now c.args.destination.now c.args.octets.now (content_of c.in-Some.message) router
    c.in-Some.ensures.sound.1 is)
