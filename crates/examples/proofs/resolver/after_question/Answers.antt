use Rattle.std.proofs.Common.{◌≡◌, ap, sym, subst, rules}
use Rattle.examples.specs.Resolver.{AreSameName}
use Rattle.examples.proofs.resolver.after_question.Goals as goal

pub returns-in-Err-clause-all : goal.returns-in-Err-clause-all
returns-in-Err-clause-all c = λ rest asks.
    absurd (c.in-Err.ensures.complete (record { name = asks.written; kind = c.args.type_ }) rest
    (rw (c.payload.ensures, c.new_unchecked-packet.ensures) asks.question))

pub returns-then-ne-clause-all : goal.returns-then-ne-clause-all
returns-then-ne-clause-all c = λ rest asks.
    let one = c.in-Ok.ensures.complete (record { name = asks.written; kind = c.args.type_ }) rest
    (rw (c.payload.ensures, c.new_unchecked-packet.ensures) asks.question) in
    let kind : c.in-Ok.read.1.type_ ≡ c.args.type_ = ap (λ q. q.kind) one.0 in
    search rules

pub returns-then-not-same_name-clause-all : goal.returns-then-not-same_name-clause-all
returns-then-not-same_name-clause-all c = λ rest asks.
    let one = c.in-Ok.ensures.complete (record { name = asks.written; kind = c.args.type_ }) rest
    (rw (c.payload.ensures, c.new_unchecked-packet.ensures) asks.question) in
    let named : asks.written ≡ c.in-Ok.read.1.name.now = sym (ap (λ q. q.name) one.0) in
    let same : AreSameName c.args.message.now c.in-Ok.read.1.name.now c.args.name.now =
    subst (λ n. AreSameName c.args.message.now n c.args.name.now) named asks.same in
    let is = c.same_name.ensures.1 (rw c.new_unchecked-packet.ensures same) in
    cc

pub returns-clause-asks : goal.returns-clause-asks
returns-clause-asks c =
    let kind : c.in-Ok.read.1.type_ ≡ c.args.type_ = search rules in
    record {
      written = c.in-Ok.read.1.name.now;
      question = rw (← kind, ← c.new_unchecked-packet.ensures, ← c.payload.ensures) c.in-Ok.ensures.sound;
      same = rw (← c.new_unchecked-packet.ensures) (c.same_name.ensures.0 c.if-not-same_name.false);
    }
