use Rattle.std.proofs.Common.{◌≡◌, ◌+◌, ◌-◌, arith, refl, subst}
use Rattle.control_wire.specs.DnsRecord.{value_of}
use Rattle.examples.specs.Resolver.{Search, found, sought, Says, here, later}
use Rattle.examples.proofs.ResolverSearch.{later_found, none_read}
use Rattle.examples.proofs.resolver.next_address.Goals as goal

pub records-preserved : goal.records-preserved
records-preserved c =
    let message = c.args.answers.message.now in
    let asked = c.args.answers.type_ in
    let r = value_of c.in-Ok.read.1 in
    let now : Search = record { name = c.records.name.now; left = c.records.left; bytes = c.records.bytes.now } in
    let says : Says message asked c.records.name.now r (sought c.in-Sought.next.now) =
    subst (λ view. Says view.now asked c.records.name.now r (sought c.in-Sought.next.now))
    c.new_unchecked-packet.ensures c.in-Sought.ensures in
    let one : c.records.left ≡ (c.records.left - 1) + 1 = omega (arith, c.records-test.true) in
    record {
      found = λ address after f. c.records.invariant.found address after
          (later {now = now} r c.in-Sought.next.now (c.records.left - 1) c.in-Ok.read.0.now one c.in-Ok.ensures.sound
          says f);
      none = λ address after f.
          later_found message asked address after now r c.in-Sought.next.now (c.records.left - 1) c.in-Ok.read.0.now one
          (λ other others reads. c.in-Ok.ensures.complete other others reads) says
          (c.records.invariant.none address after f);
      fewer = omega (arith, c.records.invariant.fewer);
    }

pub returns-in-Err-clause-none : goal.returns-in-Err-clause-none
returns-in-Err-clause-none c = λ _ address after f.
    none_read c.args.answers.message.now c.args.answers.type_ address after _
    (λ r rest reads. c.in-Err.ensures.complete r rest reads)
    (c.records.invariant.none address after f)

pub returns-in-Found-clause-found : goal.returns-in-Found-clause-found
returns-in-Found-clause-found c =
    let message = c.args.answers.message.now in
    let asked = c.args.answers.type_ in
    let r = value_of c.in-Ok.read.1 in
    let now : Search = record { name = c.records.name.now; left = c.records.left; bytes = c.records.bytes.now } in
    let after : Search = record { name = c.records.name.now; left = c.records.left - 1; bytes = c.in-Ok.read.0.now } in
    let says : Says message asked c.records.name.now r (found c.in-Found.found) =
    subst (λ view. Says view.now asked c.records.name.now r (found c.in-Found.found)) c.new_unchecked-packet.ensures
    c.in-Found.ensures in
    let one : c.records.left ≡ (c.records.left - 1) + 1 = omega (arith, c.records-test.true) in
    c.records.invariant.found c.in-Found.found after (here {now = now} r one c.in-Ok.ensures.sound says refl)
