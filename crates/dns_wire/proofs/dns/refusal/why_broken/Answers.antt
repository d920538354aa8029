use Rattle.dns_wire.proofs.Words.{NameRefusal, refl}
use Rattle.dns_wire.proofs.DnsNameRoutes.{Ends}
use Rattle.dns_wire.proofs.DnsNameBreaks.{BreaksFor, breaks_label, ends_label, route_pointer, ends_here, breaks_torn}
use Rattle.dns_wire.proofs.DnsNameBreaks.{breaks_far, route_breaks, route_names, breaks_unnamed}
use Rattle.dns_wire.proofs.dns.refusal.why_broken.Goals as goal

pub loop-rest-preserved-in-Label : goal.loop-rest-preserved-in-Label
loop-rest-preserved-in-Label c =
    let left = c.loop-rest.left.now in
    let reach = c.loop-rest.reach.now in
    let bytes = c.in-Label.field-0.now in
    let rest = c.in-Label.rest.now in
    let i = c.loop-rest.invariant in
    record {
      ends = λ route. i.ends (ends_label left bytes rest reach c.in-Label.ensures route);
      breaks = λ reason route. i.breaks reason (breaks_label reason left bytes rest reach c.in-Label.ensures route);
    }

pub loop-rest-preserved : goal.loop-rest-preserved
loop-rest-preserved c =
    let left = c.loop-rest.left.now in
    let reach = c.loop-rest.reach.now in
    let i = c.loop-rest.invariant in
    let leads = c.in-Some.ensures.some in
    rw (leads.left_is, leads.front_is) (record {
      ends = λ route. i.ends
          (route_pointer Ends left reach c.in-Pointer.place c.in-Pointer.ensures leads.inside route);
      breaks = λ reason route. i.breaks reason
          (route_pointer (BreaksFor reason) left reach c.in-Pointer.place c.in-Pointer.ensures leads.inside route);
    })

pub returns-in_default-clause-told : goal.returns-in_default-clause-told
returns-in_default-clause-told c =
    let place = c.in-Pointer.place in
    route_breaks c.args.text.now c.args.message.now (NameRefusal.Pointer place) (c.loop-rest.invariant.breaks
    (NameRefusal.Pointer place)
    (breaks_far c.loop-rest.left.now c.loop-rest.reach.now place c.in-Pointer.ensures
    (c.follow.ensures.none c.in_default.is)))

pub returns-in_default-clause-exact : goal.returns-in_default-clause-exact
returns-in_default-clause-exact c =
    let place = c.in-Pointer.place in (
      λ e. cc,
      λ named. absurd (breaks_unnamed c.args.text.now c.args.message.now (NameRefusal.Pointer place)
          (c.loop-rest.invariant.breaks (NameRefusal.Pointer place)
          (breaks_far c.loop-rest.left.now c.loop-rest.reach.now place c.in-Pointer.ensures
          (c.follow.ensures.none c.in_default.is))) named),
    )

pub returns-in-End-clause-exact : goal.returns-in-End-clause-exact
returns-in-End-clause-exact c = (
  λ e. route_names c.args.text.now c.args.message.now
      (c.loop-rest.invariant.ends (ends_here c.loop-rest.left.now c.loop-rest.reach.now c.in-End.ensures)),
  λ named. refl,
)

pub returns-in-Torn-clause-told : goal.returns-in-Torn-clause-told
returns-in-Torn-clause-told c =
    let reason = c.why_torn.result in
    route_breaks c.args.text.now c.args.message.now reason (c.loop-rest.invariant.breaks reason
    (breaks_torn c.loop-rest.left.now c.loop-rest.reach.now reason c.why_torn.ensures))

pub returns-in-Torn-clause-exact : goal.returns-in-Torn-clause-exact
returns-in-Torn-clause-exact c =
    let reason = c.why_torn.result in (
      λ e. cc,
      λ named. absurd (breaks_unnamed c.args.text.now c.args.message.now reason (c.loop-rest.invariant.breaks reason
          (breaks_torn c.loop-rest.left.now c.loop-rest.reach.now reason c.why_torn.ensures)) named),
    )
