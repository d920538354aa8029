use Rattle.std.proofs.Common.{◌≡◌, ◌∙◌, List, sym, ap, subst}
use Rattle.control_wire.specs.Dhcpv4.{IsPacket, said, value_of}
use Rattle.control_wire.specs.Dhcpv4Options.{OptionValue, Options}
use Rattle.control_wire.specs.Dhcpv4Packet.{options_in}
use Rattle.control_wire.specs.LastOf.{last_of}
use Rattle.examples.specs.Lease.{lease_of, first_in, answer_of, Tells}
use Rattle.examples.proofs.Leases.{if_some, same-router}
use Rattle.examples.proofs.lease.read_answer.Goals as goal

pub returns-in-Err-clause-all : goal.returns-in-Err-clause-all
returns-in-Err-clause-all c = λ told a. c.in-Err.ensures.complete a.says (rw c.new_unchecked-view.ensures a.packet)

pub returns-then-not-is_for-clause-all : goal.returns-then-not-is_for-clause-all
returns-then-not-is_for-clause-all c = λ told a.
    let one = c.in-Ok.ensures.complete a.says (rw c.new_unchecked-view.ensures a.packet) in
    let is = c.is_for.ensures.1 (
      ap (λ v. v.transaction_id) one ∙ a.exchange,
      ap (λ v. v.client_hardware_address) one ∙ a.client_is,
    ) in
    cc

pub returns-in_default-clause-all : goal.returns-in_default-clause-all
returns-in_default-clause-all c = λ told a.
    let one = c.in-Ok.ensures.complete a.says (rw c.new_unchecked-view.ensures a.packet) in
    let server = ap (λ v. v.server_identifier) one ∙ a.server_is in
    cc

pub returns-clause-told : goal.returns-clause-told
returns-clause-told c =
    let v = value_of c.in-Ok.repr in
    let is = c.is_for.ensures.0 c.if-not-is_for.false in
    let packet : IsPacket c.args.octets.now v =
    subst (λ view. IsPacket view.now v) c.new_unchecked-view.ensures c.in-Ok.ensures.sound in
    let unique = subst (λ view. (others : List OptionValue) → Options (options_in view.now) others
    → others ≡ c.options.result) c.new_unchecked-view.ensures c.options.ensures.unique in
    if_some (λ told tells. record {
      says = v;
      packet = packet;
      exchange = is.0;
      client_is = is.1;
      server = c.in-Some.server;
      server_is = c.in-Some.is;
      router = c.first_router.result;
      router_is = c.first_router.ensures
          ∙ ap (λ (os : List OptionValue). last_of (said 3 first_in) os) (sym (unique packet.options packet.listed));
      tells = subst (λ l. Tells c.in-Ok.repr.message_type l (answer_of told)) c.given.ensures tells;
    }) c.told_by.result c.told_by.ensures.sound

pub returns-clause-all : goal.returns-clause-all
returns-clause-all c = λ told a.
    let one = c.in-Ok.ensures.complete a.says (rw c.new_unchecked-view.ensures a.packet) in
    let from = ap (λ v. v.server_identifier) one ∙ a.server_is in
    let server : c.in-Some.server ≡ a.server = cc in
    let unique = subst (λ view. (others : List OptionValue) → Options (options_in view.now) others
    → others ≡ c.options.result) c.new_unchecked-view.ensures c.options.ensures.unique in
    let router = same-router c.first_router.result a.router
    (c.first_router.ensures
    ∙ ap (λ (os : List OptionValue). last_of (said 3 first_in) os) (sym (unique a.packet.options a.packet.listed))
    ∙ sym a.router_is) in
    let gives = c.given.ensures ∙ ap (λ v. lease_of v c.in-Some.server c.first_router.result) one
    ∙ ap (λ s. lease_of a.says s c.first_router.result) server ∙ ap (λ r. lease_of a.says a.server r) router in
    c.told_by.ensures.complete told
    (subst (λ l. Tells c.in-Ok.repr.message_type l told) (sym gives)
    (subst (λ k. Tells k (lease_of a.says a.server a.router) told) (sym (ap (λ v. v.message_type) one)) a.tells))
