use Rattle.dhcp_wire.proofs.Words.{◌∙◌, inner, options_in, refl, sym, value_of}
use Rattle.dhcp_wire.proofs.Dhcpv4Kept.{packet-made, packet-typed, good_options, given-last}
use Rattle.dhcp_wire.proofs.Dhcpv4Lists.{list-options}
use Rattle.dhcp_wire.proofs.Dhcpv4Refusal.{when-ok, when-err, when-some, when-none}
use Rattle.dhcp_wire.proofs.dhcpv4.repr.Repr.refusal.Goals as goal

pub returns-then-is_err-clause-exact : goal.returns-then-is_err-clause-exact
returns-then-is_err-clause-exact c =
    let is = sym c.is_err.ensures.value ∙ c.if-is_err.true in
    let other = when-err c.add_all.result is c.add_all.ensures.refused in (
      λ none. absurd (other (c.identifier_refusal.ensures.exact.0 none)),
      λ read. c.identifier_refusal.ensures.exact.1 (good_options (inner c.args.packet.now).now read.0 read.1),
    )

pub returns-then-is_some-clause-exact : goal.returns-then-is_some-clause-exact
returns-then-is_some-clause-exact c =
    let bytes = (inner c.args.packet.now).now in
    let is = sym c.is_err.ensures.value ∙ c.if-is_err.false in
    let found = given-last (when-ok c.add_all.result is c.add_all.ensures.typed) in
    let typed = when-some c.add_all.new.self.message_type (sym c.is_some.ensures ∙ c.if-is_some.true) in (
      λ _. (
        _,
        packet-made bytes typed.0 (value_of c.add_all.new.self.repr) (value_of c.of.result)
            (c.in_default.ensures.exact.0 refl) (when-ok c.add_all.result is c.add_all.ensures.accepted)
            (sym found ∙ typed.1) c.of.ensures (when-ok c.add_all.result is c.add_all.ensures.value),
      ),
      λ _. refl,
    )

pub type_refusal-requires : goal.type_refusal-requires
type_refusal-requires c =
    let is = sym c.is_err.ensures.value ∙ c.if-is_err.false in
    let found = given-last (when-ok c.add_all.result is c.add_all.ensures.typed) in
    record {
      header = c.in_default.ensures.exact.0 refl;
      listed = list-options (options_in (inner c.args.packet.now).now);
      identifiers = when-ok c.add_all.result is c.add_all.ensures.accepted;
      no_type = sym found ∙ when-none c.add_all.new.self.message_type (sym c.is_some.ensures ∙ c.if-is_some.false);
    }

pub returns-clause-exact : goal.returns-clause-exact
returns-clause-exact c =
    let bytes = (inner c.args.packet.now).now in
    let is = sym c.is_err.ensures.value ∙ c.if-is_err.false in
    let found = given-last (when-ok c.add_all.result is c.add_all.ensures.typed) in
    let none = when-none c.add_all.new.self.message_type (sym c.is_some.ensures ∙ c.if-is_some.false) in (
      λ e. cc,
      λ read. let some = sym none ∙ found ∙ packet-typed bytes read.0 read.1 in cc,
    )
