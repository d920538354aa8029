use Rattle.dhcp_wire.proofs.Words.{◌∙◌, format, inner, refl, rewrites, sym, value_of}
use Rattle.dhcp_wire.proofs.Dhcpv4Kept.{packet-made, packet-typed, packet-unique, good_options, given-last}
use Rattle.dhcp_wire.proofs.Dhcpv4Laws.{dhcp_format}
use Rattle.dhcp_wire.proofs.dhcpv4.repr.Repr.parse.Goals as goal

pub returns-in_err-add_all-clause-complete : goal.returns-in_err-add_all-clause-complete
returns-in_err-add_all-clause-complete c value p =
    absurd (c.in_err-add_all.ensures.refused (good_options (inner c.args.packet.now).now value p))

pub returns-in_default-clause-complete : goal.returns-in_default-clause-complete
returns-in_default-clause-complete c value p =
    let none = sym c.in_default.is ∙ given-last c.in_ok-add_all.ensures.typed
    ∙ packet-typed (inner c.args.packet.now).now value p in
    cc

pub returns-clause-sound : goal.returns-clause-sound
returns-clause-sound c =
    packet-made (inner c.args.packet.now).now c.in-Some.message_type (value_of c.add_all.new.self.repr)
    (value_of c.of.result) (c.in_ok-check_header.ensures.0 refl) c.in_ok-add_all.ensures.accepted
    (sym (given-last c.in_ok-add_all.ensures.typed) ∙ c.in-Some.is) c.of.ensures c.in_ok-add_all.ensures.value

pub returns-clause-complete : goal.returns-clause-complete
returns-clause-complete c value p = packet-unique (inner c.args.packet.now).now _ value (returns-clause-sound c) p

pub returns-clause-rewrites : goal.returns-clause-rewrites
returns-clause-rewrites c = λ short.
    rewrites format dhcp_format (inner c.args.packet.now).now _ c.are_bytes.ensures short (returns-clause-sound c)
