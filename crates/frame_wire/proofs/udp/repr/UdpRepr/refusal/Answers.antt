-- The ports are read where no checksum is verified, and where it holds.
use Rattle.frame_wire.proofs.Words.{◌≢◌, BeginsWhole, arith, common_steps, dst_port_field, number_of, refl, rules}
use Rattle.frame_wire.proofs.Words.{view_octets}
use Rattle.frame_wire.proofs.Tags.{told}
use Rattle.frame_wire.proofs.Witnesses.{ports_read, unasked}
use Rattle.frame_wire.proofs.udp.repr.UdpRepr.refusal.Goals as goal

pub returns-then-not-rx-clause-exact : goal.returns-then-not-rx-clause-exact
returns-then-not-rx-clause-exact c =
    let bytes = view_octets c.args.packet.now in
    let whole : BeginsWhole bytes = first_of (search rules, grind (arith, common_steps)) in
    let port : number_of dst_port_field bytes ≢ 0 = first_of (search rules, grind (arith, common_steps)) in (
      λ _.
          ports_read c.args.checksum_caps.now c.args.addresses.now bytes whole port
          (unasked _ c.rx.result c.rx.ensures c.if-not-rx.true),
      λ _. refl,
    )

pub returns-then-has_checksum-clause-exact : goal.returns-then-has_checksum-clause-exact
returns-then-has_checksum-clause-exact c =
    let bytes = view_octets c.args.packet.now in
    let whole : BeginsWhole bytes = first_of (search rules, grind (arith, common_steps)) in
    let port : number_of dst_port_field bytes ≢ 0 = first_of (search rules, grind (arith, common_steps)) in (
      λ _.
          ports_read c.args.checksum_caps.now c.args.addresses.now bytes whole port
          (λ _. told _ c.has_checksum.ensures c.if-has_checksum.true),
      λ _. refl,
    )
