-- The packet is the value of the attribute in front, or that attribute is not whole, or it is passed.
use Rattle.frame_wire.proofs.Words.{◌*◌, ◌+◌, ◌/◌, ◌<◌, ◌≤◌, ◌∙◌, ap, drop, length, refl, slice_range, subst, sym}
use Rattle.frame_wire.specs.Link.{packet_here}
use Rattle.frame_wire.specs.LinkRefusal.{header_cut, len_low, value_cut}
use Rattle.frame_wire.specs.declared.link.refusal.Refusal.TheVariants.{NflogLen}
use Rattle.frame_wire.proofs.Attributes.{has_attribute, so_far-more}
use Rattle.frame_wire.proofs.link.nflog.packet.Goals as goal

pub returns-then-rest-lt-HEADER_LEN-clause-told : goal.returns-then-rest-lt-HEADER_LEN-clause-told
returns-then-rest-lt-HEADER_LEN-clause-told c =
    c.attributes.invariant.refused _ (header_cut c.if-rest-lt-HEADER_LEN.true refl)

pub returns-then-len-lt4-clause-told : goal.returns-then-len-lt4-clause-told
returns-then-len-lt4-clause-told c =
    c.attributes.invariant.refused _
    (len_low c.if-rest-lt-HEADER_LEN.false (subst (λ n. n < 4) c.number_at-len.ensures c.if-len-lt4.true)
    (ap NflogLen c.number_at-len.ensures))

pub returns-then-rest-len-clause-told : goal.returns-then-rest-len-clause-told
returns-then-rest-len-clause-told c =
    c.attributes.invariant.refused _
    (value_cut c.if-rest-lt-HEADER_LEN.false (subst (λ n. 4 ≤ n) c.number_at-len.ensures c.if-len-lt4.false)
    (subst (λ n. length c.attributes.rest.now < n) c.number_at-len.ensures c.if-rest-len.true) refl)

pub returns-then-number_at-eq-PACKET-clause-sound : goal.returns-then-number_at-eq-PACKET-clause-sound
returns-then-number_at-eq-PACKET-clause-sound c =
    c.attributes.invariant.forth _
    (packet_here
    (has_attribute _ _ _ c.number_at-len.ensures c.if-rest-lt-HEADER_LEN.false c.if-len-lt4.false c.if-rest-len.false)
    (sym c.number_at.ensures ∙ c.if-number_at-eq-PACKET.true)
    (ap (λ n. slice_range c.attributes.rest.now 4 n) c.number_at-len.ensures))

pub attributes-preserved : goal.attributes-preserved
attributes-preserved c =
    so_far-more _ _ _ _ c.attributes.invariant
    (has_attribute _ _ _ c.number_at-len.ensures c.if-rest-lt-HEADER_LEN.false c.if-len-lt4.false c.if-rest-len.false)
    (λ nine. c.if-number_at-eq-PACKET.false (c.number_at.ensures ∙ nine))
    (c.after-rest.ensures ∙ ap (λ n. drop ((n + 3) / 4 * 4) c.attributes.rest.now) c.number_at-len.ensures)
