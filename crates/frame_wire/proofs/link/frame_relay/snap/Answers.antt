-- What has an EtherType is read by it, and what is not read so has a reason.
use Rattle.frame_wire.proofs.Words.{◌≡◌, ◌≤◌, ◌%◌, List, ℕ, drop, field, length, number_of, slice_index, subst}
use Rattle.frame_wire.proofs.Witnesses.{told_some}
use Rattle.frame_wire.specs.Link.{FrameValue, IsNlpid, IsTypedFrame, by_ether_type, by_number, by_organization}
use Rattle.frame_wire.specs.Link.{organization}
use Rattle.frame_wire.proofs.link.frame_relay.snap.Goals as goal

by_type : (bytes : List ℕ) (v : FrameValue) → slice_index bytes 0 ≡ 0x80 → organization bytes ≡ 0 → IsNlpid bytes v
    → (6 ≤ length bytes) × IsTypedFrame (number_of (field 4 6) bytes) (drop 6 bytes) v
by_type bytes v snap none (by_number some other is) = absurd (other snap)
by_type bytes v snap none (by_ether_type long same zeros is) = (long, is)
by_type bytes v snap none (by_organization long same other is) = absurd (other none)

pub unwrap-requires : goal.unwrap-requires
unwrap-requires c =
    told_some c.why_not_typed.result c.why_not_typed.ensures.exact
    (λ read. c.in-Err.ensures.complete read.0 read.1 read.2)

pub returns-in-Ok-clause-complete : goal.returns-in-Ok-clause-complete
returns-in-Ok-clause-complete c v is =
    let none : organization c.args.octets.now ≡ 0 =
    subst (λ n. n % 0x1000000 ≡ 0) c.u32_at-organization.ensures c.if-organization-ne0.false in
    let typed = by_type c.args.octets.now v c.requires.snap none is in
    c.in-Ok.ensures.complete v typed.0 typed.1
