-- The checksum is filled in, and replaced where it is 0.
use Rattle.frame_wire.proofs.Words.{◌≡◌, ◌∙◌, IpProtocol, List, ℕ, ap, arith, big_bytes, checksum_field, common_steps}
use Rattle.frame_wire.proofs.Words.{length, number_of, refl, rules, sealed, splice, sum_before, sym, take_all}
use Rattle.wirebase.proofs.ChecksumSeals.{put_mid-splice}
use Rattle.wirebase.proofs.Pieces.{append-drop_whole}
use Rattle.wirebase.proofs.PseudoSeals.{sealed-fold}
use Rattle.frame_wire.proofs.UdpSeals.{sealed-none, sealed-other}
use Rattle.frame_wire.proofs.udp.repr.seal.Goals as goal
use Rattle.frame_wire.proofs.udp.repr.seal.Goals.{then-u16_at-eq0, else-u16_at-eq0}

pub returns : goal.returns
returns c =
    let old = c.args.octets.now in
    let extra = sum_before c.args.addresses.now IpProtocol.Udp (length old) in
    let left : c.fill.new.octets ≡ sealed checksum_field old extra =
    c.fill.ensures.sealed
    ∙ ap (λ (l : List ℕ). sealed checksum_field l c.sum_before-sum.result) (take_all (length old) old (omega arith))
    ∙ ap (λ (n : ℕ). sealed checksum_field old n) c.sum_before-sum.ensures
    ∙ sealed-fold checksum_field old extra in
    let filled = c.fill.new.octets in
    let whole = append-drop_whole filled old (length old) refl in
    let number : c.u16_at.result ≡ number_of checksum_field filled =
    c.u16_at.ensures ∙ ap (λ (l : List ℕ). number_of checksum_field l) whole in
    elim c.if-u16_at-eq0.branch [
      | then-u16_at-eq0 w ↦
          let two : w.write_u16.new.buf ≡ big_bytes 2 65535 = first_of (search rules, grind (arith, common_steps)) in
          w.octets-is
          ∙ put_mid-splice _ w.write_u16.new.buf 6 8 (omega arith)
          ∙ ap (λ (l : List ℕ). splice l 6 8 w.write_u16.new.buf) whole
          ∙ ap (λ (l : List ℕ). splice filled 6 8 l) two
          ∙ sealed-none c.args.addresses.now old c.requires.whole filled left (sym number ∙ w.if-u16_at-eq0.true)
      | else-u16_at-eq0 w ↦
          w.octets-is ∙ whole
          ∙ sealed-other c.args.addresses.now old c.requires.whole filled left
          (λ none. w.if-u16_at-eq0.false (number ∙ none))
    ]
