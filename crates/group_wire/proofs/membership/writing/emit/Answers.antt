use Rattle.std.proofs.Common.{ℕ, List, length, refl, sym, ap, subst, ◌∙◌}
use Rattle.wirebase.specs.Bytes.{over}
use Rattle.wirebase.specs.Checksum.{IsGood, sealed}
use Rattle.wirebase.proofs.Format.{round_trips}
use Rattle.wirebase.proofs.Pieces.{over-exact}
use Rattle.group_wire.specs.Membership.{value_of, text, checksum_field, format}
use Rattle.group_wire.proofs.MembershipFormat.{membership_format}
use Rattle.group_wire.proofs.MembershipTexts.{length-text, value_whole}
use Rattle.group_wire.proofs.membership.writing.emit.Goals as goal

pub returns : goal.returns
returns g c = λ sum extra.
    let f = g.A.Address.family in
    let v = value_of g.A.Address.bytes c.args.message.now in
    let old = c.args.octets.now in
    let whole = length-text f v (value_whole g.A.Address.bytes f g.met.A.Address.whole c.args.message.now) in
    let left = c.fill.ensures.sealed
    ∙ ap (λ (l : List ℕ). sealed checksum_field l c.args.extra) c.write.ensures
    ∙ ap (λ (n : ℕ). sealed checksum_field (over old (text f v)) n) (sym extra) in
    record {
      written = left;
      good = subst (λ (n : ℕ). IsGood c.fill.new.octets n) (sym extra) (c.fill.ensures.good refl);
      exact = λ long.
          let same = long ∙ sym whole in
          left
          ∙ ap (λ (l : List ℕ). sealed checksum_field l (sum (length old))) (over-exact old (text f v) same)
          ∙ ap (λ (n : ℕ). sealed checksum_field (text f v) (sum n)) same;
      round_trips = round_trips (format f sum) (membership_format f sum) v;
    }
