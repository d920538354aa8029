-- Each turn prints an octet, or leaves it out.
use Rattle.std.proofs.Common.{[], arith, refl, subst}
use Rattle.std.proofs.lemmas.List.{append-nil, drop_all, drop_more}
use Rattle.packet_fields.specs.Output.{Gains}
use Rattle.packet_fields.proofs.Printing.{◌then◌, gains_none}
use Rattle.dump_captures.proofs.LineWords.{one_octet}
use Rattle.dump_captures.proofs.pairing.put_as_words.Goals as goal

pub loop-octet-init : goal.loop-octet-init
loop-octet-init g c = ([], refl, gains_none _)

pub loop-octet-preserved : goal.loop-octet-preserved
loop-octet-preserved g c =
    let so_far = c.loop-octet.invariant in
    let left = drop_more c.args.lines.now c.loop-octet.octet-index 0 c.loop-octet-test.true in (
      _,
      rw c.is_end-ends.ensures (one_octet so_far.0 _ c.loop-octet.begins _ _ (rw left at so_far.1)),
      so_far.2 then c.in_ok-put_unless.ensures,
    )

pub returns : goal.returns
returns g c =
    let so_far = c.loop-octet.invariant in
    let all = drop_all c.loop-octet.octet-index c.args.lines.now (omega (arith, c.loop-octet-test.false)) in
    subst (Gains _ _) (rw (all, append-nil so_far.0) at so_far.1) so_far.2
