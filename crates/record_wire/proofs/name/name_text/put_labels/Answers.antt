use Rattle.record_wire.proofs.Words.{◌≡◌, [], ◌++◌, ◌∙◌, IsAscii-nil, ap, append-nil, append_assoc, arith, behind_dots}
use Rattle.record_wire.proofs.Words.{codes, label_text, labels_in, name_text, refl, sym}
use Rattle.wirebase.proofs.Sinks.{put_none}
use Rattle.record_wire.proofs.LabelLists.{labels-some, labels-none}
use Rattle.record_wire.proofs.Pieces.{takes_two, takes_all}
use Rattle.record_wire.proofs.Puts.{puts_as}
use Rattle.record_wire.proofs.name.name_text.put_labels.Goals as goal

pub returns-in_default : goal.returns-in_default
returns-in_default g c =
    puts_as _ _ _ _ _ _ (sym (ap name_text (labels-none c.args.octets.now (sym c.in_default.ensures))))
    c.put_str.ensures

pub loop-len-init : goal.loop-len-init
loop-len-init g c = record {
  fits = omega arith;
  ascii = IsAscii-nil;
  takes = (
    [],
    sym (ap name_text (labels-some c.args.octets.now c.in-Some.first.now c.in-Some.rest.now (sym c.in-Some.ensures))),
    record { written = []; has = put_none g.S.Sink.took _; whole = refl; ascii = IsAscii-nil },
  );
}

pub returns-in_default-split_label : goal.returns-in_default-split_label
returns-in_default-split_label g c =
    let (done, is, before) = c.loop-len.invariant.takes in
    let label = label_text c.loop-len.label.now in
    let taken = takes_two g.S.Sink.took _ _ _ _ _ _ _ _ _ before c.in_ok-len.ensures.takes refl in
    let none = ap behind_dots (labels-none c.loop-len.left.now (sym c.in_default-split_label.ensures)) in
    let whole : done ++ label ≡ name_text (labels_in c.args.octets.now) =
    sym (append-nil (done ++ label)) ∙ (ap (λ t. done ++ label ++ t) (sym none) ∙ is) in
    puts_as _ _ _ _ _ _ whole (takes_all g.S.Sink.took _ _ _ _ _ _ taken c.put.ensures)

pub loop-len-preserved : goal.loop-len-preserved
loop-len-preserved g c =
    let label = label_text c.loop-len.label.now in
    let dotted = c.in_ok-len-2.ensures.takes in
    record {
      fits = c.in_ok-len-2.ensures.fits;
      ascii = dotted.ascii;
      takes =
          let (done, is, before) = c.loop-len.invariant.takes in
          let taken = takes_two g.S.Sink.took _ _ _ _ _ _ _ _ _ before c.in_ok-len.ensures.takes refl in
          let turn = ap behind_dots
          (labels-some c.loop-len.left.now c.in-Some-split_label.next.now c.in-Some-split_label.rest.now
          (sym c.in-Some-split_label.ensures)) in (
            (done ++ label) ++ codes ".",
            grind (arith, append_assoc, is, turn),
            takes_two g.S.Sink.took _ _ _ _ _ _ _ _ _ taken dotted refl,
          );
    }
