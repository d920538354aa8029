-- What is taken so far, and what the labels still to come are written as.
use Rattle.record_wire.proofs.Words.{◌≡◌, ◌≤◌, [], ◌++◌, IsAscii, List, Takes, ℕ, behind_dots, label_text, labels_in}
use Rattle.record_wire.proofs.Words.{length, name_text, take}
use Rattle.record_wire.proofs.name.name_text.put_labels.Given as goal

abbrev pub invariant-loop-len : goal.invariant-loop-len
invariant-loop-len g l = record {
  fits : l.len ≤ 64;
  ascii : IsAscii (take l.len l.piece);
  takes : (done : List ℕ)
      × (done ++ label_text l.label ++ behind_dots (labels_in l.left) ≡ name_text (labels_in l.octets))
      × Takes g.S.Sink.took l.fn.output [] done l.output (take l.len l.piece);
}

abbrev pub decreases-loop-len : goal.decreases-loop-len
decreases-loop-len g l = length l.left
