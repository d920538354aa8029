use Rattle.record_wire.proofs.Words.{◌≤◌, Takes, flat_map, take}
use Rattle.record_wire.specs.Escapes.{escaped}
use Rattle.record_wire.proofs.escapes.put_bytes.Given as goal

abbrev pub invariant-loop-byte : goal.invariant-loop-byte
invariant-loop-byte g l = record {
  fits : l.len ≤ 64;
  takes : Takes g.S.Sink.took l.fn.output (take l.waiting l.fn.piece)
      (flat_map (escaped l.fn.escaping) (take l.byte-index l.bytes)) l.output (take l.len l.piece);
}
