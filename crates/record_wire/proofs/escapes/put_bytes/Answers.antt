use Rattle.record_wire.proofs.Words.{◌≡◌, ◌≤◌, [], ◌++◌, ◌∙◌, ℕ, ap, append-nil, arith, flat_map, rules}
use Rattle.record_wire.proofs.Words.{slice_index_or, sym, take, take_more_set}
use Rattle.std.proofs.lemmas.List.{take_more, flat_map_more}
use Rattle.record_wire.specs.Escapes.{escaped}
use Rattle.record_wire.proofs.Pieces.{escaped_ascii, hidden_is, plain_text, table_tells, takes_two, takes_more}
use Rattle.record_wire.proofs.escapes.put_bytes.Goals.{then-is_set, else-is_set}
use Rattle.record_wire.proofs.escapes.put_bytes.Goals as goal

pub loop-byte-preserved : goal.loop-byte-preserved
loop-byte-preserved g c =
    let i = c.loop-byte.byte-index in
    let bytes = c.args.bytes.now in
    let escaping = c.args.escaping in
    let byte = slice_index_or {A = ℕ} bytes i 0 in
    let plain = sym (table_tells escaping byte (c.type_inv.bytes i).fits)
    ∙ sym (rw c.plain_of-plain.ensures at c.is_set.ensures) in
    let before = take c.in_ok-len.len c.loop-byte.piece in
    let put : (c.if-is_set.len ≤ 64) × (take c.if-is_set.len c.if-is_set.piece ≡ before ++ escaped escaping byte) =
    elim c.if-is_set.branch [
      | then-is_set w ↦ (
        omega (arith, w.len-is, c.in_ok-len.ensures.room),
        rw (w.len-is, w.piece-is)
            (take_more_set c.loop-byte.piece c.in_ok-len.len byte (search rules)
            ∙ ap (λ t. before ++ t) (sym (plain_text escaping byte (plain ∙ w.if-is_set.true)))),
      )
      | else-is_set w ↦ (
        omega (arith, w.len-is, w.put_hidden-len.ensures.fits),
        rw (w.len-is, w.piece-is)
            (w.put_hidden-len.ensures.puts
            ∙ ap (λ t. before ++ t) (sym (hidden_is escaping byte (c.type_inv.bytes i).fits
            (plain ∙ w.if-is_set.false)))),
      )
    ] in
    record {
      fits = put.0;
      takes =
          let done = flat_map (escaped escaping) (take i bytes) in
          let roomy = takes_two _ _ _ _ _ _ _ _ _ done c.loop-byte.invariant.takes c.in_ok-len.ensures.takes
          (append-nil done) in
          let next = flat_map_more (escaped escaping) [] (take i bytes) byte
          ∙ ap (flat_map (escaped escaping)) (sym (take_more bytes i 0 c.loop-byte-test.true)) in
          takes_more _ _ _ _ _ _ (escaped escaping byte) _ _ roomy put.1 next
          (escaped_ascii escaping byte (c.type_inv.bytes i).fits);
    }
