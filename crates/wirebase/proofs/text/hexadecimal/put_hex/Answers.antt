-- Each turn puts the digits of a chunk.
use Rattle.wirebase.proofs.Words.{[], ◌++◌, ◌∙◌, ap, append_assoc, chunks_rest, chunks_size, lower_digits, sym}
use Rattle.wirebase.proofs.HexDigits.{encode_with-nil, encode_with-append}
use Rattle.wirebase.proofs.Sinks.{put_none, put_both}
use Rattle.wirebase.proofs.text.hexadecimal.put_hex.Goals as goal

pub loop-octets-init : goal.loop-octets-init
loop-octets-init g c =
    let same = c.into_iter-octets-iterator.ensures.into_iter_gives in
    record {
      size = ap chunks_size same ∙ c.chunks-octets-items.ensures.size;
      so_far = (
        [],
        ap chunks_rest same ∙ c.chunks-octets-items.ensures.rest,
        rw (encode_with-nil lower_digits) (put_none _ _),
      );
    }

pub loop-octets-preserved : goal.loop-octets-preserved
loop-octets-preserved g c =
    let so_far = c.loop-octets.invariant.so_far in
    let chunk = c.in-Some.octets.now in
    let cut = c.in-Some.ensures.steps in
    record {
      size = cut.0 ∙ c.loop-octets.invariant.size;
      so_far = (
        so_far.0 ++ chunk,
        append_assoc so_far.0 chunk _ ∙ ap (λ rest. so_far.0 ++ rest) (sym cut.1.0) ∙ so_far.1,
        rw (encode_with-append lower_digits so_far.0 chunk)
            (put_both _ _ _ _ _ _ so_far.2 c.in_ok-put_chunk.ensures.calls),
      );
    }
