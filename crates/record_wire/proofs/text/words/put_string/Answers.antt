-- A quote, the bytes, a quote.
use Rattle.record_wire.proofs.Words.{refl, string_text}
use Rattle.record_wire.proofs.Pieces.{takes_two, takes_from, takes_all}
use Rattle.record_wire.proofs.text.words.put_string.Goals as goal

pub returns : goal.returns
unfolding string_text
returns g c =
    let took = g.S.Sink.took in
    takes_all took _ _ _ _ _ _
    (takes_from took _ _ _ _ _
    (takes_two took _ _ _ _ _ _ _ _ _ c.in_ok-len.ensures.takes c.in_ok-len-2.ensures.takes refl)) c.put.ensures
