-- A length below the least is none of a jumbogram.
use Rattle.frame_wire.proofs.Words.{◌≡◌, arith, subst, sym}
use Rattle.frame_wire.specs.DatagramJumbogram.{HasJumbo}
use Rattle.frame_wire.proofs.Jumbograms.{jumbo_one}
use Rattle.frame_wire.proofs.datagram.jumbogram.jumbo_len.Goals as goal

pub returns-then-len-lt-LEAST-clause-none : goal.returns-then-len-lt-LEAST-clause-none
returns-then-len-lt-LEAST-clause-none c _ len is =
    let options = c.range-options.result.now in
    let other : HasJumbo options len = subst (λ l. HasJumbo l len) (sym c.range-options.ensures.value) is.option in
    let one : c.in_ok-len.len ≡ len = jumbo_one options _ _ c.in_ok-len.ensures.found other in
    omega (arith, one, is.least)
