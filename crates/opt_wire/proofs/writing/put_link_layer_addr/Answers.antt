use Rattle.opt_wire.proofs.Words.{◌≡◌, List, ℕ, arith, be8, fields}
use Rattle.opt_wire.proofs.FieldsAtOnce.{all_bytes, bytes_from}
use Rattle.opt_wire.proofs.writing.put_link_layer_addr.Goals as goal

pub returns-in-len6-clause-puts : goal.returns-in-len6-clause-puts
unfolding fields be8
returns-in-len6-clause-puts c =
    let l : List ℕ = c.as_bytes.result.now in
    let six : l ≡ bytes_from l 0 6 = all_bytes l 0 6 (omega (arith, c.in-len6.len_at_least, c.in-len6.len_below)) in
    rw (← c.as_bytes.ensures.value, ← c.into.ensures, six) c.put_bytes.ensures.puts

pub returns-in-len8-clause-puts : goal.returns-in-len8-clause-puts
unfolding fields be8
returns-in-len8-clause-puts c =
    let l : List ℕ = c.as_bytes.result.now in
    let eight : l ≡ bytes_from l 0 8 = all_bytes l 0 8 (omega (arith, c.in-len8.len_at_least, c.in-len8.len_below)) in
    rw (← c.as_bytes.ensures.value, ← c.into-in-len8.ensures, eight) c.put_bytes-in-len8.ensures.puts
