-- The numbers with a dot after each; the last dot is left out or replaced by a colon.
use Rattle.wirebase.proofs.Words.{◌-◌, ◌∷◌, [], ◌++◌, ◌∙◌, ap, append_assoc, arith, take-set_at}
use Rattle.wirebase.specs.Ipv4.{address_text}
use Rattle.wirebase.proofs.Rooms.{four_numbers, cut_last}
use Rattle.wirebase.proofs.TextAscii.{v4-ascii, with_port-ascii}
use Rattle.wirebase.proofs.text.address.fill_v4.Goals as goal

pub returns-in-Some-clause-text : goal.returns-in-Some-clause-text
returns-in-Some-clause-text c =
    let end = c.put_octet-end_d in
    let numbers = four_numbers _ _ _ _ _ _ _ _ c.put_octet-end_a.ensures.text c.put_octet-end_b.ensures.text
    c.put_octet-end_c.ensures.text end.ensures.text in
    let address = rw c.octets.ensures at numbers in
    let kept =
    cut_last end.new.room (address_text c.args.address) end.result 46 (omega (arith, end.array_long)) address in
    let colon =
    take-set_at end.new.room (end.result - 1) end.result 58 (omega arith) (omega (arith, end.array_long))
    ∙ ap (λ front. front ++ 58 ∷ []) kept in
    rw c.in-Some.is (c.put_port.ensures.text ∙ rw colon (simp append_assoc))

pub returns-in-None-clause-text : goal.returns-in-None-clause-text
returns-in-None-clause-text c =
    let end = c.put_octet-end_d in
    let numbers = four_numbers _ _ _ _ _ _ _ _ c.put_octet-end_a.ensures.text c.put_octet-end_b.ensures.text
    c.put_octet-end_c.ensures.text end.ensures.text in
    let address = rw c.octets.ensures at numbers in
    rw c.in-None.is
    (cut_last end.new.room (address_text c.args.address) end.result 46 (omega (arith, end.array_long)) address)

pub returns-in-Some-clause-ascii : goal.returns-in-Some-clause-ascii
returns-in-Some-clause-ascii c =
    let numbers = v4-ascii _ _ _ _ c.put_octet-end_a.ensures.ascii c.put_octet-end_b.ensures.ascii
    c.put_octet-end_c.ensures.ascii c.put_octet-end_d.ensures.ascii in
    let address = rw c.octets.ensures at numbers in
    rw c.in-Some.is (with_port-ascii _ _ address c.put_port.ensures.ascii)

pub returns-in-None-clause-ascii : goal.returns-in-None-clause-ascii
returns-in-None-clause-ascii c =
    let numbers = v4-ascii _ _ _ _ c.put_octet-end_a.ensures.ascii c.put_octet-end_b.ensures.ascii
    c.put_octet-end_c.ensures.ascii c.put_octet-end_d.ensures.ascii in
    let address = rw c.octets.ensures at numbers in
    rw c.in-None.is address
