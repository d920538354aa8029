-- The address between its brackets, a colon and the port.
use Rattle.wirebase.proofs.Words.{◌++◌, ◌∙◌, IsAscii, ap, arith, codes, decimal, hex_groups_text, segments_of, subst}
use Rattle.wirebase.proofs.Words.{take_more_set}
use Rattle.wirebase.proofs.Rooms.{in_brackets, two_set}
use Rattle.wirebase.proofs.TextAscii.{in_brackets-ascii}
use Rattle.wirebase.proofs.text.address.fill_v6.Goals as goal

pub returns-clause-text : goal.returns-clause-text
returns-clause-text c =
    let end = c.put_address-end in
    let front = take_more_set c.args.room.now 0 91 (omega (arith, c.told-room)) in
    let behind = two_set end.new.room end.result 93 58 (omega (arith, end.array_long, end.ensures.bound)) in
    let text = in_brackets _ _ _ _ _ _ front end.ensures.text behind c.put_port.ensures.text in
    let groups = c.groups_of-groups.ensures ∙ ap segments_of c.octets.ensures in
    rw c.in-Some.is
    (text ∙ ap (λ g. codes "[" ++ hex_groups_text g ++ codes "]:" ++ decimal c.in-Some.port) groups)

pub returns-clause-ascii : goal.returns-clause-ascii
returns-clause-ascii c =
    let groups = c.groups_of-groups.ensures ∙ ap segments_of c.octets.ensures in
    rw c.in-Some.is
    (in_brackets-ascii _ _ (subst (λ g. IsAscii (hex_groups_text g)) groups c.put_address-end.ensures.ascii)
    c.put_port.ensures.ascii)
