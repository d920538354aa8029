-- The datagram that began first makes room for another.
use Rattle.std.proofs.Common.{◌≡◌, ◌≤◌, ◌++◌, ◌∙◌, [], ◌∷◌, ap, arith, length, refl, rules}
use Rattle.std.proofs.lemmas.Grind.{common_steps}
use Rattle.std.proofs.lemmas.List.{length-map}
use Rattle.reassembly.specs.Partial.{partial_of}
use Rattle.reassembly.specs.Reassembly.{drops}
use Rattle.reassembly.proofs.Places.{dropped}
use Rattle.reassembly.proofs.reassembly.Reassembly.begin.Goals as goal

pub returns-clause-adds : goal.returns-clause-adds
returns-clause-adds c =
    let items = c.args.self.now.datagrams.items in
    let pushed : c.push.new.self.items ≡ items ++ (c.in_ok-datagram.datagram ∷ []) =
    first_of (search rules, grind (arith, common_steps)) in
    let many : 64 ≤ length items = omega (arith, c.len-count.ensures, c.if-count-lt-MOST_DATAGRAMS.false) in
    let d =
    dropped items c.push.new.self.items c.remove.new.self.items c.remove.result c.in_ok-datagram.datagram pushed
    (omega (arith, many)) c.remove.ensures.value c.remove.ensures.items in
    drops (partial_of c.remove.result) d.rest c.requires.sound c.requires.unknown
    (omega (arith, length-map items partial_of, many)) d.old refl
    (d.new ∙ ap (λ x. d.rest ++ (x ∷ [])) c.in_ok-datagram.ensures)
