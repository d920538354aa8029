use Rattle.std.proofs.Common.{ℕ, List, ◌++◌, length, drop, ap, sym, ◌∙◌}
use Rattle.examples.specs.Neighbor.{solicited_node_prefix}
use Rattle.examples.proofs.Neighbors.{last_three}
use Rattle.examples.proofs.neighbor.solicited_node.Goals as goal

pub returns : goal.returns
returns c =
    let octets = c.octets-octets.result in
    let same = c.octets-octets.ensures in
    c.from_octets.ensures.value
    ∙ ap (λ (l : List ℕ). solicited_node_prefix ++ l)
    (sym (last_three octets (ap (λ (l : List ℕ). length l) same ∙ c.args.address.now.whole)))
    ∙ ap (λ (l : List ℕ). solicited_node_prefix ++ drop 13 l) same
