-- There is no such sum.
use Rattle.std.proofs.Common.{◌∙◌, sym}
use Rattle.packet_pairs.proofs.Sums.{no_place}
use Rattle.packet_pairs.proofs.search.place_of.Goals as goal

pub returns-clause-value : goal.returns-clause-value
returns-clause-value c =
    sym (no_place c.args.sum c.args.sums.now.items 0 (sym c.contains.ensures.value ∙ c.if-contains.false))
