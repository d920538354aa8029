-- Each turn looks at one octet, and after the last all are looked at.
use Rattle.std.proofs.Common.{◌≡◌, arith, sym}
use Rattle.std.proofs.lemmas.List.{take_all}
use Rattle.std.proofs.lemmas.List.Elements.{All-same}
use Rattle.dump_lines.proofs.Searching.{spaces_more}
use Rattle.dump_lines.proofs.search.has_other.Goals as goal

pub loop-octet-preserved : goal.loop-octet-preserved
loop-octet-preserved c none =
    spaces_more c.args.octets.now c.loop-octet.octet-index c.loop-octet.found c.loop-octet-test.true
    c.loop-octet.invariant none

pub returns : goal.returns
returns c none =
    let all = take_all c.loop-octet.octet-index c.args.octets.now (omega (arith, c.loop-octet-test.false)) in
    All-same (λ octet. octet ≡ 32) _ _ (sym all) (c.loop-octet.invariant none)
