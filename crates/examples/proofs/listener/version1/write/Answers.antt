use Rattle.std.proofs.Common.{◌≡◌, ◌≤◌, ◌∙◌, ◌++◌, length, take, drop, arith, subst, rules, length-take-le}
use Rattle.std.proofs.Math.Seq.{take-append_seam}
use Rattle.std.proofs.lemmas.Slice.{drop-append-drop}
use Rattle.examples.proofs.listener.version1.write.Goals as goal

pub returns-clause-written : goal.returns-clause-written
returns-clause-written c =
    let out = c.write_message.new.out in
    let fits : 24 ≤ length c.args.out.now = search rules in
    let cut = length-take-le 24 c.args.out.now fits in
    let len : length out ≡ 24 = search rules in
    let rest = drop 24 c.args.out.now in
    subst (λ n. take n (out ++ rest) ≡ out) len (take-append_seam out rest) ∙ c.write_message.ensures

pub returns-clause-rest : goal.returns-clause-rest
returns-clause-rest c =
    let out = c.write_message.new.out in
    let fits : 24 ≤ length c.args.out.now = search rules in
    let cut = length-take-le 24 c.args.out.now fits in
    let len : length out ≡ 24 = search rules in
    drop-append-drop 24 c.args.out.now out 24 (omega arith) len
