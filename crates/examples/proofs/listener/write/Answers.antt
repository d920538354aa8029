use Rattle.std.proofs.Common.{◌≡◌, ◌≤◌, ◌∙◌, ◌++◌, length, take, drop, arith, subst, rules, length-take-le}
use Rattle.std.proofs.Math.Seq.{take-append_seam}
use Rattle.examples.proofs.listener.write.Goals as goal

pub returns-clause-written : goal.returns-clause-written
returns-clause-written c =
    let n = c.packet_len-len.result in
    let out = c.emit_into.new.octets in
    let fits : n ≤ length c.args.out.now = omega arith in
    let cut = length-take-le n c.args.out.now fits in
    let len : length out ≡ n = search rules in
    let rest = drop n c.args.out.now in (
      c.from_octets-to.result,
      c.from_octets-to.ensures.value,
      subst (λ k. take k (out ++ rest) ≡ out) len (take-append_seam out rest)
          ∙ (rw c.default-caps.ensures at c.emit_into.ensures.exact) (cut ∙ c.packet_len-len.ensures.value),
    )
