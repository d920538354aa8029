use Rattle.std.proofs.Common.{◌≡◌, ◌≤◌, ◌∙◌, ◌++◌, length, take, drop, arith, subst, rules, length-take-le}
use Rattle.std.proofs.Math.Seq.{take-append_seam}
use Rattle.control_wire.specs.Capabilities.{all_of}
use Rattle.control_wire.specs.ChecksumType.TheVariants.{Both}
use Rattle.examples.proofs.unreachable.write_v6.Goals as goal

pub returns-then-out-len-clause-room : goal.returns-then-out-len-clause-room
returns-then-out-len-clause-room c = λ room.
    let value = c.buffer_len-len.ensures.value c.args.own.now c.args.source.now (all_of Both) in
    absurd (omega (arith, value, room))

pub emit_into-requires : goal.emit_into-requires
emit_into-requires c =
    let len = c.buffer_len-len.result in
    let value = c.buffer_len-len.ensures.value c.args.own.now c.args.source.now (all_of Both) in
    let fits : len ≤ length c.args.out.now = omega arith in
    let cut = length-take-le len c.args.out.now fits in
    omega (arith, value, cut)

pub returns-clause-written : goal.returns-clause-written
returns-clause-written c =
    let n = c.buffer_len-len.result in
    let value = c.buffer_len-len.ensures.value c.args.own.now c.args.source.now (all_of Both) in
    let out = c.emit_into.new.octets in
    let fits : n ≤ length c.args.out.now = omega arith in
    let cut = length-take-le n c.args.out.now fits in
    let len : length out ≡ n = search rules in
    let rest = drop n c.args.out.now in
    subst (λ k. take k (out ++ rest) ≡ out) len (take-append_seam out rest)
    ∙ (rw c.default-caps.ensures at c.emit_into.ensures.exact) (cut ∙ value)
