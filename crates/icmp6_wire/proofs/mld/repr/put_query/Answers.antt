use Rattle.std.proofs.Common.{rules, ◌≡◌, ◌+◌}
use Rattle.icmp6_wire.specs.Words.{be8, be16, fields}
use Rattle.opt_wire.proofs.FieldsAtOnce.{puts-then, puts-fields}
use Rattle.icmp6_wire.specs.Mld.{sqrv}
use Rattle.icmp6_wire.proofs.mld.repr.put_query.Goals as goal

pub returns : goal.returns
unfolding fields be8 be16
returns c =
    let bits : c.if-s_flag.flag + c.args.qrv ≡ sqrv c.args.s_flag c.args.qrv = search rules in
    puts-fields (puts-then (puts-then (puts-then c.put_header.ensures.puts c.put_address.ensures.puts)
    c.put_bytes.ensures.puts) c.put_bytes-2.ensures.puts)
    (rw (c.into.ensures, c.to_be_bytes.ensures, c.to_be_bytes-2.ensures, bits))
