use Rattle.std.proofs.Common.{◌≡◌, ◌*◌, ℕ, sym, ap, ◌∙◌}
use Rattle.wirebase.specs.Bytes.{number_of, part}
use Rattle.icmp6_wire.specs.Icmpv6Packet.{inner}
use Rattle.icmp6_wire.specs.MldPacket.{max_resp_code_field, resp_millis}
use Rattle.group_wire.specs.declared.family.Family.{Family}
use Rattle.group_wire.specs.Times.{query_millis}
use Rattle.group_wire.proofs.QueryTimes.{code_read}
use Rattle.group_wire.proofs.times.query_time.Goals as goal

pub returns-in-Mld : goal.returns-in-Mld
unfolding part
returns-in-Mld c =
    let number : number_of max_resp_code_field (inner c.new_unchecked.result).now ≡ c.args.code =
    ap (λ octets. number_of max_resp_code_field octets.now) c.new_unchecked.ensures
    ∙ code_read c.args.code c.to_be_bytes.result c.ranges.code.fits c.to_be_bytes.ensures in
    c.max_resp_time.ensures
    ∙ ap (λ (n : ℕ). 1000 * resp_millis n) number
    ∙ ap (λ (f : Family). 1000 * query_millis f c.args.code) (sym c.in-Mld.is)
