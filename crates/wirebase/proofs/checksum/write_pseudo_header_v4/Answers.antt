use Rattle.wirebase.proofs.Words.{◌%◌, Puts, rules}
use Rattle.wirebase.specs.Ipv4.{pseudo_fields}
use Rattle.wirebase.proofs.Chains.{over-puts}
use Rattle.wirebase.proofs.Ipv4Header.{pseudo-low}
use Rattle.wirebase.proofs.checksum.write_pseudo_header_v4.Goals as goal

pub returns : goal.returns
unfolding pseudo_fields
returns c =
    let puts : Puts c.new-w.result c.put_u16.new.self
    (pseudo_fields c.args.src_addr.now c.args.dst_addr.now c.args.next_header (c.args.len % 65536)) = search rules in
    let left = over-puts c.args.octets.now _ _ _ c.new-w.ensures.blank puts in
    let low = pseudo-low c.args.src_addr.now c.args.dst_addr.now c.args.next_header c.args.len in
    search rules
