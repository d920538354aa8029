use Rattle.wirebase.proofs.Words.{IsHeader, Ok, ap}
use Rattle.wirebase.specs.Ipv6.{view_octets}
use Rattle.wirebase.proofs.Ipv6Header.{one_header}
use Rattle.wirebase.proofs.ipv6.Ipv6Repr.parse.Goals as goal

pub returns-clause-complete : goal.returns-clause-complete
returns-clause-complete c = λ repr is.
    let read : IsHeader (view_octets c.args.packet.now) _ =
    record {
      payload = c.payload_len.ensures;
      protocol = c.next_header.ensures;
      hops = c.hop_limit.ensures;
      source = c.src_addr.ensures;
      destination = c.dst_addr.ensures;
    } in
    ap Ok (one_header _ _ repr read is.header)
