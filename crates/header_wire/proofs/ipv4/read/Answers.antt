use Rattle.std.proofs.Common.{rules, ◌≡◌, ◌-◌, ℕ, take, drop, ap, arith}
use Rattle.wirebase.specs.Bytes.{number_of, part}
use Rattle.wirebase.specs.Ipv4.{fragment_field, header_len_in, total_len_in}
use Rattle.header_wire.proofs.HeaderTexts.{eighth}
use Rattle.header_wire.proofs.ipv4.read.Goals as goal

pub returns : goal.returns
unfolding part
returns c =
    let bytes = c.args.octets.now in
    let long : c.header_len-header_len.result ≡ header_len_in bytes = search rules in
    let total : c.total_len.result ≡ total_len_in bytes = search rules in
    record {
      service = search rules;
      ident = search rules;
      dont_frag = search rules;
      more_frags = search rules;
      frag_offset = eighth c.frag_offset.result (number_of fragment_field bytes) (search rules);
      hop_limit = search rules;
      protocol = search rules;
      src_addr = search rules;
      dst_addr = search rules;
      options = ap (λ (n : ℕ). take (n - 20) (drop 20 bytes)) long;
      payload_len = omega (arith, long, total, c.requires.1.1.1.1.0);
    }
