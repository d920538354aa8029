-- The fixed header is read, and what the others lead to.
use Rattle.frame_wire.proofs.Words.{◌≡◌, arith, bytes_of, common_steps, dst_addr_field, inl, next_header_in, octets_of}
use Rattle.frame_wire.proofs.Words.{refl, rules}
use Rattle.frame_wire.proofs.Headers.{first_whole, passes_at, options_at}
use Rattle.frame_wire.proofs.Fragments.{refuses_behind}
use Rattle.frame_wire.proofs.Tags.{told, told_not}
use Rattle.frame_wire.proofs.datagram.read_unbroken.Goals as goal

pub options_of-requires : goal.options_of-requires
options_of-requires c is = first_whole _ _ _ _ _ _ c.in-Ok.ensures.passes c.in-Ok.ensures.passed is

pub returns-then-is_fragment-clause-refuses : goal.returns-then-is_fragment-clause-refuses
returns-then-is_fragment-clause-refuses c =
    let octets = c.args.octets.now in
    let protocol : c.next_header-next_header.result ≡ next_header_in octets =
    first_of (search rules, grind (arith, common_steps)) in
    let destination : octets_of c.dst_addr.result ≡ bytes_of dst_addr_field octets =
    first_of (search rules, grind (arith, common_steps)) in
    refuses_behind _ _ c.src_addr.result c.in-Ok.upper.dst_addr _ _ c.told_of_fragment.result c.requires.unbroken
    (first_of (search rules, grind (arith, common_steps))) (told _ c.is_fragment.ensures c.if-is_fragment.true)
    (passes_at _ _ _ _ _ _ _ _ _ protocol refl destination c.in-Ok.ensures.passes) c.told_of_fragment.ensures

pub returns-clause-sound : goal.returns-clause-sound
returns-clause-sound c =
    let octets = c.args.octets.now in
    let protocol : c.next_header-next_header.result ≡ next_header_in octets =
    first_of (search rules, grind (arith, common_steps)) in
    let destination : octets_of c.dst_addr.result ≡ bytes_of dst_addr_field octets =
    first_of (search rules, grind (arith, common_steps)) in
    record {
      source = c.src_addr-2.result;
      destination = c.in-Ok.upper.dst_addr;
      source_is = first_of (search rules, grind (arith, common_steps));
      addresses = refl;
      hop_limit = first_of (search rules, grind (arith, common_steps));
      hop_by_hop = options_at _ _ _ _ _ protocol refl c.options_of.ensures;
      passes = passes_at _ _ _ _ _ _ _ _ _ protocol refl destination c.in-Ok.ensures.passes;
      passed = λ is. c.in-Ok.ensures.passed (inl is);
      unfragmented = told_not _ c.is_fragment.ensures c.if-is_fragment.false;
      unbroken = c.requires.unbroken;
    }
