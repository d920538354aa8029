-- By the type: of neighbor discovery, or another.
use Rattle.std.proofs.Common.{◌∙◌, sym}
use Rattle.message_fields.specs.Icmp.{Icmp6Is, NeighborIs, OthersAre, of_neighbors, of_others}
use Rattle.message_fields.proofs.Told.{told_as}
use Rattle.message_fields.proofs.icmp.show_icmp6.Goals as goal

pub returns-then-has_ndisc_type : goal.returns-then-has_ndisc_type
returns-then-has_ndisc_type g c =
    let source = c.args.src_addr.now in
    let destination = c.args.dst_addr.now in
    let octets = c.args.octets.now in
    let no_listener = sym c.has_mld_type.ensures ∙ c.if-has_mld_type.false in
    let neighbor = sym c.has_ndisc_type.ensures ∙ c.if-has_ndisc_type.true in
    told_as _ _ _ _ (NeighborIs source destination octets) (Icmp6Is c.args.is_whole source destination octets)
    (λ items told are. of_neighbors no_listener neighbor are) c.show_neighbor.ensures

pub returns : goal.returns
returns g c =
    let source = c.args.src_addr.now in
    let destination = c.args.dst_addr.now in
    let octets = c.args.octets.now in
    let no_listener = sym c.has_mld_type.ensures ∙ c.if-has_mld_type.false in
    let no_neighbor = sym c.has_ndisc_type.ensures ∙ c.if-has_ndisc_type.false in
    let whole = c.args.is_whole in
    told_as _ _ _ _ (OthersAre whole source destination octets) (Icmp6Is whole source destination octets)
    (λ items told are. of_others no_listener no_neighbor are) c.show_others.ensures
