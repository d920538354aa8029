use Rattle.std.proofs.Common.{rules, ◌≡◌, ◌+◌, ap, ◌∙◌, arith}
use Rattle.group_wire.specs.Family.{older_len}
use Rattle.group_wire.proofs.Families.{part_behind}
use Rattle.group_wire.proofs.membership.reading.read_query.Goals as goal

pub returns-clause-sound : goal.returns-clause-sound
returns-clause-sound g c =
    let f = g.A.Address.family in
    let at : c.older_len-older_len.result ≡ older_len f =
    c.older_len-older_len.ensures ∙ ap older_len c.family.ensures in
    record {
      kind = c.requires.kind;
      long = omega (arith, at, c.if-octets-sources_at.false);
      code_is = search rules;
      group_is = c.group_in-2.ensures;
      flag_is = search rules;
      qrv_is = search rules;
      qqic_is = search rules;
      sources_are =
          c.of_octets.ensures ∙ part_behind c.args.octets.now _ _ _ _ (ap (λ n. n + 4) at) (search rules);
    }
