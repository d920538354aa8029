use Rattle.std.proofs.Common.{ap, ◌∙◌}
use Rattle.std.proofs.lemmas.Option.{IfSome_then}
use Rattle.control_wire.specs.Capabilities.{all_of}
use Rattle.control_wire.specs.ChecksumType.TheVariants.{Both}
use Rattle.quote_wire.specs.Error.{packet_text}
use Rattle.quote_wire.specs.Icmpv6Error.{protocol}
use Rattle.examples.proofs.unreachable.tell_v6.Goals as goal

pub returns-clause-tells : goal.returns-clause-tells
returns-clause-tells c =
    let source = c.in-Some.read.0 in
    IfSome_then c.write_v6.result c.write_v6.ensures.written (λ n e. (
      source,
      c.in-Some.ensures.sound.0,
      e ∙ ap (λ quoted. packet_text (protocol c.args.own.now source (all_of Both))
          (record { kind = c.args.kind; code = c.args.code; rest = c.args.rest; quoted = quoted }))
          c.in-Some.ensures.sound.1,
    ))
