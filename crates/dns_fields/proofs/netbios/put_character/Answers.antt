-- A byte that is not visible is put by its number.
use Rattle.std.proofs.Common.{◌∙◌, sym}
use Rattle.wirebase.proofs.Sinks.{puts_two}
use Rattle.dns_fields.proofs.EncodedNames.{hidden_text}
use Rattle.dns_fields.proofs.netbios.put_character.Goals as goal

pub returns : goal.returns
returns g c =
    puts_two g.S.Sink.took _ _ _ _ _ _ c.put_digits.result c.in_ok-put_str-2.ensures c.put_digits.ensures
    (hidden_text c.args.byte (sym c.is_special.ensures ∙ c.if-is_special.false)
    (sym c.is_ascii_graphic.ensures.value ∙ c.if-is_ascii_graphic.false))
