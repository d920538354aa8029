use Rattle.wirebase.proofs.Sinks.{put_none}
use Rattle.record_wire.proofs.FieldTexts.{base64_none, base64_one, base64_two}
use Rattle.record_wire.proofs.text.words.put_last.Goals as goal

pub returns-in_default : goal.returns-in_default
returns-in_default g c =
    rw (base64_none c.args.left.now c.in_default.ensures) (record { calls = put_none g.S.Sink.took _ })

pub returns-in-Some-split_byte : goal.returns-in-Some-split_byte
returns-in-Some-split_byte g c =
    rw (base64_two c.in-Some.a c.in-Some-split_byte.b c.args.left.now c.in-Some.rest.now
    c.in-Some-split_byte.field-0-1.now c.requires c.in-Some.ensures c.in-Some-split_byte.ensures)
    c.put_digits.ensures

pub returns-in-None : goal.returns-in-None
returns-in-None g c =
    rw (base64_one c.in-Some.a c.args.left.now c.in-Some.rest.now c.in-Some.ensures c.in-None.ensures)
    c.put_digits-in-None.ensures
