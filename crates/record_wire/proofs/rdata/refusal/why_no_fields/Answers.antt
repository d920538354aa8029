use Rattle.record_wire.proofs.Words.{IsRest, RestValue}
use Rattle.record_wire.specs.Fields.{front_of, name_of}
use Rattle.record_wire.proofs.FieldParts.{no_second, refused_types, refused_bytes}
use Rattle.record_wire.proofs.rdata.refusal.why_no_fields.Goals as goal

pub why_no_part-requires-in_default-split_second :
    goal.why_no_part-requires-in_default-split_second
why_no_part-requires-in_default-split_second c =
    (no_second c.args.form.has_two c.in-Ok-split_name.rest.now c.in_default-split_second.ensures.complete).1

pub returns-in_default-split_second : goal.returns-in_default-split_second
returns-in_default-split_second c = record {
  two = (no_second c.args.form.has_two c.in-Ok-split_name.rest.now c.in_default-split_second.ensures.complete).0;
  value = front_of c.in-Ok.field-0-0;
  behind = c.in-Ok.behind.now;
  name = c.in-Ok-split_name.field-0-0.now;
  after = c.in-Ok-split_name.rest.now;
  front_is = c.in-Ok.ensures.sound;
  name_is = c.in-Ok-split_name.ensures.sound;
  none = c.why_no_part-in_default-split_second.ensures;
}

pub returns-in-Bits : goal.returns-in-Bits
returns-in-Bits c =
    let last = c.in-Ok-split_second.field-0.1.now in
    let none : (value : RestValue) → IsRest c.args.form.«rest» last value → ⊥ =
    λ value is. c.requires _ (record {
      behind_front = c.in-Ok.behind.now;
      behind_first = c.in-Ok-split_name.rest.now;
      behind_second = last;
      front_is = c.in-Ok.ensures.sound;
      first = c.in-Ok-split_name.ensures.sound;
      second_is = c.in-Ok-split_second.ensures.sound;
      rest_is = is;
    }) in
    record {
      value = front_of c.in-Ok.field-0-0;
      behind = c.in-Ok.behind.now;
      name = c.in-Ok-split_name.field-0-0.now;
      after = c.in-Ok-split_name.rest.now;
      second = name_of c.in-Ok-split_second.field-0.0;
      last = last;
      front_is = c.in-Ok.ensures.sound;
      name_is = c.in-Ok-split_name.ensures.sound;
      second_is = c.in-Ok-split_second.ensures.sound;
      refused = refused_types c.args.form.«rest» last c.in-Bits.is none;
    }

pub returns-in-Nothing : goal.returns-in-Nothing
returns-in-Nothing c =
    let last = c.in-Ok-split_second.field-0.1.now in
    let none : (value : RestValue) → IsRest c.args.form.«rest» last value → ⊥ =
    λ value is. c.requires _ (record {
      behind_front = c.in-Ok.behind.now;
      behind_first = c.in-Ok-split_name.rest.now;
      behind_second = last;
      front_is = c.in-Ok.ensures.sound;
      first = c.in-Ok-split_name.ensures.sound;
      second_is = c.in-Ok-split_second.ensures.sound;
      rest_is = is;
    }) in
    record {
      value = front_of c.in-Ok.field-0-0;
      behind = c.in-Ok.behind.now;
      name = c.in-Ok-split_name.field-0-0.now;
      after = c.in-Ok-split_name.rest.now;
      second = name_of c.in-Ok-split_second.field-0.0;
      last = last;
      front_is = c.in-Ok.ensures.sound;
      name_is = c.in-Ok-split_name.ensures.sound;
      second_is = c.in-Ok-split_second.ensures.sound;
      refused = refused_bytes c.args.form.«rest» last c.in-Nothing.is none;
    }
