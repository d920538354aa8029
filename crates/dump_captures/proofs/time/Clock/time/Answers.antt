-- The date that is kept and the time after it, and before both the digits of a long year.
use Rattle.std.proofs.Common.{◌++◌, ap, ◌∙◌}
use Rattle.capture.specs.Calendar.{date_of}
use Rattle.dump_captures.specs.TimeText.{time_of_day_text}
use Rattle.dump_captures.proofs.Times.{octets_ascii, told}
use Rattle.dump_captures.proofs.time.Clock.time.Goals as goal

pub returns : goal.returns
returns c =
    let clock = c.turn_to.new.self in
    let text = c.join.ensures ∙ ap (λ time. clock.date ++ time) c.time_octets.ensures in
    told clock.day clock.ten_thousands clock.date c.join.result c.args.seconds c.args.nanoseconds
    c.ranges.seconds.fits c.turn_to.ensures clock.year clock.kept text

pub invariant_of-result : goal.invariant_of-result
invariant_of-result c =
    let clock = c.turn_to.new.self in
    let time = time_of_day_text c.args.seconds c.args.nanoseconds in
    let text = c.join.ensures ∙ ap (λ time. clock.date ++ time) c.time_octets.ensures in
    record {
      ascii = octets_ascii (date_of clock.day) c.args.seconds c.args.nanoseconds _
          (text ∙ ap (λ date. date ++ time) clock.kept);
    }
