-- The packet is passed over, only counted, or printed.
use Rattle.std.proofs.Common.{◌≡◌, [], List, Option, refl}
use Rattle.packet_fields.specs.Fields.{Item}
use Rattle.packet_fields.specs.Output.{GainsSome}
use Rattle.packet_fields.proofs.Printing.{gains_none}
use Rattle.dump_captures.specs.Dump.{HeadersPrint, printed, counted_alone, passed, outcome_of}
use Rattle.dump_captures.specs.Messages.{ListingIs}
use Rattle.dump_captures.specs.Content.{kind_in}
use Rattle.dump_captures.specs.Sight.{headers_of}
use Rattle.dump_captures.specs.Arrival.{arrival_of}
use Rattle.dump_captures.specs.private.Kept.{session_of}
use Rattle.dump_captures.specs.declared.kind.Reason.{Reason}
use Rattle.dump_captures.proofs.Printing.{if_ok}
use Rattle.dump_captures.proofs.printed.show_control.Goals as goal

pub returns-then-not-chooses : goal.returns-then-not-chooses
returns-then-not-chooses g c = (
  [],
  passed (rw c.if-not-chooses.true at c.chooses.ensures) refl refl refl,
  gains_none _,
)

pub returns-then-not-options : goal.returns-then-not-options
returns-then-not-options g c =
    let h = headers_of c.args.headers.now in
    let options = c.args.options.now in
    let a = arrival_of c.args.arrival.now in
    let questions = session_of c.args.session.now in
    let before = g.W.Write.contents c.args.output.now in
    if_ok (λ outcome. (items : List Item) × (why : Option Reason) × ListingIs options h items why
    × (outcome ≡ outcome_of (kind_in h.content) why))
    (λ outcome. GainsSome before before (λ text.
    HeadersPrint options a h questions text outcome questions))
    c.count_alone.result
    (λ outcome told. (
      [],
      counted_alone told.0 told.1 (rw c.if-not-chooses.false at c.chooses.ensures)
          c.if-not-options.true told.2 refl told.3 refl,
      gains_none _,
    )) c.count_alone.ensures

pub returns : goal.returns
returns g c =
    let shown = c.in_ok-why.ensures in
    let answered = shown.1 in (
      shown.0,
      printed c.in_ok-why.why answered.0 (rw c.if-not-chooses.false at c.chooses.ensures) c.if-not-options.false
          answered.2 answered.1 (rw c.kind.ensures at c.outcome.ensures),
      shown.2,
    )
