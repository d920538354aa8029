-- The packet's headers decide.
use Rattle.std.proofs.Common.{[], ap, refl}
use Rattle.packet_fields.specs.Output.{GainsSome}
use Rattle.packet_fields.proofs.Printing.{gains_none}
use Rattle.dump_captures.specs.Arrival.{arrival_of}
use Rattle.dump_captures.specs.Dump.{EachPrints, HeadersPrint, SightPrints, of_control, of_other, of_stream, of_unread}
use Rattle.dump_captures.specs.Sight.{headers_of, sight_of, stream_of}
use Rattle.dump_captures.specs.declared.tally.Outcome.TheVariants.{Passed}
use Rattle.dump_captures.specs.private.Kept.{session_of}
use Rattle.dump_captures.proofs.Printing.{if_ok}
use Rattle.dump_captures.proofs.packets.show_sight.Goals as goal

pub returns-in-Unread : goal.returns-in-Unread
returns-in-Unread g c = ([], of_unread (ap sight_of c.in-Unread.is) refl refl refl, gains_none _)

pub returns-in-Other : goal.returns-in-Other
returns-in-Other g c = ([], of_other c.in-Other.category (ap sight_of c.in-Other.is) refl refl refl, gains_none _)

pub returns-in-Control : goal.returns-in-Control
returns-in-Control g c =
    let options = c.args.options.now in
    let a = arrival_of c.args.arrival.now in
    let h = headers_of c.in-Control.headers in
    let old = session_of c.args.session.now in
    let new = session_of c.show_control.new.session in
    let before = g.W.Write.contents c.args.output.now in
    let after = g.W.Write.contents c.show_control.new.output in
    if_ok (λ outcome. GainsSome before after (λ text. HeadersPrint options a h old text outcome new))
    (λ outcome. GainsSome before after (λ text.
    SightPrints options a (sight_of c.args.sight.now) old text outcome new))
    c.show_control.result
    (λ outcome shown. (shown.0, of_control h (ap sight_of c.in-Control.is) shown.1, shown.2)) c.show_control.ensures

pub returns-in-Segment : goal.returns-in-Segment
returns-in-Segment g c =
    let options = c.args.options.now in
    let a = arrival_of c.args.arrival.now in
    let t = stream_of c.in-Segment.segment in
    let old = session_of c.args.session.now in
    let new = session_of c.show_segment.new.session in
    let before = g.W.Write.contents c.args.output.now in
    let after = g.W.Write.contents c.show_segment.new.output in
    if_ok (λ outcome. GainsSome before after (λ text. EachPrints options a t Passed old t.messages text outcome new))
    (λ outcome. GainsSome before after (λ text.
    SightPrints options a (sight_of c.args.sight.now) old text outcome new))
    c.show_segment.result
    (λ outcome shown. (shown.0, of_stream t (ap sight_of c.in-Segment.is) shown.1, shown.2)) c.show_segment.ensures
