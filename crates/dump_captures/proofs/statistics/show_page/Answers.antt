-- An object, or the lines below one that says what they are.
use Rattle.std.proofs.Common.{refl}
use Rattle.std.specs.Option.{option_map}
use Rattle.packet_fields.specs.declared.form.Form.TheVariants.{Lines}
use Rattle.packet_fields.proofs.Printing.{gained, gained_text}
use Rattle.packet_stats.specs.Stats.{state_of}
use Rattle.dump_captures.specs.Statistics.{Page, page_text}
use Rattle.dump_captures.proofs.Printing.{gains_items}
use Rattle.dump_captures.proofs.SummaryObjects.{in_object}
use Rattle.dump_captures.proofs.statistics.show_page.Goals as goal

pub returns-in_ok-show_stats-in-Json : goal.returns-in_ok-show_stats-in-Json
returns-in_ok-show_stats-in-Json g c =
    let file = option_map (λ name. name.now) c.args.file in
    gained_text (Page c.args.options.now file (state_of c.args.stats.now)) _ _ _ c.close_object.result
    (record { sorted = _; sorts = c.in_ok-show_stats-in-Json.ensures.sorts; text_is = rw c.in-Json.is refl })
    (in_object page_text file _ _ _ _ _ c.close_object.result c.in_ok-open_summary-in-Json.ensures
    c.in_ok-show_stats-in-Json.ensures.prints c.close_object.ensures)

pub returns-in_ok-write_all-in-Lines : goal.returns-in_ok-write_all-in-Lines
returns-in_ok-write_all-in-Lines g c =
    let file = option_map (λ name. name.now) c.args.file in
    gained_text (Page c.args.options.now file (state_of c.args.stats.now)) _ _ _ c.show_stats-in-Lines.result
    (record { sorted = _; sorts = c.show_stats-in-Lines.ensures.sorts; text_is = rw c.in-Lines.is refl })
    (gains_items _ _ _ _ Lines _ c.show_stats-in-Lines.result (gained _ _ _ c.in_ok-write_all-in-Lines.ensures.bytes)
    c.show_stats-in-Lines.ensures.prints)
