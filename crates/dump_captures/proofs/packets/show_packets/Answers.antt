-- Each turn reads a packet and prints it, where more are to be printed.
use Rattle.std.proofs.Common.{◌∙◌, sym}
use Rattle.std.specs.Option.{option_map}
use Rattle.std.specs.Io.Buffered.{reader_remaining}
use Rattle.capture.specs.Capture.{state_of, octets_of, count_of}
use Rattle.packet_fields.proofs.Printing.{gains_none}
use Rattle.dump_captures.specs.Tally.{tally_of}
use Rattle.dump_captures.specs.Progress.{progress_of}
use Rattle.dump_captures.proofs.Running.{so_far-init, so_far-more, so_far-end, so_far-enough, so_far-unread}
use Rattle.dump_captures.proofs.packets.show_packets.Goals as goal

pub packets-init : goal.packets-init
packets-init g c =
    so_far-init c.args.options.now (option_map (λ name. name.now) c.args.file)
    (reader_remaining g.R.Read.remaining c.args.input.now) (state_of c.new-capture.result)
    (count_of c.new-capture.result) (progress_of c.new-progress.result) _
    (tally_of c.args.tally.now) (g.W.Write.contents c.args.output.now) c.new-capture.ensures.state
    c.new-capture.ensures.count c.new-progress.ensures c.requires

pub returns-then-is_enough : goal.returns-then-is_enough
returns-then-is_enough g c =
    so_far-enough _ _ _ _ _ _ _ _ _ _ _ _ c.packets.invariant (sym c.is_enough.ensures ∙ c.if-is_enough.true)

pub packets-preserved : goal.packets-preserved
packets-preserved g c =
    so_far-more _ _ _ _ _ _ _ _ _ _ _ _ c.packets.invariant (sym c.is_enough.ensures ∙ c.if-is_enough.false) _
    c.in_ok-write_out_before_wait.ensures _ _
    c.in-Ok-Record.record (octets_of c.next.new.self) _ (count_of c.next.new.self) _ _ _ _ _
    (rw c.in-Ok-Record.field-0-is at c.in-Ok-Record.ensures.next)
    (rw c.in-Ok-Record.field-0-is at c.in-Ok-Record.ensures.order)
    c.when.ensures
    (rw c.octets.ensures at c.in_ok-counted-in-Ok-Record.ensures)
    (rw c.octets.ensures at c.count.ensures) c.pass.ensures

pub returns-in-Ok-Ended : goal.returns-in-Ok-Ended
returns-in-Ok-Ended g c =
    so_far-end _ _ _ _ _ _ _ _ _ _ _ _ c.packets.invariant (sym c.is_enough.ensures ∙ c.if-is_enough.false) _
    c.in_ok-write_out_before_wait.ensures
    (reader_remaining g.R.Read.remaining c.next.new.input) c.in-Ok-Ended.ending (octets_of c.next.new.self)
    (state_of c.next.new.self) (rw c.in-Ok-Ended.field-0-is at c.in-Ok-Ended.ensures.next)

pub returns-in-Err-Read : goal.returns-in-Err-Read
returns-in-Err-Read g c =
    so_far-unread _ _ _ _ _ _ _ _ _ _ _ _ c.packets.invariant _ c.in_ok-write_out_before_wait.ensures

pub returns : goal.returns
returns g c = so_far-unread _ _ _ _ _ _ _ _ _ _ _ _ c.packets.invariant _ (gains_none _)
