-- What the record says of its sender, its options, and where one is cut.
use Rattle.std.proofs.Common.{◌≡◌, ◌∙◌, ap, sym}
use Rattle.record_wire.specs.Edns.{answers_in}
use Rattle.record_wire.proofs.EdnsTiles.{tile_of}
use Rattle.dns_fields.specs.Edns.{unread_option}
use Rattle.dns_fields.proofs.Entries.{◌beside◌}
use Rattle.packet_fields.proofs.EntryChains.{entry_printed}
use Rattle.dns_fields.proofs.edns.show_says.Goals as goal

pub returns : goal.returns
returns g c =
    let octets = c.args.edns.now.options.now in
    let cut : c.why_cut.result ≡ unread_option (answers_in octets) =
    c.why_cut.ensures ∙ ap unread_option (sym (c.new.ensures.unique (answers_in octets) (tile_of octets))) in
    entry_printed _ _ _ _ _ _ _ _ c.close_entry.result tt (rw c.label_of.ensures at c.in_ok-open_entry.ensures)
    c.in_ok-first_cell.ensures
    (c.in_ok-cell.ensures beside (c.in_ok-show_sender.ensures
    beside (c.in_ok-keyed_cell.ensures beside (c.in_ok-show_reserved.ensures
    beside (rw cut at c.in_ok-show_cut.ensures))))) c.close_entry.ensures
