-- The fields, and the options.
use Rattle.std.proofs.Common.{length}
use Rattle.std.proofs.lemmas.Bool.{le-ltb}
use Rattle.neighbor_fields.specs.Messages.{type_in}
use Rattle.neighbor_fields.specs.Ndisc.{header_len}
use Rattle.packet_fields.proofs.Fields.{prints_last}
use Rattle.neighbor_fields.proofs.ndisc.show_body.Goals as goal

pub returns : goal.returns
returns g c =
    let bytes = c.args.message.now in
    let len_is = c.header_len-header_len.ensures in
    let long = rw len_is at c.if-message-header_len.false in
    let options = rw (c.split_at-2.ensures.back, len_is) at c.show_options.ensures in
    rw (le-ltb (length bytes) (header_len (type_in bytes)) long)
    (prints_last _ _ _ c.in_ok-show_fields.ensures options)
