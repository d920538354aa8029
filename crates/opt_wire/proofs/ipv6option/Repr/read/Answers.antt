use Rattle.opt_wire.proofs.Words.{◌∙◌, ap, big_number, refl, sym}
use Rattle.opt_wire.specs.Ipv6OptionTables.{alert_of}
use Rattle.opt_wire.specs.Ipv6Option.{inner}
use Rattle.opt_wire.proofs.Ipv6OptionGrammar.{front_of-pads, front_of-alert, front_of-other, begins_with}
use Rattle.opt_wire.proofs.ipv6option.Repr.read.Goals as goal

pub returns-in-PadN-clause-sound : goal.returns-in-PadN-clause-sound
returns-in-PadN-clause-sound c =
    begins_with _ _
    (front_of-pads (inner c.args.opt.now).now _ (c.in_ok-check_len.ensures.accepts.0 refl)
    (sym c.option_type.ensures ∙ c.in-PadN.is) c.data_len.ensures)

pub returns-else-data_len-ne-DATA_LEN-clause-sound : goal.returns-else-data_len-ne-DATA_LEN-clause-sound
returns-else-data_len-ne-DATA_LEN-clause-sound c =
    let same = c.into.ensures ∙ ap alert_of (c.read_u16.ensures ∙ ap (big_number 2) c.data.ensures.value) in
    begins_with _ _
    (front_of-alert (inner c.args.opt.now).now _ (c.in_ok-check_len.ensures.accepts.0 refl)
    (sym c.option_type.ensures ∙ c.in-RouterAlert.is)
    (sym c.data_len-in-RouterAlert.ensures ∙ c.if-data_len-ne-DATA_LEN.false) same)

pub returns-in_default-clause-sound : goal.returns-in_default-clause-sound
returns-in_default-clause-sound c =
    begins_with _ _
    (front_of-other (inner c.args.opt.now).now _ _ _ (c.in_ok-check_len.ensures.accepts.0 refl)
    c.option_type.ensures c.in_default.not-Pad1 c.in_default.not-PadN c.in_default.not-RouterAlert
    c.data_len-in_default.ensures c.data-in_default.ensures.value)
