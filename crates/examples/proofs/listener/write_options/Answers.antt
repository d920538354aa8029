use Rattle.std.proofs.Common.{◌∙◌, ◌++◌, [], ◌∷◌, ap, sym}
use Rattle.control_wire.specs.Ipv6Hbh.{text, text_len}
use Rattle.control_wire.specs.Ipv6Option.{pad_n}
use Rattle.examples.proofs.Alerts.{options_bytes}
use Rattle.examples.proofs.listener.write_options.Goals as goal

pub returns : goal.returns
returns c =
    let is = c.push_padn_option.ensures ∙ ap (λ os. os ++ pad_n 0 ∷ []) c.mldv2_router_alert-options.ensures in
    let len = ap text_len is in
    c.emit_into.ensures.exact (c.requires ∙ sym len) ∙ (ap text is ∙ options_bytes)
