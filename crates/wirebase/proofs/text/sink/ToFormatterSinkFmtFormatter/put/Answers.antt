-- ASCII is UTF-8, so the text itself is written.
use Rattle.wirebase.proofs.Words.{◌∙◌, ap}
use Rattle.wirebase.proofs.Sinks.{put_once, unwrapped}
use Rattle.wirebase.proofs.text.sink.ToFormatterSinkFmtFormatter.put.Goals as goal

pub returns : goal.returns
returns g c =
    let text =
    ap (λ t. t.now) c.unwrap_or.ensures ∙ unwrapped c.from_utf8.result _ _ _ c.from_utf8.ensures.cases c.requires in
    put_once g.W.Write.write_str_gives _ _ _ _ _ text c.write_str.ensures.writes
