-- The first string, and those after it.
use Rattle.record_wire.proofs.Words.{◌∙◌, ap, strings_in, sym}
use Rattle.record_wire.specs.ZoneText.{strings_text}
use Rattle.wirebase.proofs.Sinks.{put_none}
use Rattle.record_wire.proofs.Puts.{puts_as, puts_last}
use Rattle.record_wire.proofs.StringLists.{strings_ahead}
use Rattle.record_wire.proofs.text.words.put_strings.Goals as goal

pub returns-in_default : goal.returns-in_default
returns-in_default g c =
    let octets = c.args.octets.now in
    let none = c.new-strings.ensures.unique (strings_in octets) (strings_ahead octets) ∙ c.in_default.ensures.steps.0 in
    puts_as _ _ _ _ _ _ (ap strings_text (sym none)) (record { calls = put_none g.S.Sink.took _ })

pub returns : goal.returns
returns g c =
    let octets = c.args.octets.now in
    let some = c.new-strings.ensures.unique (strings_in octets) (strings_ahead octets) ∙ c.in-Some.ensures.steps in
    puts_as _ _ _ _ _ _ (ap strings_text (sym some))
    (puts_last _ _ _ c.in_ok-put_string.ensures.calls c.put_behind_spaces.ensures)
