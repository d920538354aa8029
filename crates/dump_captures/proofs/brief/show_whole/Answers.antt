-- The message is refused for its checksum, or tells what it says.
use Rattle.std.proofs.Common.{◌∙◌, ◌++◌, ap, sym}
use Rattle.packet_fields.proofs.Printing.{◌then◌, gained_text}
use Rattle.message_brief.specs.Messages.{BriefIs}
use Rattle.message_fields.specs.Checksums.{value_of}
use Rattle.dump_captures.specs.Brief.{WholeSays, checksum_word, kind_word, refused_words}
use Rattle.dump_captures.specs.declared.refusal.Refusal.TheVariants.{Message}
use Rattle.message_fields.specs.declared.refusal.Refusal.TheVariants.{Checksum}
use Rattle.dump_captures.proofs.Printing.{gains_some}
use Rattle.dump_captures.proofs.brief.show_whole.Goals as goal

pub returns-then-is_refused : goal.returns-then-is_refused
returns-then-is_refused g c =
    gained_text (WholeSays c.args.is_strict (value_of c.args.message.now)) _ _ _ c.show_refused.result
    (WholeSays.refused _ c.checksum-state.ensures (sym c.is_refused.ensures ∙ c.if-is_refused.true)
    (ap (λ content. refused_words content (Message Checksum)) c.requires))
    c.show_refused.ensures

pub returns : goal.returns
returns g c =
    gains_some (BriefIs (value_of c.args.message.now)) (WholeSays c.args.is_strict (value_of c.args.message.now))
    _ _ _ _ c.show_brief.result (c.in_ok-show_checksum.ensures then c.in_ok-show_kind.ensures)
    (λ body is.
    WholeSays.says _ body c.checksum-state.ensures (sym c.is_refused.ensures ∙ c.if-is_refused.false) is
    (ap (λ content. checksum_word c.checksum-state.result ++ kind_word content ++ body) c.requires))
    c.show_brief.ensures
