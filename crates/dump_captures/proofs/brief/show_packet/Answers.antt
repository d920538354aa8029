-- What it says behind the checksum of its header.
use Rattle.std.proofs.Common.{◌∙◌, refl, sym}
use Rattle.packet_fields.proofs.Printing.{gained_text}
use Rattle.dump_captures.specs.Brief.{ContentSays, PacketSays}
use Rattle.dump_captures.specs.Content.{content_of}
use Rattle.dump_captures.specs.Sight.{headers_of}
use Rattle.dump_captures.proofs.Printing.{gains_some}
use Rattle.dump_captures.proofs.brief.show_packet.Goals as goal

pub returns-then-is_header_refused : goal.returns-then-is_header_refused
returns-then-is_header_refused g c =
    gained_text (PacketSays c.args.is_strict (headers_of c.args.headers.now)) _ _ _ c.show_refused.result
    (PacketSays.refused (sym c.is_header_refused.ensures ∙ c.if-is_header_refused.true) refl) c.show_refused.ensures

pub returns : goal.returns
returns g c =
    gains_some (ContentSays c.args.is_strict (content_of c.args.headers.now.content))
    (PacketSays c.args.is_strict (headers_of c.args.headers.now)) _ _ _ _ c.show_content.result
    c.in_ok-show_header.ensures
    (λ body is. PacketSays.says body (sym c.is_header_refused.ensures ∙ c.if-is_header_refused.false) is refl)
    c.show_content.ensures
