-- The packet is refused, or what the header's checksum says, the options, and then the message.
use Rattle.std.proofs.Common.{◌≡◌, ◌∙◌, Some, refl, sym}
use Rattle.packet_fields.specs.Prints.{Prints, PrintsSome}
use Rattle.packet_fields.proofs.Fields.{◌and◌}
use Rattle.dump_captures.specs.Messages.{ListingIs, refused, refused_items, shown}
use Rattle.dump_captures.specs.Sight.{headers_of}
use Rattle.dump_captures.specs.declared.refusal.Refusal.TheVariants.{Header}
use Rattle.dump_captures.proofs.Printing.{if_ok}
use Rattle.dump_captures.proofs.messages.show_listing.Goals as goal

pub returns-then-is_header_refused : goal.returns-then-is_header_refused
returns-then-is_header_refused g c =
    let h = headers_of c.args.headers.now in
    let options = c.args.options.now in
    let contents = g.W.Write.contents in
    if_ok (λ why. Prints options.form (contents c.args.output.now) (contents c.refuse.new.output) (refused_items Header)
    × (why ≡ Some c.header_reason-reason.result))
    (λ why. PrintsSome options.form (contents c.args.output.now) (contents c.refuse.new.output)
    (λ items. ListingIs options h items why)) c.refuse.result
    (λ why (printed, is). (
      _,
      refused (sym c.is_header_refused.ensures ∙ c.if-is_header_refused.true) refl
          (is ∙ c.header_reason-reason.ensures),
      printed,
    )) c.refuse.ensures

pub returns : goal.returns
returns g c =
    let (body, is, printed) = c.in_ok-told.ensures in (
      _,
      shown body c.in_ok-told.told (sym c.is_header_refused.ensures ∙ c.if-is_header_refused.false) is refl
          c.first_of.ensures,
      c.in_ok-show_header.ensures and c.in_ok-show_hop_by_hop.ensures and printed,
    )
