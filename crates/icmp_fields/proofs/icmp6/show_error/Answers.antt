-- The error, with the fields of what it quotes, and of the extensions behind that.
use Rattle.std.proofs.Common.{◌≡◌, false, refl, subst, sym, true}
use Rattle.std.specs.Option.{option_map}
use Rattle.quote_wire.specs.Upper.{value_of as upper_of}
use Rattle.extension_wire.specs.declared.family.Family.{Family}
use Rattle.quote_wire.specs.Icmpv6Error.{IsPacketFront, length_in, value_of}
use Rattle.icmp_fields.specs.Extensions.{AreBehind, IsDivision}
use Rattle.icmp_fields.specs.private.Reasons.{division_of}
use Rattle.icmp_fields.specs.Icmp6.{AreErrorItems, error_items}
use Rattle.icmp_fields.proofs.ExtensionEntries.{some_behind}
use Rattle.icmp_fields.proofs.Quotes.{is_division, quoted_packet}
use Rattle.icmp_fields.proofs.icmp6.show_error.Goals as goal

pub returns-in_default : goal.returns-in_default
returns-in_default g c =
    let error = value_of c.args.error.now in
    let divides : IsDivision Family.V6 (length_in error) error.quoted (division_of c.parts-division.result) =
    is_division _ _ _ c.parts-division.result c.parts-division.ensures.sound c.parts-division.ensures.told in
    let packet : IsPacketFront c.quoted_of.result.now =
    subst IsPacketFront (sym c.quoted_of.ensures) (quoted_packet _ _ _ divides c.requires) in
    let both : false ≡ true = c.in_default.ensures.accepts.1 packet in cc

pub returns : goal.returns
returns g c =
    let error = value_of c.args.error.now in
    let division = division_of c.parts-division.result in
    let divides : IsDivision Family.V6 (length_in error) error.quoted division =
    is_division _ _ _ c.parts-division.result c.parts-division.ensures.sound c.parts-division.ensures.told in
    let upper = option_map upper_of c.upper.result in
    let is_whole = c.args.is_whole in
    some_behind _ _ _ _ (error_items error c.in-Ok.quote upper) (AreBehind is_whole division)
    (AreErrorItems is_whole error) _
    c.in_ok-show_quoting.ensures
    (λ behind are. record {
      division = division;
      divides = divides;
      quote = c.in-Ok.quote;
      quotes = rw c.quoted_of.ensures at c.in-Ok.ensures.fields;
      upper = upper;
      leads = c.upper.ensures;
      behind = behind;
      extensions = are;
      items_are = refl;
    })
    c.show_extensions.ensures
