use Rattle.record_wire.proofs.Words.{Layout, fields, inl, inr, refl}
use Rattle.record_wire.specs.RData.{name, strings, other}
use Rattle.record_wire.proofs.RDataRefusals.{laid_out_at, refused_at, some_address4, some_address6}
use Rattle.record_wire.proofs.rdata.refusal.why_no_data.Goals as goal

pub why_no_name-requires : goal.why_no_name-requires
why_no_name-requires c = λ one.
    let octets = c.args.octets.now in
    elim c.in-Name.is [
      | inl e ↦
          c.requires (name octets)
          (laid_out_at c.args.layout Layout.Name octets (name octets) e (record { one = one; is = refl }))
      | inr e ↦
          c.requires (other octets) (laid_out_at c.args.layout Layout.Opaque octets (other octets) e refl)
    ]

pub why_not_behind-requires : goal.why_not_behind-requires
why_not_behind-requires c = λ fits one.
    let octets = c.args.octets.now in
    c.requires _ (laid_out_at c.args.layout Layout.Mail octets _ c.in-Mail.is
    (record { reaches = fits; one = one; is = refl }))

pub why_not_behind-requires-in-Service : goal.why_not_behind-requires-in-Service
why_not_behind-requires-in-Service c = λ fits one.
    let octets = c.args.octets.now in
    c.requires _ (laid_out_at c.args.layout Layout.Service octets _ c.in-Service.is
    (record { reaches = fits; one = one; is = refl }))

pub why_no_authority-requires : goal.why_no_authority-requires
why_no_authority-requires c = λ value is.
    c.requires value (laid_out_at c.args.layout Layout.Authority c.args.octets.now value c.in-Authority.is is)

pub why_no_strings-requires : goal.why_no_strings-requires
why_no_strings-requires c = λ some are.
    let octets = c.args.octets.now in
    c.requires (strings octets) (laid_out_at c.args.layout Layout.Strings octets (strings octets) c.in-Strings.is
    (record { some = some; are = are; is = refl }))

pub why_no_fields-requires : goal.why_no_fields-requires
why_no_fields-requires c = λ value is.
    let octets = c.args.octets.now in
    c.requires (fields value) (laid_out_at c.args.layout (Layout.Fields c.in-Fields.form) octets (fields value)
    c.in-Fields.is (value, is, refl))

pub returns-in-Ipv4 : goal.returns-in-Ipv4
returns-in-Ipv4 c =
    let octets = c.args.octets.now in
    refused_at c.args.layout Layout.Ipv4 octets _ c.in-Ipv4.is (
      refl,
      λ len.
          let address = some_address4 octets len in
          c.requires address.0 (laid_out_at c.args.layout Layout.Ipv4 octets address.0 c.in-Ipv4.is address.1),
    )

pub returns-in-Ipv6 : goal.returns-in-Ipv6
returns-in-Ipv6 c =
    let octets = c.args.octets.now in
    refused_at c.args.layout Layout.Ipv6 octets _ c.in-Ipv6.is (
      refl,
      λ len.
          let address = some_address6 octets len in
          c.requires address.0 (laid_out_at c.args.layout Layout.Ipv6 octets address.0 c.in-Ipv6.is address.1),
    )

pub returns-in-Name : goal.returns-in-Name
returns-in-Name c =
    let octets = c.args.octets.now in
    elim c.in-Name.is [
      | inl e ↦ refused_at c.args.layout Layout.Name octets _ e c.why_no_name.ensures
      | inr e ↦
          absurd (c.requires (other octets) (laid_out_at c.args.layout Layout.Opaque octets (other octets) e refl))
    ]
