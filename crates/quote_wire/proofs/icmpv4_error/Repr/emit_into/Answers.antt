use Rattle.std.proofs.Common.{ℕ, List, take, ap, ◌∙◌}
use Rattle.wirebase.specs.Bytes.{over}
use Rattle.wirebase.specs.ByteWriter.{fields}
use Rattle.quote_wire.specs.Error.{error_fields, seal}
use Rattle.quote_wire.specs.Icmpv4Error.{protocol, value_of}
use Rattle.quote_wire.proofs.ErrorFormat.{error_emits, take_counted}
use Rattle.quote_wire.proofs.Icmpv4Errors.{icmpv4_errors}
use Rattle.quote_wire.proofs.icmpv4_error.Repr.emit_into.Goals as goal

pub returns : goal.returns
returns c =
    let caps = c.args.checksum_caps.now in
    let p = protocol caps in
    let is = icmpv4_errors caps in
    let error = value_of c.args.self.now in
    let text_of : ℕ → List ℕ = λ number.
    fields (error_fields number error.code error.rest (take 548 error.quoted)) in
    error_emits p is error c.args.octets.now _ c.requires
    (c.seal.ensures
    ∙ ap (λ (l : List ℕ). seal p l) c.write_error.ensures
    ∙ ap (λ (quoted : List ℕ). seal p (over c.args.octets.now
    (fields (error_fields c.number.result error.code error.rest quoted))))
    (take_counted 548 error.quoted c.min.result c.min.ensures)
    ∙ ap (λ (number : ℕ). seal p (over c.args.octets.now (text_of number))) c.number.ensures)
