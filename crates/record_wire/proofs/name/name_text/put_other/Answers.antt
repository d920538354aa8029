-- The root, or a name and its last dot.
use Rattle.record_wire.proofs.Words.{◌≡◌, ◌∙◌, ap, length, sym, wire}
use Rattle.record_wire.specs.Name.{labels_of}
use Rattle.record_wire.proofs.Puts.{puts_as, puts_last}
use Rattle.record_wire.proofs.RecordTexts.{root_name, longer_name}
use Rattle.record_wire.proofs.name.name_text.put_other.Goals as goal

pub returns-then-octets-eq1 : goal.returns-then-octets-eq1
returns-then-octets-eq1 g c =
    rw (sym (root_name (labels_of c.args.name.now) (ap length (sym c.octets.ensures.value) ∙ c.if-octets-eq1.true)))
    c.in_ok-put_name.ensures

pub returns : goal.returns
returns g c =
    let labels = labels_of c.args.name.now in
    let len : length c.octets.result.now ≡ length (wire labels) = ap length c.octets.ensures.value in
    puts_as _ _ _ _ _ _ (sym (longer_name labels (λ e. c.if-octets-eq1.false (len ∙ e))))
    (puts_last _ _ _ c.in_ok-put_name.ensures.calls c.put_str.ensures)
