use Rattle.record_wire.proofs.Words.{◌≡◌, ◌<◌, [], ◌∷◌, ◌++◌, ◌∙◌, IsNameText, ap, labels_in, length, refl, subst, sym}
use Rattle.record_wire.proofs.Words.{wire}
use Rattle.record_wire.proofs.LabelLists.{written_in, whole_wire, ended, in_written, name_of, room_for_end}
use Rattle.record_wire.proofs.NameLabels.{root_alone}
use Rattle.record_wire.proofs.NameTexts.{text_reads}
use Rattle.record_wire.proofs.Outcomes.{no_labels, some_labels}
use Rattle.record_wire.proofs.name.Name.from_text.Goals as goal

-- ---- the root

pub returns-then-is_root-clause-complete : goal.returns-then-is_root-clause-complete
returns-then-is_root-clause-complete c = λ labels is.
    let root = c.is_root.ensures.0 c.if-is_root.true in
    c.root.ensures ∙ sym (root_alone labels (subst (λ t. IsNameText t labels) root is))

pub returns-then-is_root-clause-reads_back : goal.returns-then-is_root-clause-reads_back
returns-then-is_root-clause-reads_back c = λ labels name bytes e.
    returns-then-is_root-clause-complete c labels
    (subst (λ t. IsNameText t labels) (sym e) (text_reads labels name bytes))

-- ---- any other name

pub invariant_of-result : goal.invariant_of-result
invariant_of-result c =
    let spelled = c.in_ok-put_labels.ensures.sound in
    let octets = c.put_labels.new.octets.items in
    let pushed : c.push_end.new.octets.items ≡ octets ++ 0 ∷ [] = c.in_ok-push_end.ensures.pushes in
    record {
      whole = subst (λ o. wire (labels_in o) ≡ o) (sym pushed)
          (whole_wire octets (written_in octets (spelled.first ∷ spelled.more) spelled.each spelled.written));
    }

pub returns-clause-sound : goal.returns-clause-sound
returns-clause-sound c =
    let spelled = c.in_ok-put_labels.ensures.sound in
    let labels = spelled.first ∷ spelled.more in
    let octets = c.put_labels.new.octets.items in
    let pushed : c.push_end.new.octets.items ≡ octets ++ 0 ∷ [] = c.in_ok-push_end.ensures.pushes in
    let room : length octets < 255 = c.in_ok-push_end.ensures.room.0 refl in
    let same = ap labels_in pushed ∙ (ended octets (written_in octets labels spelled.each spelled.written)
    ∙ in_written octets labels spelled.each spelled.written) in
    subst (λ all. IsNameText c.args.text.now all) (sym same)
    (record { name = name_of octets labels spelled.each spelled.written room; is = spelled.is })

pub returns-clause-complete : goal.returns-clause-complete
returns-clause-complete c = λ labels is.
    let octets = c.put_labels.new.octets.items in
    let written = some_labels c.args.text.now octets labels (λ e. cc (c.is_root.ensures.1 e, c.if-is_root.false))
    (λ label more text. (c.in_ok-put_labels.ensures.complete label more text).1) is in
    let pushed : c.push_end.new.octets.items ≡ octets ++ 0 ∷ [] = c.in_ok-push_end.ensures.pushes in
    ap labels_in pushed ∙ (ended octets (written_in octets labels is.name.each written)
    ∙ in_written octets labels is.name.each written)

pub returns-clause-reads_back : goal.returns-clause-reads_back
returns-clause-reads_back c = λ labels name bytes e.
    returns-clause-complete c labels (subst (λ t. IsNameText t labels) (sym e) (text_reads labels name bytes))

pub returns-in_err-push_end-clause-complete : goal.returns-in_err-push_end-clause-complete
returns-in_err-push_end-clause-complete c = λ labels is.
    let octets = c.put_labels.new.octets.items in
    let written = some_labels c.args.text.now octets labels (λ e. cc (c.is_root.ensures.1 e, c.if-is_root.false))
    (λ label more text. (c.in_ok-put_labels.ensures.complete label more text).1) is in
    let ok = c.in_err-push_end.ensures.room.1 (room_for_end octets labels written is.name.fits) in
    absurd (cc ok)

pub returns-in_err-push_end-clause-reads_back : goal.returns-in_err-push_end-clause-reads_back
returns-in_err-push_end-clause-reads_back c = λ labels name bytes e.
    returns-in_err-push_end-clause-complete c labels
    (subst (λ t. IsNameText t labels) (sym e) (text_reads labels name bytes))

pub returns-in_err-put_labels-clause-complete : goal.returns-in_err-put_labels-clause-complete
returns-in_err-put_labels-clause-complete c = λ labels is.
    no_labels c.args.text.now labels (λ e. cc (c.is_root.ensures.1 e, c.if-is_root.false))
    (λ label more text. let ok = (c.in_err-put_labels.ensures.complete label more text).0 in absurd (cc ok)) is

pub returns-in_err-put_labels-clause-reads_back : goal.returns-in_err-put_labels-clause-reads_back
returns-in_err-put_labels-clause-reads_back c = λ labels name bytes e.
    returns-in_err-put_labels-clause-complete c labels
    (subst (λ t. IsNameText t labels) (sym e) (text_reads labels name bytes))
