use Rattle.record_wire.proofs.Words.{◌≡◌, [], ◌∷◌, ◌∙◌, ap, labels_in, refl, rules, subst, sym, wire, written_all}
use Rattle.record_wire.proofs.LabelLists.{in_nothing, labels-none, whole_wire}
use Rattle.record_wire.proofs.name.Name.root.Goals as goal

pub invariant_of-result : goal.invariant_of-result
invariant_of-result c =
    let pushed : c.push.new.self.items ≡ 0 ∷ [] = search rules in
    record { whole = subst (λ o. wire (labels_in o) ≡ o) (sym pushed) (whole_wire [] (ap written_all in_nothing)) }

pub returns : goal.returns
returns c =
    let pushed : c.push.new.self.items ≡ 0 ∷ [] = search rules in
    ap labels_in pushed ∙ labels-none (0 ∷ []) refl
