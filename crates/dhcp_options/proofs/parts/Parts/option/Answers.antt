use Rattle.dhcp_options.proofs.Words.{◌∙◌, ◌≡◌, List, ap, joined, length, option, refl, take, ℕ}
use Rattle.dhcp_options.proofs.JoinedParts.{take-over}
use Rattle.dhcp_options.proofs.parts.Parts.option.Goals as goal

pub returns-clause-value : goal.returns-clause-value
returns-clause-value c =
    let made = c.in_ok-len.ensures in
    let text = joined c.args.kind c.args.self.now in
    let whole : take c.in_ok-len.len c.join.new.buffer ≡ text =
    ap (λ (n : ℕ). take n c.join.new.buffer) made.len ∙ ap (λ (l : List ℕ). take (length text) l) made.joins
    ∙ take-over c.args.buffer.now text (made.accepts.0 refl) in
    ap (λ (l : List ℕ). option c.args.kind l) whole
