use Rattle.dhcp_options.proofs.Words.{◌∙◌, ◌≡◌, Answer, List, answers_left, ap, arith, length, octets_of, ℕ}
use Rattle.dhcp_options.specs.Joined.{together}
use Rattle.dhcp_options.proofs.Marks.{octets-marked}
use Rattle.dhcp_options.proofs.parts.Parts.joined_len.Goals as goal

pub loop-octets-init : goal.loop-octets-init
loop-octets-init c =
    let kind = c.args.kind in
    let items = c.parts_in-octets-items in
    let same : items.result ≡ octets_of kind c.args.self.now =
    items.ensures.parts ∙ octets-marked kind c.self.inside.seen (answers_left c.self.inside.areas)
    ∙ ap (λ (answers : List Answer). octets_of kind answers) c.self.view_is in
    let counted = ap (λ (l : List (List ℕ)). length (together l)) same in
    let given = ap (λ (l : List (List ℕ)). length (together l)) c.into_iter-octets-iterator.ensures.into_iter_gives in
    record {
      counted = omega (arith, counted, given);
      fits = omega (arith, counted, items.ensures.fits);
    }
