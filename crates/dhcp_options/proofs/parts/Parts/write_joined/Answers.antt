use Rattle.dhcp_options.proofs.Words.{◌∙◌, ◌≡◌, List, ap, octets_of, over, rules, sym, ℕ}
use Rattle.dhcp_options.specs.Joined.{together}
use Rattle.wirebase.proofs.Chains.{over-puts}
use Rattle.wirebase.specs.ByteWriter.{put_all, sheet}
use Rattle.dhcp_options.proofs.JoinedParts.{fields-together}
use Rattle.dhcp_options.proofs.parts.Parts.write_joined.Goals as goal

pub returns : goal.returns
returns c =
    let octets = octets_of c.args.kind c.args.self.now in
    let kept = c.loop-octets.invariant in
    let left : c.loop-octets.w.buffer.now ≡ over c.args.buffer.now (together octets) =
    over-puts c.args.buffer.now c.new-w.result c.loop-octets.w octets c.new-w.ensures.blank
    (record {
      puts = ap (λ (l : List (List ℕ)). put_all (sheet c.loop-octets.w) l) (sym c.in-None.ensures.steps.0) ∙ kept.same;
      same_slice = kept.same_slice;
    })
    ∙ ap (λ (l : List ℕ). over c.args.buffer.now l) (fields-together octets) in
    search rules
