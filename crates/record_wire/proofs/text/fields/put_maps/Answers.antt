-- Each turn puts the types of a map.
use Rattle.record_wire.proofs.Words.{◌++◌, ◌∙◌, List, MapValue, WritesInCalls, ℕ, ap, append-nil, maps_text, sym}
use Rattle.record_wire.proofs.Words.{types_text}
use Rattle.record_wire.proofs.FieldTexts.{maps_more, maps_none}
use Rattle.record_wire.proofs.Puts.{◌then◌, puts_as}
use Rattle.record_wire.proofs.RecordTexts.{one_text}
use Rattle.record_wire.proofs.text.fields.put_maps.Goals as goal

pub loop-upper-preserved : goal.loop-upper-preserved
loop-upper-preserved g c =
    let (done, is, before) = c.loop-upper.invariant in
    let first : MapValue = record { upper = c.in-Some.upper; map = c.in-Some.map.now } in
    let text = types_text first in
    let put : WritesInCalls g.S.Sink.took c.loop-upper.output text c.put_map.new.output =
    rw c.from.ensures at c.in_ok-put_map.ensures.calls in (
      done ++ text,
      one_text done (maps_text c.loop-upper.left.now) text (maps_text c.in-Some.rest.now) (maps_text c.args.octets.now)
          is
          (maps_more c.loop-upper.left.now c.in-Some.rest.now first (sym c.in-Some.ensures)),
      before then put,
    )

pub returns : goal.returns
returns g c =
    let (done, is, before) = c.loop-upper.invariant in
    let none = maps_none c.loop-upper.left.now (sym c.in_default.ensures) in
    let whole = sym (append-nil done) ∙ (ap (λ (l : List ℕ). done ++ l) (sym none) ∙ is) in
    puts_as _ _ _ _ _ _ whole (record { calls = before })
