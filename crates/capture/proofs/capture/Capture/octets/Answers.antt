-- The places are clamped to the octets.
use Rattle.std.proofs.Common.{◌-◌, take, drop, length, min, ap, ◌∙◌}
use Rattle.capture.proofs.Units.{clamped}
use Rattle.capture.proofs.capture.Capture.octets.Goals as goal

pub returns : goal.returns
returns c =
    let e = c.min-end.result in
    let s = c.min-start.result in
    ap (λ l. take (e - s) (drop s l)) c.as_slice-octets.ensures.value
    ∙ clamped c.args.self.now.octets.items c.args.self.now.start c.args.self.now.end e s
    (c.min-end.ensures ∙ ap (λ l. min c.args.self.now.end (length l)) c.as_slice-octets.ensures.value)
    c.min-start.ensures
