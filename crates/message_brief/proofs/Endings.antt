-- The ending of a line.
use Rattle.std.proofs.Common.{◌++◌, Bool, Err, List, Ok, OnOk, Option, Result, false, refl, ℕ}
use Rattle.wirebase.specs.Sink.{PutsText}
use Rattle.packet_fields.specs.Output.{Appending, GainsSome}
use Rattle.packet_fields.proofs.Printing.{gains_both, put}
use Rattle.message_fields.specs.Checksums.{MessageValue}
use Rattle.message_brief.specs.Messages.{BodyIs, BriefIs, CutBriefIs}
use Rattle.message_brief.specs.Words.{ending_text}

module _ {W E : Type 0} (contents : W → Option (List ℕ)) (a b c : W) (m : MessageValue) (whole : Bool) where
  pub brief_ends : (r : Result (Unit {0}) E) → GainsSome (contents a) (contents b) (λ text. BodyIs m text whole)
      → PutsText (Appending contents) b (ending_text whole) r c
      → OnOk r (GainsSome (contents a) (contents c) (BriefIs m))
  brief_ends (Err e) body ends = tt
  brief_ends (Ok u) (text, is, gains) ends = (
    text ++ ending_text whole,
    record { body = text; whole = whole; is = is; text_is = refl },
    gains_both _ _ _ _ _ gains (put contents _ _ _ ends),
  )

  pub cut_ends : (r : Result (Unit {0}) E) → GainsSome (contents a) (contents b) (λ text. BodyIs m text whole)
      → PutsText (Appending contents) b (ending_text false) r c
      → OnOk r (GainsSome (contents a) (contents c) (CutBriefIs m))
  cut_ends (Err e) body ends = tt
  cut_ends (Ok u) (text, is, gains) ends = (
    text ++ ending_text false,
    record { body = text; whole = whole; is = is; text_is = refl },
    gains_both _ _ _ _ _ gains (put contents _ _ _ ends),
  )
