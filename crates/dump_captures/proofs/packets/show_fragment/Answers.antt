-- What becomes of the fragment decides.
use Rattle.std.proofs.Common.{◌∙◌, [], ap, refl}
use Rattle.packet_fields.proofs.Printing.{gains_none}
use Rattle.reassembly.specs.Answer.{answer_of}
use Rattle.dump_captures.specs.Dump.{kept, put_together, refused}
use Rattle.dump_captures.specs.Tally.{alone}
use Rattle.dump_captures.specs.declared.tally.Outcome.TheVariants.{Kept}
use Rattle.dump_captures.proofs.packets.show_fragment.Goals as goal

pub returns-in-Incomplete : goal.returns-in-Incomplete
returns-in-Incomplete g c = (
  [],
  record {
    answer = _;
    adds = c.in-Ok.ensures.adds;
    prints = kept _ (ap answer_of c.in-Incomplete.is) refl
        (c.alone.ensures ∙ ap (λ category. alone (Kept category)) c.protocol_category.ensures) refl;
  },
  gains_none _,
)

pub returns-in-Refused : goal.returns-in-Refused
returns-in-Refused g c =
    let shown = c.in_ok-outcome-in-Refused.ensures in (
      shown.0,
      record {
        answer = _;
        adds = c.in-Ok.ensures.adds;
        prints = refused _ c.in_ok-outcome-in-Refused.outcome (ap answer_of c.in-Refused.is) shown.1
            c.alone-in-Refused.ensures;
      },
      shown.2,
    )

pub returns : goal.returns
returns g c =
    let shown = c.in_ok-counted-in-Whole.ensures in (
      shown.0,
      record {
        answer = _;
        adds = c.in-Ok.ensures.adds;
        prints = put_together _ (ap answer_of c.in-Whole.is) shown.1;
      },
      shown.2,
    )
