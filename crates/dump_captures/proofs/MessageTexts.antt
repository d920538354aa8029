-- The messages in a segment, printed one after another.
use Rattle.std.proofs.Common.{◌≡◌, ◌++◌, ◌∷◌, [], List, Option, append_assoc, refl, ℕ}
use Rattle.std.proofs.lemmas.List.{append-nil}
use Rattle.packet_fields.specs.Output.{Gains, GainsSome}
use Rattle.packet_fields.proofs.Printing.{gains_both, gains_none}
use Rattle.dump_captures.specs.Arrival.{ArrivalValue}
use Rattle.dump_captures.specs.Dump.{EachPrints, HeadersPrint, joined_outcome}
use Rattle.dump_captures.specs.Session.{SessionValue}
use Rattle.dump_captures.specs.Sight.{StreamValue, stream_headers}
use Rattle.dump_captures.specs.declared.options.Options.{Options}
use Rattle.dump_captures.specs.declared.tally.Outcome.{Outcome}
use Rattle.dump_captures.specs.declared.tally.Outcome.TheVariants.{Passed}

module _ (options : Options) (a : ArrivalValue) (s : StreamValue) (old : SessionValue) (before : Option (List ℕ)) where
  -- Some of all messages are printed, and this became of them: what the others print follows.
  pub record PrintedSoFar (all left : List (List ℕ)) (so_far : Outcome) (middle : SessionValue) (now : Option (List ℕ))
      : Type 0 where
    pub text : List ℕ
    pub gains : Gains before now text
    pub goes_on : (more : List ℕ) (outcome : Outcome) (new : SessionValue)
        → EachPrints options a s so_far middle left more outcome new
        → EachPrints options a s Passed old all (text ++ more) outcome new

  pub printed-init : (all : List (List ℕ)) → PrintedSoFar all all Passed old before
  printed-init all = record { text = []; gains = gains_none before; goes_on = λ more outcome new prints. prints }

  pub printed-more : (all left next : List (List ℕ)) (message : List ℕ) (so_far own : Outcome)
      (middle new : SessionValue) (now later : Option (List ℕ)) → PrintedSoFar all left so_far middle now
      → left ≡ message ∷ next
      → GainsSome now later (λ text. HeadersPrint options a (stream_headers s message) middle text own new)
      → PrintedSoFar all next (joined_outcome so_far own) new later
  printed-more all left next message so_far own middle new now later printed is (first, prints, gains) = record {
    text = printed.text ++ first;
    gains = gains_both before now later printed.text first printed.gains gains;
    goes_on = λ more outcome last rest.
        rw (append_assoc printed.text first more)
        (printed.goes_on (first ++ more) outcome last (rw is (first, more, own, new, prints, rest, refl)));
  }

  pub printed-end : (all left : List (List ℕ)) (so_far : Outcome) (middle : SessionValue) (now : Option (List ℕ))
      → PrintedSoFar all left so_far middle now → left ≡ []
      → GainsSome before now (λ text. EachPrints options a s Passed old all text so_far middle)
  printed-end all left so_far middle now printed none = (
    printed.text,
    rw (append-nil printed.text) at (printed.goes_on [] so_far middle (rw none (refl, refl, refl))),
    printed.gains,
  )
