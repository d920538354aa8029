-- Messages are passed, one after another.
use Rattle.frame_wire.proofs.Words.{◌≡◌, ◌≢◌, ◌∙◌, [], Bool, List, ap, false, length, refl, sym, true, ℕ}
use Rattle.std.proofs.lemmas.Bool.{eqb-false, eqb-true}
use Rattle.std.proofs.lemmas.List.{nil_from_length}
use Rattle.std.specs.Prelude.{◌==◌}
use Rattle.frame_wire.proofs.Messages.{message_fewer, messages-one, none_prefixed, so_far-last, so_far-low, so_far-more}
use Rattle.frame_wire.proofs.Messages.{so_far-torn}
use Rattle.frame_wire.proofs.tcp.prefixed.Prefixed.new.Goals as goal

is_empty_true : (bytes : List ℕ) (b : Bool) → b ≡ (length bytes == 0) → b ≡ true → bytes ≡ []
is_empty_true bytes b e is = nil_from_length bytes (eqb-true (length bytes) 0 (sym e ∙ is))

is_empty_false : (bytes : List ℕ) (b : Bool) → b ≡ (length bytes == 0) → b ≡ false → bytes ≢ []
is_empty_false bytes b e is none = eqb-false (length bytes) 0 (sym e ∙ is) (ap length none)

pub returns-then-is_empty-clause-complete : goal.returns-then-is_empty-clause-complete
returns-then-is_empty-clause-complete c messages is =
    none_prefixed _ _ messages (is_empty_true _ _ c.is_empty.ensures c.if-is_empty.true) is

pub returns-in_err-message-clause-complete : goal.returns-in_err-message-clause-complete
returns-in_err-message-clause-complete c messages is =
    absurd (so_far-torn _ _ c.messages.left.now messages c.messages.invariant
    (is_empty_false _ _ c.is_empty-in-messages.ensures c.messages-test.true) (c.in_err-message.ensures.none refl) is)

pub returns-then-message-least-clause-complete : goal.returns-then-message-least-clause-complete
returns-then-message-least-clause-complete c messages is =
    so_far-low _ _ _ _ _ messages c.messages.invariant c.in_ok-message.ensures.some c.if-message-least.true is

pub messages-smaller : goal.messages-smaller
messages-smaller c = message_fewer _ _ _ c.in_ok-message.ensures.some

pub messages-preserved : goal.messages-preserved
messages-preserved c =
    so_far-more _ _ _ _ _ c.messages.invariant c.in_ok-message.ensures.some c.if-message-least.false

pub returns-clause-sound : goal.returns-clause-sound
returns-clause-sound c = so_far-last _ _ c.messages.left.now c.messages.invariant
    (is_empty_true _ _ c.is_empty-in-messages.ensures c.messages-test.false)
    (is_empty_false _ _ c.is_empty.ensures c.if-is_empty.false)

pub returns-clause-complete : goal.returns-clause-complete
returns-clause-complete c messages is = sym (messages-one _ messages is.are)
