-- Texts that are put into an output, one after another.
use Rattle.record_wire.proofs.Words.{◌≡◌, ◌++◌, Err, List, Ok, Result, WritesInCalls, ℕ, append_assoc, codes, decimal}
use Rattle.record_wire.proofs.Words.{subst}
use Rattle.wirebase.specs.Sink.{PutsText}
use Rattle.wirebase.proofs.Sinks.{put_both}

infixl 20 ◌then◌
pub ◌then◌ : {O : Type 0} {took : O → List ℕ → O → Type 0} {a b c : O} {text more : List ℕ}
    → WritesInCalls took a text b → WritesInCalls took b more c → WritesInCalls took a (text ++ more) c
first then second = put_both _ _ _ _ _ _ first second

-- a last text, whose call may fail
pub puts_last : {O E : Type 0} {took : O → List ℕ → O → Type 0} {a b : O} {text : List ℕ} (c : O) (more : List ℕ)
    (r : Result (Unit {0}) E) → WritesInCalls took a text b → PutsText took b more r c
    → PutsText took a (text ++ more) r c
puts_last c more (Ok x) first last = record { calls = first then last.calls }
puts_last c more (Err e) first last = record { calls = tt }

-- a last text behind a number and a space
pub puts_before : {O E : Type 0} {took : O → List ℕ → O → Type 0} {a b : O} (n : ℕ) (c : O) (more : List ℕ)
    (r : Result (Unit {0}) E) → WritesInCalls took a (decimal n ++ codes " ") b → PutsText took b more r c
    → PutsText took a (decimal n ++ (codes " " ++ more)) r c
puts_before {took = took} {a = a} n c more r first last =
    subst (λ (t : List ℕ). PutsText took a t r c) (append_assoc (decimal n) (codes " ") more)
    (puts_last c more r first last)

-- the same text in other words
pub puts_as : {O E : Type 0} (took : O → List ℕ → O → Type 0) (a b : O) (r : Result (Unit {0}) E) (text other : List ℕ)
    → text ≡ other → PutsText took a text r b → PutsText took a other r b
puts_as took a b r text other is puts = subst (λ (t : List ℕ). PutsText took a t r b) is puts
