-- Texts that are put into formatters.
use Rattle.wirebase.proofs.Words.{◌≡◌, ◌∙◌, [], ◌∷◌, ◌++◌, Err, HasWritten, IsAscii, IsPlainFormatter, List, Ok}
use Rattle.wirebase.proofs.Words.{Result, WritesInCalls, ℕ, append-nil, put_two, refl, subst, sym}
use Rattle.std.proofs.lemmas.List.Folds.{concat-append}
use Rattle.std.specs.Fmt.{WritesOnOk}
use Rattle.std.specs.List.{FoldsTo, concat}
use Rattle.std.specs.Str.{IsUtf8}
use Rattle.std.specs.Result.{MatchResult, result_unwrap_or}
use Rattle.std.specs.Borrow.{Bor}
use Rattle.std.proofs.lemmas.Str.{IsUtf8-from_ascii}
use Rattle.wirebase.specs.Sink.{Formats, PutsText}
use Rattle.std.specs.declared.fmt.Error.{Error}
use Rattle.std.specs.declared.fmt.Formatter.{Formatter}

-- no text, one in one call, and one after another
pub put_none : {O : Type 0} (took : O → List ℕ → O → Type 0) (a : O) → WritesInCalls took a [] a
put_none took a = record { parts = []; calls = refl; whole = refl }

pub put_one : {O : Type 0} (took : O → List ℕ → O → Type 0) (a b : O) (text : List ℕ) → took a text b
    → WritesInCalls took a text b
put_one took a b text one = record { parts = text ∷ []; calls = (b, one, refl); whole = append-nil text }

calls_both : {O : Type 0} (took : O → List ℕ → O → Type 0) (a b c : O) (xs ys : List (List ℕ)) → FoldsTo took a xs b
    → FoldsTo took b ys c → FoldsTo took a (xs ++ ys) c
calls_both took a b c [] ys first second = subst (λ x. FoldsTo took x ys c) (sym first) second
calls_both took a b c (x ∷ xs) ys first second =
    (first.0, first.1, calls_both took first.0 b c xs ys first.2 second)

pub put_both : {O : Type 0} (took : O → List ℕ → O → Type 0) (a b c : O) (text more : List ℕ)
    → WritesInCalls took a text b → WritesInCalls took b more c → WritesInCalls took a (text ++ more) c
put_both took a b c text more first second = record {
  parts = first.parts ++ second.parts;
  calls = calls_both took a b c first.parts second.parts first.calls second.calls;
  whole = concat-append first.parts second.parts ∙ (λ i. first.whole i ++ second.whole i);
}

-- texts of several calls, the last of which may fail
module _ {O E : Type 0} (took : O → List ℕ → O → Type 0) where
  pub puts_two : (a b c : O) (x y all : List ℕ) (r : Result (Unit {0}) E) → PutsText {E = E} took a x (Ok tt) b
      → PutsText took b y r c → x ++ y ≡ all → PutsText took a all r c
  puts_two a b c x y all (Ok u) one two is =
      record { calls = subst (λ t. WritesInCalls took a t c) is (put_both took a b c x y one.calls two.calls) }
  puts_two a b c x y all (Err e) one two is = record { calls = tt }

  pub puts_three : (a b c d : O) (x y z all : List ℕ) (r : Result (Unit {0}) E) → PutsText {E = E} took a x (Ok tt) b
      → PutsText {E = E} took b y (Ok tt) c → PutsText took c z r d → x ++ (y ++ z) ≡ all → PutsText took a all r d
  puts_three a b c d x y z all r one two three is =
      puts_two a b d x (y ++ z) all r one (puts_two b c d y z (y ++ z) r two three refl) is

  pub puts_four : (a b c d e : O) (x y z w all : List ℕ) (r : Result (Unit {0}) E) → PutsText {E = E} took a x (Ok tt) b
      → PutsText {E = E} took b y (Ok tt) c → PutsText {E = E} took c z (Ok tt) d → PutsText took d w r e
      → x ++ (y ++ (z ++ w)) ≡ all → PutsText took a all r e
  puts_four a b c d e x y z w all r one two three four is =
      puts_two a b e x (y ++ (z ++ w)) all r one (puts_three b c d e y z w (y ++ (z ++ w)) r two three four refl) is

-- octets of ASCII are a text
pub unwrapped : {E : Type 0} (r : Result (Bor (List ℕ)) E) (other : Bor (List ℕ)) (octets : List ℕ)
    (Fails : E → Type 0) → MatchResult r (λ s. (s.now ≡ octets) × IsUtf8 octets) (λ e. (IsUtf8 octets → ⊥) × Fails e)
    → IsAscii octets → (result_unwrap_or r other).now ≡ octets
unwrapped (Ok s) other octets Fails m ascii = m.0
unwrapped (Err e) other octets Fails m ascii = absurd (m.0 (IsUtf8-from_ascii octets ascii))

module _ {W : Type 0} (took : W → List ℕ → W → Type 0) where
  -- one call that writes a text puts it
  pub put_once : (f g : Formatter W) (r : Result (Unit {0}) Error) (written text : List ℕ) → written ≡ text
      → WritesOnOk took f r written g → PutsText (Formats took) f text r g
  unfolding Formats
  put_once f g (Ok x) written text is writes = record {
    calls = put_one (Formats took) f g text (λ plain. subst (λ t. HasWritten took f t g) is (writes plain refl));
  }
  put_once f g (Err e) written text is writes = record { calls = tt }

  each_call : (f g : Formatter W) (parts : List (List ℕ)) → FoldsTo (Formats took) f parts g → IsPlainFormatter f
      → HasWritten took f (concat parts) g
  unfolding Formats
  each_call f g [] calls plain =
      subst (HasWritten took f []) calls (record { wrote = put_none took f.writer; plain = plain })
  each_call f g (part ∷ parts) (next, first, more) plain =
      let one = first plain in
      put_two took f next g part (concat parts) (part ++ concat parts) one (each_call next g parts more one.plain) refl

  -- what was put was written
  pub displayed : (f g : Formatter W) (r : Result (Unit {0}) Error) (text : List ℕ)
      → PutsText (Formats took) f text r g → WritesOnOk took f r text g
  displayed f g (Ok x) text put plain ok =
      subst (λ t. HasWritten took f t g) put.calls.whole (each_call f g put.calls.parts put.calls.calls plain)
  displayed f g (Err e) text put plain ok = absurd (cc ok)

pub ruleset puts = (puts_two, puts_three, puts_four, displayed)
