-- Text that is put by the piece.
use Rattle.record_wire.proofs.Words.{◌≡◌, ◌+◌, ◌/◌, ◌%◌, ◌<◌, ◌≤◌, ◌&&◌, ◌||◌, [], ◌∷◌, ◌++◌, ◌∙◌, Bool, Err, IsAscii}
use Rattle.record_wire.proofs.Words.{IsAscii-cons, IsAscii-nil, List, Ok, Result, Takes, WritesInCalls, ℕ, ap}
use Rattle.record_wire.proofs.Words.{append_assoc, arith, beq, booleans_Decides, cases_lt, codes, cond, decimal}
use Rattle.record_wire.proofs.Words.{decimal_digit, false, inl}
use Rattle.record_wire.proofs.Words.{inr, is_ascii_graphic, leb, leb-true, length, not, refl, rules, slice_set, subst}
use Rattle.record_wire.proofs.Words.{suc, sym, take, true, zero}
use Rattle.std.proofs.Math.Seq.{lt-length-set}
use Rattle.std.proofs.lemmas.Bool.{and_parts}
use Rattle.std.proofs.lemmas.Grind.{take-set_at}
use Rattle.std.proofs.lemmas.Fmt.{IsAscii-decimal}
use Rattle.std.proofs.lemmas.Str.{IsAscii-append}
use Rattle.record_wire.specs.Escapes.{escaped, has_meaning, is_visible, written_by}
use Rattle.record_wire.specs.private.Escapes.{hidden_text, is_plain, is_set, plain_table}
use Rattle.record_wire.specs.declared.escapes.Escaping.{Escaping}
use Rattle.wirebase.specs.Sink.{PutsText}
use Rattle.wirebase.proofs.Sinks.{put_both}

-- ---- what a byte is written as

visible_only : (meaning visible : Bool) → (visible && not meaning) ≡ true → (meaning ≡ false) × (visible ≡ true)
visible_only true true e = cc e
visible_only true false e = cc e
visible_only false true e = (refl, refl)
visible_only false false e = cc e

-- a byte that is visible and has no meaning of its own
pub plain_text : (escaping : Escaping) (byte : ℕ) → is_plain escaping byte ≡ true → escaped escaping byte ≡ byte ∷ []
plain_text escaping byte e =
    let both = visible_only (has_meaning escaping byte) (is_visible escaping byte) e in
    rw (both.0, both.1) refl

-- what holds of each byte below a number, compared one by one
abbrev all_below : (ℕ → Bool) → ℕ → Bool
all_below p zero = true
all_below p (suc n) = p n && all_below p n

below : (p : ℕ → Bool) (n byte : ℕ) → all_below p n ≡ true → byte < n → p byte ≡ true
below p zero byte all h = absurd (omega (arith, h))
below p (suc n) byte all h =
    let parts = and_parts (p n) (all_below p n) all in
    elim (cases_lt byte n) [
      | inl less ↦ below p n byte parts.1 less
      | inr more ↦ let last : byte ≡ n = omega (arith, h, more) in ap p last ∙ parts.0
    ]

-- the bits of the tables, each compared with its byte
abbrev agrees : Escaping → ℕ → Bool
agrees escaping byte = beq (is_set (plain_table escaping) byte) (is_plain escaping byte)

agree_all : (escaping : Escaping) → all_below (agrees escaping) 256 ≡ true
agree_all Escaping.Label = refl
agree_all Escaping.String = refl

pub table_tells : (escaping : Escaping) (byte : ℕ) → byte < 256
    → is_set (plain_table escaping) byte ≡ is_plain escaping byte
table_tells escaping byte h =
    (booleans_Decides (is_set (plain_table escaping) byte) (is_plain escaping byte)).0
    (below (agrees escaping) 256 byte (agree_all escaping) h)

-- a byte that is not written as itself has a meaning of its own where it is visible
abbrev tells : Escaping → ℕ → Bool
tells escaping byte = is_plain escaping byte || beq (has_meaning escaping byte) (is_ascii_graphic byte)

same_text : (meaning visible graphic : Bool) (byte : ℕ) → (visible && not meaning || beq meaning graphic) ≡ true
    → (visible && not meaning) ≡ false → written_by meaning visible byte ≡ written_by graphic false byte
same_text true visible true byte e f = refl
same_text true true false byte e f = cc e
same_text true false false byte e f = cc e
same_text false true graphic byte e f = cc f
same_text false false true byte e f = cc e
same_text false false false byte e f = refl

tells_all : (escaping : Escaping) → all_below (tells escaping) 256 ≡ true
tells_all Escaping.Label = refl
tells_all Escaping.String = refl

pub hidden_is : (escaping : Escaping) (byte : ℕ) → byte < 256 → is_plain escaping byte ≡ false
    → escaped escaping byte ≡ hidden_text byte
hidden_is escaping byte h e =
    same_text (has_meaning escaping byte) (is_visible escaping byte) (is_ascii_graphic byte) byte
    (below (tells escaping) 256 byte (tells_all escaping) h) e

pub number_text : (byte : ℕ) → byte < 256 → is_ascii_graphic byte ≡ false
    → hidden_text byte ≡ 92 ∷ (48 + byte / 100) ∷ (48 + byte / 10 % 10) ∷ (48 + byte % 10) ∷ []
number_text byte h e =
    rw (
      e,
      decimal_digit (byte / 100) (omega (arith, h)),
      decimal_digit (byte / 10 % 10) (omega arith),
      decimal_digit (byte % 10) (omega arith),
    ) refl

-- four octets that are set one after another
pub four_set : (xs : List ℕ) (i x y z w : ℕ) → i + 4 ≤ length xs
    → take (i + 4) (slice_set (slice_set (slice_set (slice_set xs i x) (i + 1) y) (i + 2) z) (i + 3) w)
    ≡ take i xs ++ x ∷ y ∷ z ∷ w ∷ []
four_set xs i x y z w h =
    rw (
      take-set_at (slice_set (slice_set (slice_set xs i x) (i + 1) y) (i + 2) z) (i + 3) (i + 4) w (omega arith)
          (lt-length-set _ (i + 2) z (lt-length-set _ (i + 1) y (lt-length-set xs i x (omega (arith, h))))),
      take-set_at (slice_set (slice_set xs i x) (i + 1) y) (i + 2) (i + 3) z (omega arith)
          (lt-length-set _ (i + 1) y (lt-length-set xs i x (omega (arith, h)))),
      take-set_at (slice_set xs i x) (i + 1) (i + 2) y (omega arith) (lt-length-set xs i x (omega (arith, h))),
      take-set_at xs i (i + 1) x (omega arith) (omega (arith, h)),
    )
    (append_assoc (take i xs ++ x ∷ [] ++ y ∷ []) (z ∷ []) (w ∷ [])
    ∙ (append_assoc (take i xs ++ x ∷ []) (y ∷ []) _ ∙ append_assoc (take i xs) (x ∷ []) _))

-- ---- characters are ASCII

meaning_small : (escaping : Escaping) (byte : ℕ) → has_meaning escaping byte ≡ true → byte < 128
meaning_small Escaping.Label byte e = search rules
meaning_small Escaping.String byte e = search rules

visible_small : (escaping : Escaping) (byte : ℕ) → is_visible escaping byte ≡ true → byte < 128
visible_small Escaping.Label byte e = search rules
visible_small Escaping.String byte e =
    omega (arith, leb-true byte 126 (and_parts (leb 32 byte) (leb byte 126) e).1)

pub small_ascii : (byte : ℕ) → byte < 128 → IsAscii (byte ∷ [])
small_ascii byte small = IsAscii-cons byte [] small IsAscii-nil

cases_ascii : (special graphic : Bool) (byte : ℕ) → (special ≡ true → byte < 128) → (graphic ≡ true → byte < 128)
    → byte < 256 → IsAscii (cond special (codes "\\" ++ byte ∷ []) (cond graphic (byte ∷ [])
    (codes "\\" ++ decimal (byte / 100) ++ decimal (byte / 10 % 10) ++ decimal (byte % 10))))
cases_ascii true graphic byte f g h = IsAscii-cons 92 (byte ∷ []) (omega arith) (small_ascii byte (f refl))
cases_ascii false true byte f g h = small_ascii byte (g refl)
cases_ascii false false byte f g h =
    IsAscii-append (codes "\\" ++ decimal (byte / 100) ++ decimal (byte / 10 % 10)) (decimal (byte % 10))
    (IsAscii-append (codes "\\" ++ decimal (byte / 100)) (decimal (byte / 10 % 10))
    (IsAscii-cons 92 (decimal (byte / 100)) (omega arith) (IsAscii-decimal (byte / 100) (omega (arith, h))))
    (IsAscii-decimal (byte / 10 % 10) (omega (arith, h))))
    (IsAscii-decimal (byte % 10) (omega (arith, h)))

pub escaped_ascii : (escaping : Escaping) (byte : ℕ) → byte < 256 → IsAscii (escaped escaping byte)
escaped_ascii escaping byte =
    cases_ascii (has_meaning escaping byte) (is_visible escaping byte) byte (meaning_small escaping byte)
    (visible_small escaping byte)

-- ---- texts that are taken one after another

module _ {O : Type 0} (took : O → List ℕ → O → Type 0) where
  pub takes_two : (f g h : O) (p q r a b all : List ℕ) → Takes took f p a g q → Takes took g q b h r → a ++ b ≡ all
      → Takes took f p all h r
  takes_two f g h p q r a b all one two is = record {
    written = one.written ++ two.written;
    has = put_both took f g h _ _ one.has two.has;
    ascii = two.ascii;
    whole = grind (arith, append_assoc, is, one.whole, two.whole);
  }

  -- what is put after what waits
  pub takes_more : (f g : O) (p a q more r all : List ℕ) → Takes took f p a g q → r ≡ q ++ more → a ++ more ≡ all
      → IsAscii more → Takes took f p all g r
  takes_more f g p a q more r all one put is small = record {
    ascii = subst IsAscii (sym put) (IsAscii-append q more one.ascii small);
    written = one.written;
    has = one.has;
    whole = grind (arith, append_assoc, is, put, one.whole);
  }

  -- what waited first is a part of the text
  pub takes_from : (f g : O) (p a q : List ℕ) → Takes took f p a g q → Takes took f [] (p ++ a) g q
  takes_from f g p a q one = record { written = one.written; has = one.has; whole = one.whole; ascii = one.ascii }

  -- what waits at the end is put
  pub takes_all : {E : Type 0} (f g h : O) (text waits : List ℕ) (r : Result (Unit {0}) E)
      → Takes took f [] text g waits
      → PutsText took g waits r h → PutsText took f text r h
  takes_all f g h text waits (Ok x) one last = record {
    calls = subst (λ (t : List ℕ). WritesInCalls took f t h) (sym one.whole)
        (put_both took f g h one.written waits one.has last.calls);
  }
  takes_all f g h text waits (Err e) one last = record { calls = tt }
