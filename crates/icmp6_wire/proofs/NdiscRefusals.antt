-- Options that are whole, whatever is read in them.
use Rattle.std.proofs.Common.{◌≡◌, ℕ, ◌+◌, ◌≤◌, List, [], ◌∷◌, ◌++◌, length, drop, sym, ap, ◌∙◌, arith, length-append}
use Rattle.std.proofs.lemmas.List.{append-nil, append_assoc}
use Rattle.icmp6_wire.specs.Words.{OptionValue}
use Rattle.icmp6_wire.specs.Icmpv6Packet.{header_len_in, payload_in}
use Rattle.icmp6_wire.specs.NdiscBlocks.{IsBlock, AreBlocks, ends, goes_on, skips}
use Rattle.icmp6_wire.specs.NdiscRefusal.{AreWhole, nothing, one_more, AreWholeUpTo}

-- none at first
pub whole_none : (bytes : List ℕ) (place : ℕ) (rest : List ℕ) → place ≡ header_len_in bytes → rest ≡ drop place bytes
    → AreWholeUpTo bytes place rest
whole_none bytes place rest is e = record {
  options = [];
  whole = nothing;
  payload = ap (λ (n : ℕ). drop n bytes) (sym is) ∙ sym e;
  place_is = omega (arith, is);
}

-- one more after them
append_whole : (options block : List ℕ) → AreWhole options → IsBlock block → AreWhole (options ++ block)
append_whole options block nothing b = one_more block [] b nothing (sym (append-nil block))
append_whole options block (one_more first rest f w e) b =
    one_more first (rest ++ block) f (append_whole rest block w b)
    (ap (λ (l : List ℕ). l ++ block) e ∙ append_assoc first rest block)

pub more_whole : (bytes : List ℕ) (place : ℕ) (text block rest : List ℕ) → IsBlock block → text ≡ block ++ rest
    → AreWholeUpTo bytes place text → AreWholeUpTo bytes (place + length block) rest
more_whole bytes place text block rest b e a = record {
  options = a.options ++ block;
  whole = append_whole a.options block a.whole b;
  payload = a.payload ∙ ap (λ (l : List ℕ). a.options ++ l) e ∙ sym (append_assoc a.options block rest);
  place_is = omega (arith, a.place_is, length-append a.options block);
}

-- they tile the bytes: each is read, or none is read in it
tiled : (bytes : List ℕ) → AreWhole bytes → ((options : List OptionValue) → AreBlocks bytes options → ⊥) → ⊥
tiled bytes nothing none = none [] ends
tiled bytes (one_more block rest b w e) none =
    tiled rest w (λ options more. none options (skips block rest b
    (λ v reads. none (v ∷ options) (goes_on block rest v b reads more e)) more e))

-- so where the payload has no tiling, some bytes follow them
pub some_behind : (bytes : List ℕ) (place : ℕ) (rest : List ℕ) → AreWholeUpTo bytes place rest
    → ((options : List OptionValue) → AreBlocks (payload_in bytes) options → ⊥) → 1 ≤ length rest
some_behind bytes place [] a none =
    let all : payload_in bytes ≡ a.options = a.payload ∙ append-nil a.options in
    absurd (tiled a.options a.whole (λ options more. none options (rw all more)))
some_behind bytes place (x ∷ rest) a none = omega arith
