-- Fields that are written in one call have the bytes of these fields, one after another.
use Rattle.opt_wire.proofs.Words.{[], ◌++◌, ◌+◌, ◌∙◌, ◌∷◌, ◌≡◌, List, Puts, Sheet, Writer, ℕ, ap, arith, be16, be32}
use Rattle.opt_wire.proofs.Words.{be8, drop, drop_all, drop_more, fields, length, put, put-append, put-fields, put_all}
use Rattle.opt_wire.proofs.Words.{refl, sheet, slice_index, suc, sym, zero}
use Rattle.std.specs.Int.{w16, w32, to_be_bytes}

-- ---- a number after other bytes

pub put-two : (s : Sheet) (m n : ℕ) → put (put s (be8 m)) (be8 n) ≡ put s (m ∷ n ∷ [])
unfolding be8
put-two s m n = sym (put-append s (m ∷ []) (n ∷ []))

pub put-zero16 : (s : Sheet) (a : List ℕ) → put (put s a) (be16 0) ≡ put s (a ++ 0 ∷ 0 ∷ [])
unfolding be16
put-zero16 s a = sym (put-append s a (0 ∷ 0 ∷ []))

pub put-zero32 : (s : Sheet) (a : List ℕ) → put (put s a) (be32 0) ≡ put s (a ++ 0 ∷ 0 ∷ 0 ∷ 0 ∷ [])
unfolding be32
put-zero32 s a = sym (put-append s a (0 ∷ 0 ∷ 0 ∷ 0 ∷ []))

pub put-be16 : (s : Sheet) (a : List ℕ) (n : ℕ) (b : List ℕ) → b ≡ to_be_bytes w16 n
    → put (put s a) (be16 n) ≡ put s (a ++ slice_index b 0 ∷ slice_index b 1 ∷ [])
unfolding be16
put-be16 s a n b e = rw e (sym (put-append s a (be16 n)))

pub put-be32 : (s : Sheet) (a : List ℕ) (n : ℕ) (b : List ℕ) → b ≡ to_be_bytes w32 n
    → put (put s a) (be32 n)
    ≡ put s (a ++ slice_index b 0 ∷ slice_index b 1 ∷ slice_index b 2 ∷ slice_index b 3 ∷ [])
unfolding be32
put-be32 s a n b e = rw e (sym (put-append s a (be32 n)))

pub ruleset at_once = (put-fields, put-two, put-zero16, put-zero32, put-be16, put-be32)

-- ---- fields that are more than a ruleset finds: texts written after others, and texts that join to one text

put_all-append : (s : Sheet) (fs gs : List (List ℕ)) → put_all s (fs ++ gs) ≡ put_all (put_all s fs) gs
put_all-append s [] gs = refl
put_all-append s (f ∷ fs) gs = put_all-append (put s f) fs gs

pub puts-then : {w middle new : Writer} {fs gs : List (List ℕ)} → Puts w middle fs → Puts middle new gs
    → Puts w new (fs ++ gs)
puts-then {w} {middle} {new} {fs} {gs} first second = record {
  puts = second.puts ∙ ap (λ (s : Sheet). put_all s gs) first.puts ∙ sym (put_all-append (sheet w) fs gs);
  same_slice = second.same_slice ∙ first.same_slice;
}

pub puts-fields : {w new : Writer} {wide fs : List (List ℕ)} → Puts w new wide → fields wide ≡ fields fs → Puts w new fs
puts-fields {w} {new} {wide} {fs} written same = record {
  puts = written.puts ∙ sym (put-fields (sheet w) wide) ∙ ap (put (sheet w)) same ∙ put-fields (sheet w) fs;
  same_slice = written.same_slice;
}

-- ---- bytes that are taken one by one: a given number, from an index on

abbrev pub bytes_from : List ℕ → ℕ → ℕ → List ℕ
bytes_from l i zero = []
bytes_from l i (suc n) = slice_index l i ∷ bytes_from l (i + 1) n

pub all_bytes : (l : List ℕ) (i n : ℕ) → length l ≡ i + n → drop i l ≡ bytes_from l i n
all_bytes l i zero e = drop_all i l (omega (arith, e))
all_bytes l i (suc n) e =
    drop_more l i 0 (omega (arith, e))
    ∙ ap (λ (rest : List ℕ). slice_index l i ∷ rest) (all_bytes l (i + 1) n (omega (arith, e)))
