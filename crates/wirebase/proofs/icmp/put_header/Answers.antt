-- The number has the bytes of the fields.
use Rattle.wirebase.proofs.Words.{◌≡◌, ◌<◌, [], ◌∷◌, ◌∙◌, IsBytes, List, ℕ, ap, arith, be16, be8, fields, length, put}
use Rattle.wirebase.proofs.Words.{refl, rules, sheet, suc, sym, zero}
use Rattle.std.proofs.lemmas.Nat.{be_bytes_8}
use Rattle.wirebase.proofs.Chains.{put-fields}
use Rattle.wirebase.proofs.icmp.put_header.Goals as goal

-- the fields, and their bytes written together
abbrev header_fields : ℕ → ℕ → List ℕ → List (List ℕ)
header_fields kind code rest = be8 kind ∷ be8 code ∷ be16 0 ∷ rest ∷ []

abbrev header : ℕ → ℕ → List ℕ → List ℕ
header kind code rest = kind ∷ code ∷ 0 ∷ 0 ∷ rest

same_fields : (kind code : ℕ) (rest : List ℕ) → fields (header kind code rest ∷ [])
    ≡ fields (header_fields kind code rest)
unfolding fields be8 be16
same_fields kind code rest = refl

are_bytes : (kind code : ℕ) (rest : List ℕ) → kind < 256 → code < 256 → IsBytes rest → IsBytes (header kind code rest)
are_bytes kind code rest k c r zero = k
are_bytes kind code rest k c r (suc zero) = c
are_bytes kind code rest k c r (suc (suc zero)) = omega arith
are_bytes kind code rest k c r (suc (suc (suc zero))) = omega arith
are_bytes kind code rest k c r (suc (suc (suc (suc i)))) = r i

pub returns-clause-puts : goal.returns-clause-puts
returns-clause-puts c =
    let kind = c.args.kind in
    let code = c.args.code in
    let rest = c.args.rest in
    let long : length rest ≡ 4 = search rules in
    let small = are_bytes kind code rest c.ranges.kind.fits c.ranges.code.fits c.are_bytes.ensures in
    let bytes : c.to_be_bytes.result ≡ header kind code rest =
    c.to_be_bytes.ensures
    ∙ be_bytes_8 (header kind code rest) _ (omega (arith, long)) small c.from_be_bytes-header.ensures in
    let s = sheet c.args.w.now in
    record {
      puts =
          c.put_bytes.ensures.puts.puts
          ∙ ap (put s) bytes
          ∙ sym (put-fields s (header kind code rest ∷ []))
          ∙ ap (put s) (same_fields kind code rest)
          ∙ put-fields s (header_fields kind code rest);
      same_slice = c.put_bytes.ensures.puts.same_slice;
    }
