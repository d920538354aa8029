-- The number that is written for two numbers has their bytes.
use Rattle.dns_wire.proofs.Words.{◌≡◌, ◌+◌, ◌*◌, ◌/◌, ◌%◌, ◌<◌, ◌^◌, [], ◌∷◌, ◌∙◌, ℕ, ap, arith, be16, fields, sym}
use Rattle.wirebase.specs.ByteWriter.{sheet, put, be32}
use Rattle.wirebase.proofs.Chains.{put-fields}
use Rattle.dns_wire.proofs.dns.question.put_pair.Goals as goal

same_fields : (a b : ℕ) → b < 2 ^ 16 → fields (be32 (65536 * a + b) ∷ []) ≡ fields (be16 a ∷ be16 b ∷ [])
unfolding fields be16 be32
same_fields a b h =
    let x : (65536 * a + b) / 16777216 % 256 ≡ a / 256 % 256 = omega (arith, h) in
    let y : (65536 * a + b) / 65536 % 256 ≡ a % 256 = omega (arith, h) in
    let z : (65536 * a + b) / 256 % 256 ≡ b / 256 % 256 = omega (arith, h) in
    let w : (65536 * a + b) % 256 ≡ b % 256 = omega (arith, h) in
    cc

pub returns-clause-puts : goal.returns-clause-puts
returns-clause-puts c =
    let s = sheet c.args.w.now in
    record {
      puts = c.put_u32.ensures.puts.puts ∙ sym (put-fields s _)
          ∙ ap (put s) (same_fields c.args.first c.args.second c.ranges.second.fits) ∙ put-fields s _;
      same_slice = c.put_u32.ensures.puts.same_slice;
    }
