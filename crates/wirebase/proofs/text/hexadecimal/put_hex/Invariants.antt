-- The octets come at most 64 at a time; their digits so far are put.
use Rattle.wirebase.proofs.Words.{◌≡◌, ◌++◌, List, WritesInCalls, ℕ, chunks_rest, chunks_size, encode_lower}
use Rattle.wirebase.proofs.text.hexadecimal.put_hex.Given as goal

abbrev pub invariant-loop-octets : goal.invariant-loop-octets
invariant-loop-octets g l = record {
  size : chunks_size l.octets-iterator ≡ 64;
  so_far : (done : List ℕ) × (done ++ chunks_rest l.octets-iterator ≡ l.octets)
      × WritesInCalls g.S.Sink.took l.initial.output (encode_lower done) l.output;
}
