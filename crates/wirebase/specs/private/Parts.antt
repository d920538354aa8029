-- What private functions and models need; no public clause rests on it.
use Rattle.std.specs.Prelude.{ℕ, ◌*◌, List, ◌≡◌, [], ◌∷◌}
use Rattle.wirebase.specs.Bytes.{byte_of, number_of}
use Rattle.wirebase.specs.Duration.{of_micros, millis_of}
use Rattle.wirebase.specs.Icmp.{type_field, code_field, ident_field, seq_no_field, data_in}
use Rattle.wirebase.specs.declared.duration.Duration.{Duration}

-- the duration without what is past its whole milliseconds, and past its whole seconds
abbrev pub whole_millis : Duration → Duration
whole_millis duration = of_micros (1000 * millis_of duration)

-- an echo of this type
pub record IsEcho (t : ℕ) (bytes : List ℕ) (ident seq_no : ℕ) (d : List ℕ) : Type 0 where
  pub kind : byte_of type_field bytes ≡ t
  pub code : byte_of code_field bytes ≡ 0
  pub identifier : ident ≡ number_of ident_field bytes
  pub sequence : seq_no ≡ number_of seq_no_field bytes
  pub data_is : d ≡ data_in bytes

-- what is kept after each option was noted in turn
unfoldable pub keep_all : {O K : Type 0} → (K → O → K) → K → List O → K
keep_all keep k [] = k
keep_all keep k (o ∷ os) = keep_all keep (keep k o) os
