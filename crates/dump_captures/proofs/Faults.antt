-- The fault for an error.
use Rattle.std.proofs.Common.{◌≡◌, refl}
use Rattle.std.specs.declared.io.ErrorKind.{ErrorKind}
use Rattle.std.specs.declared.io.ErrorKind.TheVariants.{BrokenPipe, OutOfMemory}
use Rattle.dump_captures.specs.Fault.{fault_of}
use Rattle.dump_captures.specs.declared.fault.Fault.TheVariants.{Write}

-- a kind other than the two that are distinguished
pub fault_of-other : (kind : ErrorKind) → (kind ≡ BrokenPipe → ⊥) → (kind ≡ OutOfMemory → ⊥) → Write ≡ fault_of kind
unfolding fault_of
fault_of-other BrokenPipe pipe memory = absurd (pipe refl)
fault_of-other OutOfMemory pipe memory = absurd (memory refl)
fault_of-other _ pipe memory = refl
