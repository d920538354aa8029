use Rattle.wirebase.proofs.Words.{ap, raw_bytes, refl}
use Rattle.wirebase.proofs.HardwareAddresses.{same_raw, same_front}
use Rattle.wirebase.proofs.ethernet.RawHardwareAddress.from_bytes.Goals as goal

pub returns-clause-same : goal.returns-clause-same
returns-clause-same c x y = (λ e. ap raw_bytes e, same_raw x y)

pub returns-clause-equality : goal.returns-clause-equality
returns-clause-equality c x y = same_front _ x y refl
