use Rattle.std.proofs.Common.{refl}
use Rattle.icmp6_wire.specs.MldRecord.{value_of}
use Rattle.icmp6_wire.proofs.mld.record.AddressRecordRepr.refusal.Goals as goal

pub returns-in-Ok-clause-exact : goal.returns-in-Ok-clause-exact
returns-in-Ok-clause-exact c = (λ e. (value_of c.in-Ok.field-0, c.in-Ok.ensures.sound), λ r. refl)
