-- A UDP datagram without a checksum.
use Rattle.std.specs.Prelude.{Bool, false, true}
use Rattle.message_fields.specs.declared.message.ChecksumState.{ChecksumState}
use Rattle.message_fields.specs.declared.message.ChecksumState.TheVariants as state

-- the state of a UDP datagram whose checksum is 0
abbrev pub without_checksum : Bool → ChecksumState
without_checksum true = state.None
without_checksum false = state.Bad
