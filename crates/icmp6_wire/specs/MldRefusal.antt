-- Why bytes are not a message of multicast listener discovery, or not a record of a report: the first check that fails.
use Rattle.std.specs.Prelude.{ℕ, List}
use Rattle.icmp6_wire.specs.Words.{Fails, RecordRefusal}
use Rattle.icmp6_wire.specs.Mld.{MldValue, checks, IsMessage}
use Rattle.icmp6_wire.specs.MldRecord.{RecordValue, record_checks, IsRecord}
use Rattle.icmp6_wire.specs.declared.mld.refusal.Refusal.{Refusal}

-- the bytes are some message
abbrev pub IsRead : List ℕ → Type 0
IsRead bytes = (value : MldValue) × IsMessage bytes value

abbrev pub Refuses : List ℕ → Refusal → Type 0
Refuses bytes why = Fails (checks bytes) why

-- the bytes begin with some record
abbrev pub IsReadRecord : List ℕ → Type 0
IsReadRecord bytes = (value : RecordValue) × IsRecord bytes value

-- no record with its sources and its auxiliary data begins here
abbrev pub RefusesRecord : List ℕ → RecordRefusal → Type 0
RefusesRecord bytes why = Fails (record_checks bytes) why
