-- What a host that is a member of groups with sources keeps of a group, and what it reports of it: IGMPv3 (RFC 3376)
-- and MLDv2 (RFC 3810). Addresses are equal where the test `eq` says so.
use Rattle.std.specs.Prelude.{◌≡◌, ◌⊎◌, ℕ, ◌+◌, ◌*◌, ◌<◌, ◌≤◌, zero, suc, Bool, not, List, [], ◌∷◌, ◌++◌, length, map}
use Rattle.std.specs.Prelude.{Option, Some, None}
use Rattle.std.specs.List.{concat, filter, list_any}
use Rattle.control_wire.specs.Duration.{micros_of}
use Rattle.control_wire.specs.MldRecordTypeType.{RecordType}
use Rattle.group_wire.specs.declared.address.Address.{Ghosts}
use Rattle.group_wire.specs.declared.family.Family.{Family}
use Rattle.group_wire.specs.declared.writer.RecordsWriter.{RecordsWriter}
use Rattle.group_wire.specs.Membership.{Value, query}
use Rattle.group_wire.specs.Record.{group_record, text}
use Rattle.group_wire.specs.Records.{records_ahead}
use Rattle.group_wire.specs.Times.{interval_seconds, newest_version, query_millis}
use Rattle.group_wire.specs.Writer.{settled, count_of, free, Fits}
use Rattle.examples.specs.declared.membership.Filter.{Filter}
use Rattle.examples.specs.declared.membership.FilterMode.{FilterMode}
use Rattle.examples.specs.declared.membership.OlderQueriers.{OlderQueriers}

-- ---- what a host keeps

-- The state of a group: the host listens to these sources alone, or to all but these (RFC 3376 section 3.2, RFC 3810
-- section 4.2). It is no member where it includes none.
pub data State (A : Type 0) : Type 0 where
  include : List A → State A
  exclude : List A → State A

abbrev pub state_in : {A : Type 0} → FilterMode → List A → State A
state_in FilterMode.Include sources = include sources
state_in FilterMode.Exclude sources = exclude sources

abbrev pub state_of : {A : Type 0} → Filter A → State A
state_of filter = state_in filter.mode filter.sources.now

-- ---- sets of sources, as lists

-- whether a list has an address
abbrev pub has : {A : Type 0} → (A → A → Bool) → List A → A → Bool
has eq list a = list_any (λ b. eq b a) list

-- A*B and A-B of the RFCs: the addresses of the first list that the second one has, and those that it has not
abbrev pub both : {A : Type 0} → (A → A → Bool) → List A → List A → List A
both eq a b = filter (λ x. has eq b x) a

abbrev pub without : {A : Type 0} → (A → A → Bool) → List A → List A → List A
without eq a b = filter (λ x. not (has eq b x)) a

-- ---- what is reported

-- what a record says of the group: its type, and its sources
pub data Said (A : Type 0) : Type 0 where
  said : RecordType → List A → Said A

abbrev pub sources_of : {A : Type 0} → Said A → List A
sources_of (said kind sources) = sources

-- the record of these sources, left out where there are none
abbrev pub said_of_some : {A : Type 0} → RecordType → List A → List (Said A)
said_of_some kind [] = []
said_of_some kind (one ∷ more) = said kind (one ∷ more) ∷ []

-- of a new state after an old one (RFC 3376 section 5.1, RFC 3810 section 6.1)
abbrev pub changes : {A : Type 0} → (A → A → Bool) → State A → State A → List (Said A)
changes eq (include a) (include b) =
    said_of_some RecordType.AllowNewSources (without eq b a) ++ said_of_some RecordType.BlockOldSources (without eq a b)
changes eq (exclude a) (exclude b) =
    said_of_some RecordType.AllowNewSources (without eq a b) ++ said_of_some RecordType.BlockOldSources (without eq b a)
changes eq (include a) (exclude b) = said RecordType.ChangeToExclude b ∷ []
changes eq (exclude a) (include b) = said RecordType.ChangeToInclude b ∷ []

-- of a state, to a query of all groups or of this one (RFC 3376 section 5.2, RFC 3810 section 6.3)
abbrev pub current : {A : Type 0} → State A → List (Said A)
current (include a) = said_of_some RecordType.ModeIsInclude a
current (exclude a) = said RecordType.ModeIsExclude a ∷ []

-- of a state, to queries of these sources of the group, or of none, which is one of the group (the same sections)
abbrev pub listened : {A : Type 0} → (A → A → Bool) → State A → List A → List A
listened eq (include a) asked = both eq a asked
listened eq (exclude a) asked = without eq asked a

abbrev pub responses : {A : Type 0} → (A → A → Bool) → State A → List A → List (Said A)
responses eq state [] = current state
responses eq state (one ∷ more) = said_of_some RecordType.ModeIsInclude (listened eq state (one ∷ more))

-- ---- the records in a writer

-- the octets of a record
abbrev pub said_text : {A : Type 0} → (A → List ℕ) → ℕ → A → Said A → List ℕ
said_text bytes w group (said kind sources) =
    text w (group_record kind (bytes group) (concat (map bytes sources)) [])

-- The writer holds what it held, followed by these records of a group, and they are read behind those before.
pub record Adds {A : Type 0} {ghosts : Ghosts A} (bytes : A → List ℕ) (w : ℕ) (group : A) (records : List (Said A))
    (old new : RecordsWriter A ghosts) : Type 0 where
  pub count : count_of new ≡ count_of old + length records
  pub octets : settled new ≡ settled old ++ concat (map (said_text bytes w group) records)
  pub listed : records_ahead w (count_of new) (settled new)
      ≡ records_ahead w (count_of old) (settled old) ++ map (said_text bytes w group) records
  pub none : records ≡ [] → free new ≡ free old

-- The writer has no room for all of these records: it holds the first of them, and the next does not fit.
pub record IsFull {A : Type 0} {ghosts : Ghosts A} (bytes : A → List ℕ) (w : ℕ) (group : A) (records : List (Said A))
    (old new : RecordsWriter A ghosts) : Type 0 where
  pub first : List (Said A)
  pub next : Said A
  pub others : List (Said A)
  pub all : records ≡ first ++ next ∷ others
  pub added : Adds bytes w group first old new
  pub unfit : ¬ Fits w (count_of new) (length (free new)) (length (sources_of next))

-- ---- queriers of older versions

-- the robustness variable that a query states; where it states none the default, 2 (RFC 3376 sections 4.1.6 and 8.1,
-- RFC 3810 sections 5.1.8 and 9.1)
abbrev pub robustness : ℕ → ℕ
robustness zero = 2
robustness (suc qrv) = suc qrv

-- The milliseconds for which a host speaks an older version after a query of it, by the variables of the last query of
-- the newest: the robustness variable times the querier's interval, and a response time (RFC 3376 section 8.12, RFC
-- 3810 section 9.12). Other messages have no such variables.
abbrev pub older_querier_millis : Family → Value → Option ℕ
older_querier_millis f (query code group flag qrv qqic sources) =
    Some (1000 * (robustness qrv * interval_seconds qqic) + query_millis f code)
older_querier_millis f v = None

-- a version that a host may speak: the newest, or one whose timer runs
abbrev pub MaySpeak : Family → OlderQueriers → ℕ → Type 0
MaySpeak f timers version =
    (version ≡ newest_version f)
    ⊎ ((version ≡ 1) × (0 < micros_of timers.version1))
    ⊎ ((version ≡ 2) × (0 < micros_of timers.version2))

-- the version that a host speaks: the lowest of these (RFC 3376 section 7.2.1, RFC 3810 section 8.2.1)
pub record Speaks (f : Family) (timers : OlderQueriers) (version : ℕ) : Type 0 where
  pub may : MaySpeak f timers version
  pub lowest : (other : ℕ) → MaySpeak f timers other → version ≤ other
