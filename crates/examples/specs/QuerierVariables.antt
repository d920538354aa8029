-- The variables of a querier, its times in milliseconds, and what its queries say (RFC 3376 sections 4.1 and 8, RFC
-- 3810 sections 5.1 and 9).
use Rattle.std.specs.Prelude.{ℕ, ◌+◌, ◌*◌, ◌/◌, nat_lt, false, if◌then◌else◌, Option, None, Some, List, []}
use Rattle.std.specs.Prelude.{replicate}
use Rattle.group_wire.specs.declared.family.Family.{Family}
use Rattle.group_wire.specs.Family.{width}
use Rattle.group_wire.specs.Membership.{Value, older_query, query}
use Rattle.group_wire.specs.Times.{interval_seconds, query_millis}
use Rattle.examples.specs.declared.querier.Asked.{Asked}
use Rattle.examples.specs.declared.querier.variables.Times.{Times}
use Rattle.examples.specs.declared.querier.variables.Variables.{Variables}

-- the query interval and the query response interval
abbrev pub interval_millis : Variables → ℕ
interval_millis v = 1000 * interval_seconds v.interval_code

abbrev pub response_millis : Family → Variables → ℕ
response_millis f v = query_millis f v.response_code

-- the times that follow from the variables (RFC 3376 sections 8.4 to 8.6 and 8.8 to 8.10, RFC 3810 sections 9.4 to 9.6
-- and 9.8 to 9.10)
abbrev pub times_of : Family → Variables → Times
times_of f v = record {
  robustness = v.robustness;
  interval = interval_millis v;
  startup_interval = interval_millis v / 4;
  membership = v.robustness * interval_millis v + response_millis f v;
  other_querier = v.robustness * interval_millis v + response_millis f v / 2;
  last_member_interval = query_millis f v.last_member_code;
  last_member_time = v.robustness * query_millis f v.last_member_code;
}

-- the time from a general query to the next, where so many are left of those at start, this one among them
abbrev pub interval_after : Times → ℕ → ℕ
interval_after times startup = if nat_lt 1 startup then times.startup_interval else times.interval

-- ---- messages

-- the group that is asked about, the unspecified address for all, by its octets; those of its source, if there is one;
-- and the response code
abbrev pub group_in : {A : Type 0} → (A → List ℕ) → Family → Asked A → List ℕ
group_in bytes f Asked.All = replicate (width f) 0
group_in bytes f (Asked.Reception key) = bytes key.group

abbrev pub octets_in : {A : Type 0} → (A → List ℕ) → Option A → List ℕ
octets_in bytes None = []
octets_in bytes (Some source) = bytes source

abbrev pub source_in : {A : Type 0} → (A → List ℕ) → Asked A → List ℕ
source_in bytes Asked.All = []
source_in bytes (Asked.Reception key) = octets_in bytes key.source

abbrev pub code_in : {A : Type 0} → Variables → Asked A → ℕ
code_in v Asked.All = v.response_code
code_in v (Asked.Reception key) = v.last_member_code

-- the query of the newest version, and that of an older one, which names no source
abbrev pub query_of : {A : Type 0} → (A → List ℕ) → Family → Variables → Asked A → Value
query_of bytes f v asked =
    query (code_in v asked) (group_in bytes f asked) false v.robustness v.interval_code (source_in bytes asked)

abbrev pub older_query_of : {A : Type 0} → (A → List ℕ) → Family → Variables → Asked A → Value
older_query_of bytes f v asked = older_query (code_in v asked) (group_in bytes f asked)
