-- What a host reports of a group, and by which message in each version (RFC 2236 section 3, RFC 2710 section 4,
-- RFC 3376 sections 5 and 7.2, RFC 3810 sections 6 and 8.2).
use Rattle.std.specs.Prelude.{ℕ, ◌==◌, Bool, false, if◌then◌else◌, Option, None, Some, List, [], ◌∷◌}
use Rattle.group_wire.specs.declared.family.Family.{Family}
use Rattle.group_wire.specs.Membership.{Value, oldest_report, older_report, leave, report}
use Rattle.group_wire.specs.Times.{newest_version}
use Rattle.control_wire.specs.MldRecordTypeType.{RecordType}
use Rattle.examples.specs.declared.reporter.report.Report.{Report}
use Rattle.examples.specs.declared.reporter.reported.AskedSource.{AskedSource}

-- a change, or the answer to queries, of sources where they asked about some
pub record Told (A : Type 0) : Type 0 where
  pub group : A
  pub is_member : Bool
  pub is_change : Bool
  pub asked : List (AskedSource A)

abbrev pub told_in : {A : Type 0} → Report A → Told A
told_in r = record {
  group = r.group;
  is_member = r.is_member;
  is_change = r.is_change;
  asked = r.asked.items;
}

-- ---- the newest version: a record

-- A member excludes no source, and who is none includes none (RFC 3376 section 5.1). Of sources that queries ask about
-- it says that it includes them (RFC 3376 section 5.2).
abbrev pub answer_type : {A : Type 0} → List (AskedSource A) → RecordType
answer_type [] = RecordType.ModeIsExclude
answer_type (one ∷ more) = RecordType.ModeIsInclude

abbrev pub record_type_of : {A : Type 0} → Told A → RecordType
record_type_of t =
    if t.is_change then (if t.is_member then RecordType.ChangeToExclude else RecordType.ChangeToInclude)
    else answer_type t.asked

-- ---- destinations

-- those of reports of the newest version: 224.0.0.22 (RFC 3376 section 4.2.14), ff02::16 (RFC 3810 section 5.2.14)
abbrev pub reports_octets : Family → List ℕ
reports_octets Family.Igmp = 224 ∷ 0 ∷ 0 ∷ 22 ∷ []
reports_octets Family.Mld = 0xff ∷ 2 ∷ 0 ∷ 0 ∷ 0 ∷ 0 ∷ 0 ∷ 0 ∷ 0 ∷ 0 ∷ 0 ∷ 0 ∷ 0 ∷ 0 ∷ 0 ∷ 0x16 ∷ []

-- all routers, whom older versions tell that a host leaves: 224.0.0.2 (RFC 2236 section 3), ff02::2
-- (RFC 2710 section 4)
abbrev pub routers_octets : Family → List ℕ
routers_octets Family.Igmp = 224 ∷ 0 ∷ 0 ∷ 2 ∷ []
routers_octets Family.Mld = 0xff ∷ 2 ∷ 0 ∷ 0 ∷ 0 ∷ 0 ∷ 0 ∷ 0 ∷ 0 ∷ 0 ∷ 0 ∷ 0 ∷ 0 ∷ 0 ∷ 0 ∷ 2 ∷ []

abbrev pub destination_of : {A : Type 0} → (A → List ℕ) → Family → ℕ → Told A → List ℕ
destination_of bytes f version t =
    if version == newest_version f then reports_octets f
    else if t.is_member then bytes t.group
    else routers_octets f

-- ---- messages

-- version 1 of IGMP, which has a report of its own, and no message for who leaves (RFC 2236 section 3)
abbrev pub is_oldest : Family → ℕ → Bool
is_oldest Family.Igmp version = version == 1
is_oldest Family.Mld version = false

abbrev pub older_message : Family → ℕ → Bool → List ℕ → Option Value
older_message f version is_member group =
    if is_oldest f version
    then (if is_member then Some (oldest_report group) else None)
    else (if is_member then Some (older_report group) else Some (leave group))

-- that of the newest version has records, by their number and octets
abbrev pub message_of : {A : Type 0} → (A → List ℕ) → Family → ℕ → ℕ → List ℕ → Told A → Option Value
message_of bytes f version count records t =
    if version == newest_version f then Some (report count records)
    else older_message f version t.is_member (bytes t.group)
