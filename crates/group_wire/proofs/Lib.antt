pub mod Families
pub mod MembershipFormat
pub mod MembershipTexts
pub mod QueryTimes
pub mod RecordTexts
pub mod RecordsAhead
pub mod SourcesAhead
