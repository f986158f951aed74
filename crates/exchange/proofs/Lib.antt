pub mod BuiltLaws
pub mod Full
pub mod Lists
pub mod SourcesLaws
pub mod LabelsLaws
pub mod RowsLaws
pub mod MembersLaws
