pub mod FieldsLaws
pub mod MembersLaws
pub mod ActionLaws
pub mod OpeningLaws
