pub mod FieldsAt
pub mod ValuesAt
