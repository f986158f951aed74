pub mod Denoted
pub mod Decimal
pub mod TextLaws
pub mod FieldsLaws
