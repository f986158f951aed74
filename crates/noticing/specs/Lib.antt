pub mod Values
pub mod Notices
