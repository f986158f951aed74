pub mod Learning
pub mod Receiving
pub mod Next
pub mod ValuesLaws
