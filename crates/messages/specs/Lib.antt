pub mod Contents
pub mod Next
