pub mod Outside
pub mod Entering
pub mod Placing
pub mod Forming
