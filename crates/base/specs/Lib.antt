pub mod Lists
pub mod Update
pub mod Chains
pub mod Numbers
