pub mod Listings
pub mod Lent
pub mod Kept
pub mod Going
pub mod Files
pub mod Lines
