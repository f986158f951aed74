-- Laws of the definitions of labels, orders and representatives.
pub mod Labels
pub mod Waiting
pub mod FullOrder
pub mod Representatives
