pub mod Marks
pub mod RawHall
pub mod CrossParts
