-- What an accepted call does (Accepting), laws of the definitions, the argument for demand 3 (Agreement), computed facts.
pub mod KindLaws
pub mod OpeningLaws
pub mod ServiceLaws
pub mod Ordering
pub mod Accepting
pub mod Kept
pub mod Margins
pub mod Agreement
pub mod Settling
pub mod Computing
pub mod Cards
pub mod EndCounts
pub mod RefusalNumbersLaws
pub mod KindNumbersLaws
