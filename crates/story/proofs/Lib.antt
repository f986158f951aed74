-- Laws of the definitions by topic, the theorems of specs/Stories (Theorems), computed cards.
pub mod Computing
pub mod FieldsLaws
pub mod NumbersLaws
pub mod SetsLaws
pub mod KeywordsLaws
pub mod TakingLaws
pub mod LinesLaws
pub mod OpeningsLaws
pub mod StoriesLaws
pub mod RangesLaws
pub mod FilesLaws
pub mod Theorems
pub mod Cards
pub mod Refused
