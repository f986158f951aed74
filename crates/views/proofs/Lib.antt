pub mod Found
pub mod OutsideLaws
pub mod PlacingLaws
pub mod EnteringLaws
pub mod FormingLaws
