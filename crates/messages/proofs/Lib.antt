pub mod ContentsLaws
pub mod NextLaws
