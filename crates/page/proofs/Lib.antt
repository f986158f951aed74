pub mod PagesLaws
