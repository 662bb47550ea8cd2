pub mod GroupLaws
pub mod EnterLaws
pub mod SupportLaws
pub mod OnceLaws
