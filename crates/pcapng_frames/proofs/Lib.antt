pub mod AgainLaws
pub mod BlockLaws
pub mod DrainLaws
pub mod Options
pub mod ReadLaws
pub mod WriteLaws
