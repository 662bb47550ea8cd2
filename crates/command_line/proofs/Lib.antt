mod Asked
pub mod Forms
