pub mod Edges
pub mod Places
pub mod Held
pub mod Keep
pub mod Owners
pub mod Renewal
