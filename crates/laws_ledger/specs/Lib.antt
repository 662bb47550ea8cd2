-- The ledger of a domain's runs.
pub mod Ledger
pub mod Runs
pub mod Weights
