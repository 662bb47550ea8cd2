pub mod Addresses
