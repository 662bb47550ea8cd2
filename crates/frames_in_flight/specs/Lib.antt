pub mod Flights
pub mod Framed
pub mod Read
pub mod Told
