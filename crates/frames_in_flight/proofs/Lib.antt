pub mod FlightLaws
pub mod QueueLaws
pub mod ReadLaws
pub mod SentLaws
pub mod ToldLaws
