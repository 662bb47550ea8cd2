pub mod Causes
pub mod FirstLists
pub mod Held
pub mod InMemory
pub mod Searches
pub mod Status
pub mod model
