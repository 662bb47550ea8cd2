pub mod ScheduleText
pub mod Owed
pub mod Course
