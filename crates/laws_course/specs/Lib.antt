-- Courses.
pub mod Course
