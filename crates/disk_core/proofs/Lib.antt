pub mod Changes
pub mod Courses
pub mod Crashes
pub mod Moments
pub mod PlanExamples
