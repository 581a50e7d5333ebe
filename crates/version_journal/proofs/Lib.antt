pub mod Logs
pub mod Meanings
pub mod Saying
pub mod BodyFacts
pub mod ReadImages
