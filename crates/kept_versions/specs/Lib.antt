pub mod Indexes
pub mod Files
pub mod Changes
pub mod Marking
