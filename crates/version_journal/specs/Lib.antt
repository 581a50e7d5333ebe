pub mod Areas
pub mod Images
pub mod Laws
pub mod Journals
pub mod Commits
pub mod Reading
