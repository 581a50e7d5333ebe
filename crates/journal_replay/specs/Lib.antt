pub mod Lookups
pub mod Follow
