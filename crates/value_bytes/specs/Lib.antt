pub mod Fields
pub mod Reads
pub mod Telling
pub mod Writes
