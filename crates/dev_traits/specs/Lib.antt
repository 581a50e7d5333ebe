pub mod Causes
pub mod Faults
pub mod Image
pub mod Maker
pub mod Reader
pub mod Streams
pub mod View
