pub mod Named
pub mod Keys
pub mod Indexes
