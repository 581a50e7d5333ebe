pub mod Columns
pub mod Blocks
pub mod Footers
pub mod Reads
pub mod Rows
