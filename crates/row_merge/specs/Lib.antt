pub mod Merge
pub mod Cursors
pub mod Brackets
pub mod Unions
