pub mod Wanted
pub mod PartsByFile
pub mod Reading
pub mod Taking
