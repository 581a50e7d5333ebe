pub mod Days
pub mod Cells
pub mod Texts
pub mod Readings
