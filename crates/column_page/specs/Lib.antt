pub mod CellBytes
pub mod Page
pub mod Texts
pub mod Reading
pub mod Footers
pub mod FooterReading
