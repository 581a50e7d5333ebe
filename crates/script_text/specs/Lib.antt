pub mod Scripts
pub mod Answers
pub mod Cuts
pub mod Lines
pub mod Texts
