pub mod Escapes
pub mod Faults
pub mod KeyCode
pub mod Keys
pub mod Reads
pub mod Shapes
pub mod Prefixes
pub mod Drafts
