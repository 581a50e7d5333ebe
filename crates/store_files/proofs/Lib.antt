pub mod BlockFacts
pub mod KeyFacts
pub mod FileFacts
pub mod IndexFacts
