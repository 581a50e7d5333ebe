pub mod ExpireFacts
