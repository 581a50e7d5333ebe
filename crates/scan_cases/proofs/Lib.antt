mod RiseFacts
pub mod PartsFacts
