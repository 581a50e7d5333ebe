pub mod StepFacts
pub mod IndexFacts
pub mod GroupFacts
pub mod FindFacts
pub mod ChangeFacts
