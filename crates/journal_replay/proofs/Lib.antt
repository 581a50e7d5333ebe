pub mod LookupFacts
pub mod StepFacts
pub mod SpanFacts
pub mod LoopFacts
