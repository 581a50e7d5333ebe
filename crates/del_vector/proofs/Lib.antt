pub mod DeadFacts
