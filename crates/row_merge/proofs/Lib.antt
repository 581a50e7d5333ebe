pub mod OrderFacts
pub mod MergeFacts
pub mod BracketFacts
pub mod UnionFacts
